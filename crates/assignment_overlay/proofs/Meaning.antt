-- What a yes of the final test means for the whole roster. Assumes nothing.
use Prim.Native.Nat.{ℕ}
use mathlib.Core.Path.{◌≡◌}
use mathlib.Core.Logic.{◌↔◌}
use mathlib.Core.List.{List}
use lib.ListN.{length}
use lib.Dec.{eqb}
use lib.IntN.{ℤ}
use Rattle.std.specs.Prelude.{Ok, true}
use Rattle.refusals.proofs.AnswerLaws.{yes_iff}
use Rattle.basics.specs.Edits.{edits}
use Rattle.rules.specs.Roster.{after}
use Rattle.rules.specs.FinalTest.{passes}
use Rattle.rules.specs.Sound.{Sound, Proper}
use Rattle.soundness.proofs.Exact.{exact}
use Rattle.assignment_tables.specs.declared.Shape.{Shape}
use Rattle.assignment_tables.specs.Tables.{board}
use Rattle.assignment_index.specs.Index.{roster_in}
use Rattle.assignment_state.specs.Admission.{admission}
use Rattle.assignment_overlay.specs.Verdicts.{final_verdict}

module _ (S : Shape) (m k : List ℕ) (p : List ℤ) (R M : List ℕ) where
  -- from a sound roster, a list passes exactly if the slices are admitted, the list is proper, and it leaves a sound roster
  pub feasible_iff : (rs vs : List ℕ) → Sound (board S m k) (roster_in S.rows R) → final_verdict S m k p R M rs vs ≡ Ok true
      ↔ ((admission S m k p R M (eqb (length rs) (length vs)) ≡ Ok tt) × (Proper (board S m k) (roster_in S.rows R) (edits rs vs) × Sound (board S m k) (after (roster_in S.rows R) (edits rs vs))))
  unfolding final_verdict
  feasible_iff rs vs w =
      let n = admission S m k p R M (eqb (length rs) (length vs)) in
      let b = passes (board S m k) (roster_in S.rows R) (edits rs vs) in
      let x = exact (board S m k) (roster_in S.rows R) (edits rs vs) w in
      (λ h. (((yes_iff n b).0 h).0, x.0 ((yes_iff n b).0 h).1), λ h. (yes_iff n b).1 (h.0, x.1 h.1))
