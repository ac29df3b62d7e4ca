-- What a yes of the entry means for the whole roster. Assumes nothing.
use Prim.Native.Nat.{ℕ}
use mathlib.Core.Path.{◌≡◌}
use mathlib.Core.Logic.{◌↔◌}
use mathlib.Core.Bool.{true}
use mathlib.Core.List.{List}
use lib.IntN.{ℤ}
use Rattle.std.specs.Prelude.{Ok}
use Rattle.refusals.proofs.AnswerLaws.{yes_iff}
use Rattle.rules.specs.Sound.{Sound, sound_test}
use Rattle.rules.proofs.Soundness.{sound_iff}
use Rattle.assignment_tables.specs.declared.Shape.{Shape}
use Rattle.assignment_tables.specs.Tables.{board}
use Rattle.assignment_index.specs.Index.{roster_in}
use Rattle.assignment_state.specs.Admission.{admission}
use Rattle.sound_rosters.specs.SoundVerdict.{sound_verdict}

module _ (S : Shape) (m k : List ℕ) (p : List ℤ) (R M : List ℕ) where
  -- the roster is called sound exactly if the slices are admitted and it is
  pub roster_sound_iff : sound_verdict S m k p R M ≡ Ok true ↔ ((admission S m k p R M true ≡ Ok tt) × Sound (board S m k) (roster_in S.rows R))
  unfolding sound_verdict
  roster_sound_iff =
      let n = admission S m k p R M true in
      let b = sound_test (board S m k) (roster_in S.rows R) in
      let s = sound_iff (board S m k) (roster_in S.rows R) in
      (λ h. (((yes_iff n b).0 h).0, s.0 ((yes_iff n b).0 h).1), λ h. (yes_iff n b).1 (h.0, s.1 h.1))
