-- Testing and applying a list, case by case. Assumes nothing.
use Prim.Native.Nat.{ℕ}
use mathlib.Core.Path.{◌≡◌, refl, sym, ◌∙◌}
use mathlib.Core.Logic.{◌⊎◌, inl, inr}
use mathlib.Core.Bool.{Bool, true, false, not}
use mathlib.Core.List.{List}
use lib.ListN.{length}
use lib.Dec.{eqb}
use lib.IntN.{ℤ}
use borrow.Author.Tests.{eqb-true, not-true, not-false}
use Rattle.std.specs.Prelude.{Ok, Err}
use Rattle.refusals.specs.declared.Refusal.{Refusal}
use Rattle.refusals.specs.Refusals.{Checked, Answered}
use Rattle.basics.specs.Edits.{edits, Listed}
use Rattle.basics.proofs.Bools.{clash}
use Rattle.rules.specs.Roster.{Roster, after}
use Rattle.rules.specs.FinalTest.{passes}
use Rattle.assignment_tables.specs.declared.Shape.{Shape}
use Rattle.assignment_tables.specs.Tables.{board}
use Rattle.assignment_index.specs.Index.{members_of, roster_in, Indexed}
use Rattle.assignment_state.specs.Admission.{admission}
use Rattle.assignment_state.proofs.AdmitLaws.{ready}
use Rattle.assignment_updates.specs.Refresh.{records_by}
use Rattle.assignment_overlay.specs.Verdicts.{final_verdict}
use Rattle.passed_lists.proofs.Laws.{passing-listed}
use Rattle.applied_lists.specs.Applying.{Applied, leaves, acting, applied, applying}

-- the core: the list fails, or was applied
module _ (S : Shape) (m k R M rs vs : List ℕ) (b : Bool) (e : b ≡ passes (board S m k) (roster_in S.rows R) (edits rs vs)) where
  pub fails : not b ≡ true → leaves (Ok false) R M ≡ applied S m k R M rs vs
  unfolding applied acting
  fails t = rw (← e, not-true b t)

  pub listed : length rs ≡ length vs → not b ≡ false → Listed S.rows rs vs
  listed l t = passing-listed (board S m k) (roster_in S.rows R) rs vs l (sym e ∙ not-false b t)

  pub goes : not b ≡ false → (R' M' : List ℕ) → R' ≡ records_by S m k (after (roster_in S.rows R) (edits rs vs)) → M' ≡ members_of S.rows R'
      → leaves (Ok true) R' M' ≡ applied S m k R M rs vs
  unfolding applied acting
  goes t R' M' x y = rw (← e, not-false b t) (rw (y, x))

-- the entry: refused, or what the core leaves
module _ (S : Shape) (m k : List ℕ) (p : List ℤ) (R M rs vs : List ℕ) (a : Checked) (e : a ≡ admission S m k p R M (eqb (length rs) (length vs))) where
  pub refused : (r : Refusal) → a ≡ Err r → (v : Answered Bool) → v ≡ Err r → leaves v R M ≡ applying S m k p R M rs vs
  unfolding applying final_verdict acting
  refused r z v y = rw (y, ← e, z)

  pub admitted : a ≡ Ok tt → Indexed S m k R M × (length rs ≡ length vs)
  admitted z = let r = ready S m k p R M (eqb (length rs) (length vs)) (sym e ∙ z) in (r.0.index, eqb-true _ _ r.1)

  pub answered : a ≡ Ok tt → (x : Applied) → x ≡ applied S m k R M rs vs → x ≡ applying S m k p R M rs vs
  unfolding applying applied final_verdict
  answered z x q = q ∙ rw (← e, z)

-- whatever the verdict
module _ (S : Shape) (m k : List ℕ) (h : Roster) (R M : List ℕ) where
  pub answer-is : (v : Answered Bool) → (acting S m k h R M v).answer ≡ v
  unfolding acting
  answer-is (Ok true) = refl
  answer-is (Ok false) = refl
  answer-is (Err n) = refl

  pub unless_yes : (v : Answered Bool) → (v ≡ Ok true → ⊥) → ((acting S m k h R M v).records ≡ R) × ((acting S m k h R M v).members ≡ M)
  unfolding acting
  unless_yes (Ok true) n = absurd (n refl)
  unless_yes (Ok false) n = (refl, refl)
  unless_yes (Err a) n = (refl, refl)

  pub acts_alike : (g : Roster) (v : Answered Bool) → (v ≡ Ok true → h ≡ g) → acting S m k h R M v ≡ acting S m k g R M v
  unfolding acting
  acts_alike g (Ok true) f = rw (f refl)
  acts_alike g (Ok false) f = refl
  acts_alike g (Err n) f = refl

pub yes_or_not : (v : Answered Bool) → (v ≡ Ok true) ⊎ (v ≡ Ok true → ⊥)
yes_or_not (Ok true) = inl refl
yes_or_not (Ok false) = inr (λ e. let c : true ≡ false = cc in clash refl c)
yes_or_not (Err n) = inr (λ e. let c : true ≡ false = cc in clash refl c)
