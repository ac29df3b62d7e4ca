-- A list given back where it passes: what each test of the code leaves of it. Assumes nothing.
use Prim.Native.Nat.{ℕ, ◌≤◌, ◌<◌}
use mathlib.Core.Path.{◌≡◌, refl, sym, ap, ◌∙◌}
use mathlib.Core.Bool.{Bool, true, false, not}
use mathlib.Core.List.{List}
use Rattle.std.specs.Prelude.{None, Some}
use native.Mathlib.Omega.{arith}
use lib.ListN.{length}
use borrow.Author.Tests.{lt-ltb, le-ltb, not-true, not-false}
use Rattle.basics.specs.Edits.{Edit, edits}
use Rattle.basics.proofs.Edits.{length-edits, rows_edits, values-edits}
use Rattle.rules.specs.Board.{Board}
use Rattle.rules.specs.Roster.{Roster}
use Rattle.rules.specs.FinalTest.{passes}
use Rattle.rules.proofs.Passing.{few_edits}
use Rattle.outputs.specs.Outputs.{fronted}
use Rattle.outputs.specs.Giving.{GivenBack}
use Rattle.given_lists.specs.Passing.{passing, move_in}

-- ---- the final test of a list

module _ (B : Board) (h : Roster) (L : List Edit) where
  pub passing-yes : passes B h L ≡ true → passing B h L ≡ Some L
  unfolding passing
  passing-yes t = rw t

  pub passing_no : passes B h L ≡ false → passing B h L ≡ None
  unfolding passing
  passing_no f = rw f

module _ (B : Board) (h : Roster) (rs vs : List ℕ) (e : length rs ≡ length vs) (b : Bool) (f : b ≡ passes B h (edits rs vs)) (O U : List ℕ) where
  pub not_passing : not b ≡ true → GivenBack (passing B h (edits rs vs)) O U O U 0
  unfolding passing
  not_passing t = rw (← f, not-true b t) (record { number = refl; rows = refl; values = refl })

  module _ (t : not b ≡ false) where
    pub few_rows : length rs ≤ B.rows
    few_rows = omega (arith, length-edits rs vs e, few_edits B h (edits rs vs) (sym f ∙ not-false b t))

    pub given : (O' U' : List ℕ) → O' ≡ fronted rs O → U' ≡ fronted vs U → GivenBack (passing B h (edits rs vs)) O U O' U' (length rs)
    unfolding passing
    given O' U' x y = rw (← f, not-false b t) (record {
      number = sym (length-edits rs vs e);
      rows = x ∙ ap (λ (l : List ℕ). fronted l O) (sym (rows_edits rs vs e));
      values = y ∙ ap (λ (l : List ℕ). fronted l U) (sym (values-edits rs vs e));
    })

-- ---- whether it has an edit

module _ (B : Board) (h : Roster) (rs vs : List ℕ) (e : length rs ≡ length vs) (O U : List ℕ) where
  pub no_edit : length rs < 1 → GivenBack (move_in B h (edits rs vs)) O U O U 0
  unfolding move_in
  no_edit l = rw (lt-ltb (length (edits rs vs)) 1 (omega (arith, length-edits rs vs e))) (record { number = refl; rows = refl; values = refl })

  pub edited : 1 ≤ length rs → (O' U' : List ℕ) (r : ℕ) → GivenBack (passing B h (edits rs vs)) O U O' U' r → GivenBack (move_in B h (edits rs vs)) O U O' U' r
  unfolding move_in
  edited l O' U' r g = rw (le-ltb (length (edits rs vs)) 1 (omega (arith, length-edits rs vs e))) g
