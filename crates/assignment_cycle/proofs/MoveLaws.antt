-- The move that a variant of a window is, if it is one: what each test of the code leaves of it. Assumes nothing.
use Prim.Native.Nat.{ℕ, ◌≤◌, ◌<◌}
use mathlib.Core.Path.{◌≡◌, refl, sym, ap, ap₂, ◌∙◌}
use mathlib.Core.Bool.{true}
use mathlib.Core.List.{List}
use Rattle.std.specs.Prelude.{Some}
use Rattle.std.proofs.lemmas.Option.{none-some, same_Some}
use native.Mathlib.Omega.{arith}
use lib.ListN.{length, take, drop, length-take}
use lib.Seq.{take_at}
use lib.Dec.{ltb}
use borrow.Author.Tests.{lt-ltb, le-ltb, ltb-false}
use Rattle.basics.specs.Edits.{Edit, rows_of, values_of, edits}
use Rattle.basics.proofs.Bools.{either}
use Rattle.basics.proofs.Edits.{length_rows, length-values, edits-back}
use Rattle.rules.specs.Board.{Board}
use Rattle.rules.specs.Roster.{Roster}
use Rattle.rules.specs.FinalTest.{passes}
use Rattle.outputs.specs.Outputs.{InFront}
use Rattle.outputs.specs.Giving.{GivenBack}
use Rattle.rematch_shift.specs.Shift.{shift_edits}
use Rattle.window_kinds.specs.declared.CycleWindowCursor.{CycleWindowCursor}
use Rattle.window_kinds.specs.Kinds.{window_at, shift_of}
use Rattle.given_lists.specs.Passing.{passing}
use Rattle.assignment_cycle.specs.Windows.{move_of, move_at}

-- ---- a shift of a window

-- the edits in the fronts of two slices
module _ (L : List Edit) (rs₀ vs₀ rs vs : List ℕ) (n : ℕ) (q : InFront L rs₀ vs₀ rs vs n) where
  rows_are : take n rs ≡ rows_of L
  rows_are = ap (take n) q.rows ∙ take_at (rows_of L) (drop (length (rows_of L)) rs₀) n (length_rows L ∙ sym q.number)

  values_are : take n vs ≡ values_of L
  values_are = ap (take n) q.values ∙ take_at (values_of L) (drop (length (values_of L)) vs₀) n (length-values L ∙ sym q.number)

  pub rows_long : n ≡ length (take n rs)
  rows_long = q.number ∙ sym (ap length rows_are ∙ length_rows L)

  pub values_long : n ≡ length (take n vs)
  values_long = q.number ∙ sym (ap length values_are ∙ length-values L)

  pub as_long : length (take n rs) ≡ length (take n vs)
  as_long = sym rows_long ∙ values_long

  pub rows_room : n ≤ length rs
  rows_room = omega (arith, rows_long, length-take n rs)

  pub values-room : n ≤ length vs
  values-room = omega (arith, values_long, length-take n vs)

  pub front-edits : edits (take n rs) (take n vs) ≡ L
  front-edits = ap₂ edits rows_are values_are ∙ edits-back L

  pub fronts_are : (B : Board) (h : Roster) → passing B h (edits (take n rs) (take n vs)) ≡ passing B h L
  fronts_are B h = ap (passing B h) front-edits

module _ (B : Board) (h : Roster) (W : List ℕ) (d : ℕ) (rs₀ vs₀ rs vs : List ℕ) (n : ℕ) (q : InFront (shift_edits h W d) rs₀ vs₀ rs vs n) (O U : List ℕ) where
  pub too_few : n < 2 → GivenBack (move_of B h W d) O U O U 0
  unfolding move_of
  too_few l = rw (lt-ltb (length (shift_edits h W d)) 2 (omega (arith, q.number))) (record { number = refl; rows = refl; values = refl })

  pub enough : 2 ≤ n → (O' U' : List ℕ) (r : ℕ) → GivenBack (passing B h (edits (take n rs) (take n vs))) O U O' U' r → GivenBack (move_of B h W d) O U O' U' r
  unfolding move_of
  enough l O' U' r g = rw (le-ltb (length (shift_edits h W d)) 2 (omega (arith, q.number))) (rw (fronts_are (shift_edits h W d) rs₀ vs₀ rs vs n q B h) at g)

-- ---- a move has two edits at least, and passes the final test

pub move_told : (B : Board) (h : Roster) (W : List ℕ) (d : ℕ) (L : List Edit) → move_of B h W d ≡ Some L
    → (L ≡ shift_edits h W d) × (2 ≤ length L) × (passes B h L ≡ true)
unfolding move_of passing
move_told B h W d L m =
    either (ltb (length (shift_edits h W d)) 2)
    (λ t. absurd (none-some L (rw t at m)))
    (λ f. either (passes B h (shift_edits h W d))
    (λ t. let same : shift_edits h W d ≡ L = same_Some _ _ (rw (f, t) at m) in
    (sym same, rw (← same) (ltb-false _ _ f), rw (← same) t))
    (λ n. absurd (none-some L (rw (f, n) at m))))

-- the same at a cursor
pub some_edits : (B : Board) (h : Roster) (order : List ℕ) (c : CycleWindowCursor) (L : List Edit) → move_at B h order c ≡ Some L → 1 ≤ length L
unfolding move_at
some_edits B h order c L m = omega (arith, (move_told B h (window_at order c) (shift_of c) L m).1)

-- the window and the shift that the code has
pub window_given : (B : Board) (h : Roster) (order : List ℕ) (c : CycleWindowCursor) (W : List ℕ) (d : ℕ) → W ≡ window_at order c → d ≡ shift_of c → (O U O' U' : List ℕ) (r : ℕ)
    → GivenBack (move_of B h W d) O U O' U' r → GivenBack (move_at B h order c) O U O' U' r
unfolding move_at
window_given B h order c W d x y O U O' U' r g = rw (x, y) at g
