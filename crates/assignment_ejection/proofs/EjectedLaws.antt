-- The stages of an ejection put together, and the answers case by case. Assumes nothing.
use Prim.Native.Nat.{ℕ, ◌≤◌}
use mathlib.Core.Path.{◌≡◌, sym, ap, ◌∙◌}
use mathlib.Core.Bool.{Bool, true, false, not, ◌&&◌}
use mathlib.Core.List.{List, ◌++◌}
use Rattle.std.specs.Prelude.{Option, Ok, Err, Some, None}
use native.Mathlib.Omega.{arith}
use lib.ListN.{length, take, drop, replicate, length-append, length-replicate}
use lib.Dec.{leb}
use lib.Seq.{take_at}
use lib.IntN.{ℤ}
use borrow.Author.Tests.{leb-true, not-true, not-false}
use Rattle.refusals.specs.Refusals.{Checked, Answered}
use Rattle.refusals.specs.declared.Refusal.{Refusal}
use Rattle.basics.specs.Edits.{edits}
use Rattle.basics.proofs.Bools.{and_left, and_right}
use Rattle.refusals.specs.declared.Refusal.TheVariants as refusal
use Rattle.rules.specs.Board.{Board, empty}
use Rattle.rules.specs.Roster.{Roster}
use Rattle.outputs.specs.Outputs.{cells, InFront}
use Rattle.outputs.proofs.CellLaws.{take_cells}
use Rattle.refusals.proofs.AnswerLaws.{refused-before, refused-room, not_refused}
use Rattle.assignment_tables.specs.declared.Shape.{Shape}
use Rattle.assignment_tables.specs.Tables.{board}
use Rattle.assignment_index.specs.Index.{roster_in}
use Rattle.assignment_state.specs.Admission.{admission, Ready}
use Rattle.assignment_state.proofs.AdmitLaws.{ready}
use Rattle.changed_edits.specs.Changed.{changed}
use Rattle.ejection_turns.specs.Turns.{Returning}
use Rattle.ejection_turns.specs.Ejection.{Turned, turned, put_back, places_from, list_from, ejection}
use Rattle.assignment_ejection.specs.Ejected.{Left, leaves, given, ejected, ejecting}

-- ---- the stages

-- the front of the scratch cells: as many as the window has rows, all empty
module _ (window W : List ℕ) (l : length window ≤ 128) (e : W ≡ cells empty) where
  abbrev n : ℕ
  n = length window

  all-empty : take n W ≡ replicate n empty
  all-empty = ap (take n) e ∙ take_cells n empty l

  pub cells_long : n ≡ length (take n W)
  cells_long = sym (ap length all-empty ∙ length-replicate n empty)

  -- with values written over them
  module _ (values : List ℕ) (f : length values ≡ length (take n W)) where
    abbrev now : List ℕ
    now = values ++ drop n W

    as_many : length values ≡ n
    as_many = f ∙ sym cells_long

    pub values-within : n ≤ length now
    values-within = omega (arith, as_many, length-append values (drop n W))

    front : take n now ≡ values
    front = take_at values (drop n W) n as_many

    pub values_long : n ≡ length (take n now)
    values_long = sym (ap length front ∙ as_many)

    module _ (B : Board) (h : Roster) (limit : Option ℕ) (attempt : ℕ) (O U : List ℕ) (b : Bool) (g : turned b values ≡ put_back B h limit attempt window (places_from attempt window) (take n W)) where
      -- what the definition goes on with
      gives : given (list_from h window (turned b values)) O U ≡ ejected B h limit attempt window O U
      unfolding ejection
      gives = ap (λ (t : Turned). given (list_from h window t) O U) (g ∙ ap (put_back B h limit attempt window (places_from attempt window)) all-empty)

      pub none_given : not b ≡ true → leaves (Ok None) O U ≡ ejected B h limit attempt window O U
      none_given t = ap (λ (x : Bool). given (list_from h window (turned x values)) O U) (sym (not-true b t)) ∙ gives

      pub list_given : not b ≡ false → (x : ℕ) (O' U' : List ℕ) → InFront (changed h (edits window (take n now))) O U O' U' x
          → leaves (Ok (Some x)) O' U' ≡ ejected B h limit attempt window O U
      list_given t x O' U' w =
          rw (w.number, w.rows, w.values, front)
          (ap (λ (y : Bool). given (list_from h window (turned y values)) O U) (sym (not-false b t)) ∙ gives)

-- ---- the answers

-- what is admitted can be put back
pub returning : (S : Shape) (m k : List ℕ) (p : List ℤ) (R M : List ℕ) → Ready S m k p R M → Returning S m k R M
returning S m k p R M r = record { index = r.index; candidates_fit = r.tables.candidates_fit }

module _ (S : Shape) (m k : List ℕ) (p : List ℤ) (R M window : List ℕ) (attempt : ℕ) (limit : Option ℕ) (O U : List ℕ) (own : Bool) (f : own ≡ leb (length window) 128) (a : Checked) (e : a ≡ admission S m k p R M own) where
  abbrev said : Refusal → Left
  said n = leaves (Err n) O U

  abbrev answer : Left
  answer = ejected (board S m k) (roster_in S.rows R) limit attempt window O U

  abbrev room : Bool
  room = leb (length window) (length O) && leb (length window) (length U)

  told : a ≡ admission S m k p R M (leb (length window) 128)
  told = e ∙ ap (admission S m k p R M) f

  pub not_admitted : (r : Refusal) → a ≡ Err r → said r ≡ ejecting S m k p R M window attempt limit O U
  unfolding ejecting
  not_admitted r z = rw (← told) (refused-before said answer a room r z)

  module _ (z : a ≡ Ok tt) where
    pub admitted : Returning S m k R M
    admitted = returning S m k p R M (ready S m k p R M own (sym e ∙ z)).0

    pub short_window : length window ≤ 128
    short_window = leb-true _ _ (sym f ∙ (ready S m k p R M own (sym e ∙ z)).1)

    pub too_short : not room ≡ true → said refusal.Room ≡ ejecting S m k p R M window attempt limit O U
    unfolding ejecting
    too_short t = rw (← told) (refused-room said answer a room z (not-true room t))

    module _ (t : not room ≡ false) where
      pub long_enough : (length window ≤ length O) × (length window ≤ length U)
      long_enough =
          let enough = not-false room t in
          (leb-true _ _ (and_left (leb (length window) (length O)) _ enough), leb-true _ _ (and_right (leb (length window) (length O)) _ enough))

      pub answered : (r : Answered (Option ℕ)) (O' U' : List ℕ) → leaves r O' U' ≡ answer → leaves r O' U' ≡ ejecting S m k p R M window attempt limit O U
      unfolding ejecting
      answered r O' U' g = g ∙ rw (← told) (not_refused said answer a room z (not-false room t))
