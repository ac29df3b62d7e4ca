-- A walk by calls of an entry, of either kind: once it begins it is never refused, and the calls give back the moves of the walk. Assumes nothing.
use Prim.Native.Nat.{ℕ, zero, suc, ◌≤◌}
use mathlib.Core.Path.{◌≡◌, refl, ap, ap₂, ◌∙◌}
use mathlib.Core.List.{List}
use Rattle.std.specs.Prelude.{Option, None, Some, Ok}
use native.Mathlib.Omega.{arith}
use lib.ListN.{length, drop, length-append, length-drop}
use lib.Seq.{take_at}
use lib.Dec.{leb}
use lib.IntN.{ℤ}
use borrow.Author.Tests.{leb-true, le-leb}
use Rattle.basics.specs.Edits.{Edit, rows_of, values_of, edits}
use Rattle.basics.proofs.Edits.{length_rows, length-values, edits-back}
use Rattle.outputs.specs.Outputs.{fronted}
use Rattle.outputs.specs.Giving.{rows_left, values_left}
use Rattle.refusals.specs.Answers.{then_unless, unless_refused}
use Rattle.assignment_tables.specs.declared.Shape.{Shape}
use Rattle.assignment_state.specs.Admission.{admission}
use Rattle.assignment_state.proofs.AdmitLaws.{ready}
use Rattle.window_kinds.specs.declared.CycleWindowCursor.{CycleWindowCursor}
use Rattle.window_kinds.specs.Kinds.{Kind, Walkable, first_cursor, Stepped, step_by, Fitting, onward, walk, moves_of, all_tries}
use Rattle.window_kinds.specs.Stepping.{Stepping, answer_of, answering}
use Rattle.window_kinds.proofs.CursorLaws.{first_fits, told-fits}
use Rattle.window_kinds.proofs.WalkLaws.{next_fits}
use Rattle.window_kinds.proofs.Walked.{walked}
use Rattle.assignment_cycle.specs.Stepping.{step_refusal, stepping_by}
use Rattle.assignment_cycle.specs.Walk.{list_of, calls}

-- what is left unrefused: admitted slices, an order that is not too long, a cursor that fits, and room
pub record Begun (K : Kind) (S : Shape) (m k : List ℕ) (p : List ℤ) (R M order : List ℕ) (c : CycleWindowCursor) (O U : List ℕ) : Type 0 where
  pub admitted : admission S m k p R M (leb (length order) 128) ≡ Ok tt
  pub fitting : Fitting K (length order) c
  pub rows : S.rows ≤ length O
  pub values : S.rows ≤ length U

module _ (K : Kind) (move : CycleWindowCursor → Option (List Edit)) (S : Shape) (m k : List ℕ) (p : List ℤ) (R M order : List ℕ) where
  abbrev step : CycleWindowCursor → Stepped
  step = step_by K move (length order)

  abbrev entry : CycleWindowCursor → List ℕ → List ℕ → Stepping
  entry = stepping_by K move S m k p R M order

  module _ (c : CycleWindowCursor) (O U : List ℕ) (b : Begun K S m k p R M order c O U) where
    pub unrefused : step_refusal K S m k p R M order c O U ≡ Ok tt
    unfolding step_refusal then_unless
    unrefused = rw (b.admitted, told-fits K (length order) c b.fitting, le-leb _ _ b.rows, le-leb _ _ b.values)

    pub entry-is : entry c O U ≡ answering (step c) O U
    unfolding stepping_by unless_refused
    entry-is = rw unrefused

-- ---- what a call leaves for the next one

fronted_long : (xs O : List ℕ) → length O ≤ length (fronted xs O)
fronted_long xs O = omega (arith, length-append xs (drop (length xs) O), length-drop (length xs) O)

rows_stay : (o : Option (List Edit)) (O : List ℕ) → length O ≤ length (rows_left o O)
rows_stay None O = omega arith
rows_stay (Some L) O = fronted_long (rows_of L) O

values_stay : (o : Option (List Edit)) (U : List ℕ) → length U ≤ length (values_left o U)
values_stay None U = omega arith
values_stay (Some L) U = fronted_long (values_of L) U

-- the list that is given back is the move
pub list_read : (o : Option (List Edit)) (O U : List ℕ) → list_of (answer_of o) (rows_left o O) (values_left o U) ≡ o
list_read None O U = refl
list_read (Some L) O U =
    ap Some
    (ap₂ edits (take_at (rows_of L) (drop (length (rows_of L)) O) (length L) (length_rows L)) (take_at (values_of L) (drop (length (values_of L)) U) (length L) (length-values L))
    ∙ edits-back L)

module _ (K : Kind) (u : Walkable K) (move : CycleWindowCursor → Option (List Edit)) (S : Shape) (m k : List ℕ) (p : List ℤ) (R M order : List ℕ) where
  abbrev onto : CycleWindowCursor → Stepped
  onto = step_by K move (length order)

  -- a walk that has begun goes on unrefused
  pub goes_on : (c : CycleWindowCursor) (O U : List ℕ) → Begun K S m k p R M order c O U
      → Begun K S m k p R M order (onto c).next (rows_left (onto c).move O) (values_left (onto c).move U)
  goes_on c O U b =
      let r = ready S m k p R M (leb (length order) 128) b.admitted in
      record {
        admitted = b.admitted;
        fitting = next_fits K u move (length order) (leb-true _ _ r.1) c b.fitting;
        rows = omega (arith, b.rows, rows_stay (onto c).move O);
        values = omega (arith, b.values, values_stay (onto c).move U);
      }

  -- the calls give back what the walk gives
  pub calls_are : (j : ℕ) (c : CycleWindowCursor) (O U : List ℕ) → Begun K S m k p R M order c O U
      → calls (stepping_by K move S m k p R M order) j c O U ≡ walk onto j c
  unfolding calls walk answering
  calls_are zero c O U b = refl
  calls_are (suc j) c O U b =
      rw (entry-is K move S m k p R M order c O U b, list_read (onto c).move O U)
      (ap (onward (onto c).move) (calls_are j (onto c).next _ _ (goes_on c O U b)))

  -- from a new cursor, over admitted slices and with room, as many calls as there are positions give back the move of each that is one
  pub all_moves : (size : ℕ) (O U : List ℕ) → admission S m k p R M (leb (length order) 128) ≡ Ok tt → S.rows ≤ length O → S.rows ≤ length U
      → (j : ℕ) → length (all_tries K (length order) size) ≤ j
      → calls (stepping_by K move S m k p R M order) j (first_cursor K (length order) size) O U ≡ moves_of move (all_tries K (length order) size)
  all_moves size O U a x y j l =
      let r = ready S m k p R M (leb (length order) 128) a in
      calls_are j (first_cursor K (length order) size) O U (record { admitted = a; fitting = first_fits K (length order) size; rows = x; values = y })
      ∙ (walked K u move (length order) size (leb-true _ _ r.1)).gives j l
