-- Windows worked out: shifts of three rows, a row that stands twice in the order, orders without a window, and a walk to its end. Assumes nothing.
use Prim.Native.Nat.{ℕ}
use mathlib.Core.Path.{◌≡◌, refl}
use mathlib.Core.Bool.{true, false}
use mathlib.Core.List.{[], ◌∷◌}
use Rattle.std.specs.Prelude.{None, Some}
use lib.ListN.{get_or}
use Rattle.basics.specs.Tests.{all, all_below, count_below, among, distinct, is}
use Rattle.basics.specs.Edits.{Edit, rows_of, edits}
use Rattle.rules.specs.Board.{Board, empty, legal_or_empty, places}
use Rattle.rules.specs.Roster.{Roster, put, after, holds, holders}
use Rattle.rules.specs.FinalTest.{edit_reads, reads, may_become, key_passes, key_at, place_at, at_edits, capacity_passes, edges_pass, passes}
use Rattle.rotation.specs.Rotation.{rotated}
use Rattle.changed_edits.specs.Changed.{changed}
use Rattle.rematch_shift.specs.Shift.{shifted_values, shift_edits}
use Rattle.window_kinds.specs.declared.CycleWindowCursor.{CycleWindowCursor}
use Rattle.window_kinds.specs.Kinds.{rematching, cursor, first_cursor, joined_from, tries_from, lengths_from, starts_from, positions, has_window, ahead, Stepped, stepped, end_of, first_move, step_by}
use Rattle.given_lists.specs.Passing.{passing}
use Rattle.assignment_cycle.specs.Windows.{move_of, move_at, rematch_step}

-- row 0 holds value 0, row 1 value 1, row 2 value 2, row 3 nothing
abbrev held : Roster
held r = get_or (0 ∷ 1 ∷ 2 ∷ empty ∷ []) r empty

abbrev edit : ℕ → ℕ → Edit
edit r v = record { row = r; value = v }

shift_one : shift_edits held (0 ∷ 1 ∷ 2 ∷ []) 1 ≡ edit 0 1 ∷ edit 1 2 ∷ edit 2 0 ∷ []
unfolding shift_edits shifted_values rotated changed edits all
shift_one = refl

shift_two : shift_edits held (0 ∷ 1 ∷ 2 ∷ []) 2 ≡ edit 0 2 ∷ edit 1 0 ∷ edit 2 1 ∷ []
unfolding shift_edits shifted_values rotated changed edits all
shift_two = refl

-- a row that stands twice: the first time it would keep its value
row-twice : shift_edits held (0 ∷ 1 ∷ 0 ∷ []) 1 ≡ edit 0 1 ∷ edit 1 0 ∷ []
unfolding shift_edits shifted_values rotated changed edits all
row-twice = refl

-- an empty source, and one out of range, rule the variant out
empty_source : shift_edits held (0 ∷ 3 ∷ 2 ∷ []) 1 ≡ []
unfolding shift_edits shifted_values rotated changed edits all
empty_source = refl

no_such_row : shift_edits held (0 ∷ 1 ∷ 7 ∷ []) 1 ≡ []
unfolding shift_edits shifted_values rotated changed edits all
no_such_row = refl

-- four rows, size 4: each start with its lengths, each length with both variants
four_rows : positions rematching 4 4 ≡ cursor 0 3 0 4 ∷ cursor 0 3 1 4 ∷ cursor 0 4 0 4 ∷ cursor 0 4 1 4 ∷ cursor 1 3 0 4 ∷ cursor 1 3 1 4 ∷ []
unfolding starts_from lengths_from tries_from joined_from
four_rows = refl

-- with size 2 there is no window: Done at once
size_two : positions rematching 3 (first_cursor rematching 3 2).longest ≡ []
unfolding starts_from lengths_from tries_from joined_from
size_two = refl

-- right behind the first move of a window, its other variant is next
behind-a_move : ahead rematching 4 (cursor 1 3 1 4) ≡ cursor 1 3 1 4 ∷ []
unfolding ahead has_window starts_from lengths_from tries_from joined_from
behind-a_move = refl

-- ---- a walk: three rows, three values, each value with its one place

abbrev ring : Board
ring = record {
  rows = 3;
  values = 3;
  required = λ r. true;
  may_empty = λ r. false;
  candidates = λ r. [];
  legal = λ r v. true;
  capacity = λ r v. Some v;
  sequence = λ r v. None;
  rule = false;
  edge = λ l r. false;
}

abbrev step : CycleWindowCursor → Stepped
step = rematch_step ring held (0 ∷ 1 ∷ 2 ∷ [])

-- both variants are moves; the cursor stands right behind each
first_step : step (first_cursor rematching 3 4) ≡ stepped (cursor 0 3 1 3) (Some (edit 0 1 ∷ edit 1 2 ∷ edit 2 0 ∷ []))
unfolding step_by first_move end_of move_at move_of passing ahead has_window starts_from lengths_from tries_from joined_from shift_edits shifted_values rotated changed edits all all_below count_below among distinct is rows_of legal_or_empty places put after holds holders edit_reads reads may_become key_passes key_at place_at at_edits capacity_passes edges_pass passes
first_step = refl

second-step : step (cursor 0 3 1 3) ≡ stepped (cursor 0 3 2 3) (Some (edit 0 2 ∷ edit 1 0 ∷ edit 2 1 ∷ []))
unfolding step_by first_move end_of move_at move_of passing ahead has_window starts_from lengths_from tries_from joined_from shift_edits shifted_values rotated changed edits all all_below count_below among distinct is rows_of legal_or_empty places put after holds holders edit_reads reads may_become key_passes key_at place_at at_edits capacity_passes edges_pass passes
second-step = refl

-- then the walk is done, and the cursor at the end
third-step : step (cursor 0 3 2 3) ≡ stepped (cursor 3 3 0 3) None
unfolding step_by first_move end_of move_at move_of passing ahead has_window starts_from lengths_from tries_from joined_from shift_edits shifted_values rotated changed edits all all_below count_below among distinct is rows_of legal_or_empty places put after holds holders edit_reads reads may_become key_passes key_at place_at at_edits capacity_passes edges_pass passes
third-step = refl

-- a cursor that stood at the end already comes back as it was
at_the_end : step (cursor 3 3 1 3) ≡ stepped (cursor 3 3 1 3) None
unfolding step_by first_move end_of move_at move_of passing ahead has_window starts_from lengths_from tries_from joined_from shift_edits shifted_values rotated changed edits all all_below count_below among distinct is rows_of legal_or_empty places put after holds holders edit_reads reads may_become key_passes key_at place_at at_edits capacity_passes edges_pass passes
at_the_end = refl

-- with size 2 the first step is done
done_at_once : step (first_cursor rematching 3 2) ≡ stepped (cursor 3 3 0 2) None
unfolding step_by first_move end_of move_at move_of passing ahead has_window starts_from lengths_from tries_from joined_from shift_edits shifted_values rotated changed edits all all_below count_below among distinct is rows_of legal_or_empty places put after holds holders edit_reads reads may_become key_passes key_at place_at at_edits capacity_passes edges_pass passes
done_at_once = refl
