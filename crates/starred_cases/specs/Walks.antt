-- Ejection windows of board T, roster A, walked (docs/RULES.md, 9.4 to 9.6): a table of steps, and one theorem, by computation. As in `Cases`, each is put to the entry on an index that was built.
use Rattle.std.specs.Prelude.{ℕ, ◌≡◌, refl, List, [], ◌∷◌, map, replicate, Ok, Err, Option, Some, None}
use Rattle.refusals.specs.Refusals.{Answered}
use Rattle.basics.specs.Tests.{all, all_below, count_below, all_of_below, list_below, among, distinct, is, same_numbers}
use Rattle.basics.specs.Edits.{rows_of, edits}
use Rattle.basics.specs.Sorting.{insert_sorted, sort}
use Rattle.refusals.specs.declared.Refusal.TheVariants as refusal
use Rattle.rules.specs.Board.{limited, legal_or_empty, places}
use Rattle.rules.specs.Roster.{put, after, holds, holders}
use Rattle.rules.specs.FinalTest.{edit_reads, reads, may_become, key_passes, key_at, place_at, at_edits, capacity_passes, edges_pass, passes}
use Rattle.rules.specs.Reinsertion.{beside_passes, reinserts}
use Rattle.refusals.specs.Answers.{then_unless, unless_refused}
use Rattle.rotation.specs.Rotation.{rotated}
use Rattle.sorted_cells.specs.Codes.{key, row_of}
use Rattle.membership.specs.Canonical.{is_member, member_codes, membership_of}
use Rattle.membership.specs.Cells.{cells}
use Rattle.changed_edits.specs.Changed.{changed}
use Rattle.assignment_tables.specs.Cells.{row_flag, cell_flag, cell_key}
use Rattle.assignment_tables.specs.Tables.{candidates_at}
use Rattle.assignment_tables.specs.Refusal.{lengths_fit, sized, candidates_fit, all_candidates_fit, tables_refusal}
use Rattle.assignment_index.specs.Columns.{column, records_length, members_length}
use Rattle.assignment_index.specs.Index.{records_of, members_of, is_index}
use Rattle.assignment_state.specs.Admission.{index_lengths, holdable, all_holdable, admission}
use Rattle.assignment_updates.specs.Refresh.{Left, leaving, build_refusal, built}
use Rattle.window_kinds.specs.declared.CycleWindowCursor.{CycleWindowCursor}
use Rattle.window_kinds.specs.Kinds.{reinserting, cursor, first_cursor, joined_from, tries_from, lengths_from, starts_from, has_window, ahead, end_of, first_move, step_by, fits_by}
use Rattle.window_kinds.specs.Stepping.{Stepping, leaves, answering}
use Rattle.given_lists.specs.Passing.{passing, move_in}
use Rattle.assignment_cycle.specs.Stepping.{step_refusal, stepping_by}
use Rattle.ejection_turns.specs.Ejection.{first_that, allowed_at, taken, stuck, put_back, ejection}
use Rattle.ejection_cycle.specs.Reinserting.{reinsert_move, reinsert_at, reinsert_stepping}
use Rattle.blackboard.specs.BoardT.{tables_t, roster_a}

-- an order, a cursor, how many cells each output has; and what the step answers, the cursor behind it, and the outputs
pub record Case : Type 0 where
  pub order : List ℕ
  pub at : CycleWindowCursor
  pub room : ℕ
  pub answer : Answered (Option ℕ)
  pub next : CycleWindowCursor
  pub rows : List ℕ
  pub values : List ℕ

abbrev case : List ℕ → CycleWindowCursor → ℕ → Answered (Option ℕ) → CycleWindowCursor → List ℕ → List ℕ → Case
case order at room answer next rows values = record { order = order; at = at; room = room; answer = answer; next = next; rows = rows; values = values }

-- cells before anything is written
abbrev nines : ℕ → List ℕ
nines n = replicate n 9

abbrev order : List ℕ
order = 0 ∷ 1 ∷ 3 ∷ []

-- a step that gives nothing
abbrev unmoved : CycleWindowCursor → Answered (Option ℕ) → CycleWindowCursor → Case
unmoved at answer next = case order at 4 answer next (nines 4) (nines 4)

unfoldable pub cases : List Case
cases =
    -- the one move of the walk, for windows of two rows, of three, and as many as there are
    case order (first_cursor reinserting 3 2) 4 (Ok (Some 2)) (cursor 1 2 2 2) (1 ∷ 3 ∷ 9 ∷ 9 ∷ []) (2 ∷ 1 ∷ 9 ∷ 9 ∷ [])
    ∷ case order (first_cursor reinserting 3 3) 4 (Ok (Some 2)) (cursor 1 2 2 3) (1 ∷ 3 ∷ 9 ∷ 9 ∷ []) (2 ∷ 1 ∷ 9 ∷ 9 ∷ [])
    ∷ case order (first_cursor reinserting 3 4) 4 (Ok (Some 2)) (cursor 1 2 2 3) (1 ∷ 3 ∷ 9 ∷ 9 ∷ []) (2 ∷ 1 ∷ 9 ∷ 9 ∷ [])
    -- the attempt that makes it, by itself
    ∷ case order (cursor 1 2 1 2) 4 (Ok (Some 2)) (cursor 1 2 2 2) (1 ∷ 3 ∷ 9 ∷ 9 ∷ []) (2 ∷ 1 ∷ 9 ∷ 9 ∷ [])
    -- behind it nothing is left, and Done repeats
    ∷ unmoved (cursor 1 2 2 2) (Ok None) (cursor 3 2 0 2)
    ∷ unmoved (cursor 3 2 0 2) (Ok None) (cursor 3 2 0 2)
    ∷ unmoved (cursor 3 3 1 3) (Ok None) (cursor 3 3 1 3)
    -- 11.8: an attempt past the length, a window of one row, a start past the order, a longest window of one row
    ∷ unmoved (cursor 1 2 3 3) (Err refusal.Cursor) (cursor 1 2 3 3)
    ∷ unmoved (cursor 0 1 0 2) (Err refusal.Cursor) (cursor 0 1 0 2)
    ∷ unmoved (cursor 4 2 0 2) (Err refusal.Cursor) (cursor 4 2 0 2)
    ∷ unmoved (cursor 0 2 0 1) (Err refusal.Cursor) (cursor 0 2 0 1)
    -- 11.9: each output has a cell a row
    ∷ case order (cursor 1 2 1 2) 3 (Err refusal.Room) (cursor 1 2 1 2) (nines 3) (nines 3)
    ∷ []

abbrev index : Left
index = built tables_t.shape tables_t.marks tables_t.keys tables_t.ranks roster_a (nines (records_length 4)) (nines (members_length 4))

unfoldable pub stepped : Case → Stepping
stepped c =
    reinsert_stepping tables_t.shape tables_t.marks tables_t.keys tables_t.ranks index.records index.members c.order None c.at (nines c.room) (nines c.room)

unfoldable pub stated : Case → Stepping
stated c = leaves (record { next = c.next; answer = c.answer }) c.rows c.values

pub walked : map stepped cases ≡ map stated cases
unfolding tables_t roster_a cases stepped stated all all_below count_below all_of_below list_below among distinct is same_numbers rows_of edits insert_sorted sort limited legal_or_empty places put after holds holders edit_reads reads may_become key_passes key_at place_at at_edits capacity_passes edges_pass passes beside_passes reinserts then_unless unless_refused rotated key row_of is_member member_codes membership_of cells changed row_flag cell_flag cell_key candidates_at lengths_fit sized candidates_fit all_candidates_fit tables_refusal column records_of members_of is_index index_lengths holdable all_holdable admission leaving build_refusal built joined_from tries_from lengths_from starts_from has_window ahead end_of first_move step_by fits_by answering passing step_refusal stepping_by first_that allowed_at taken stuck put_back ejection move_in reinsert_move reinsert_at
walked = refl
