-- The examples of the final test (docs/RULES.md, 3), of the reinsertion test (5) and of the search (6, 7): one table, and one theorem, by computation. Each is put to the entries: an index
-- is built of the roster, and the question is asked of what was built, so that tables or an index that an entry refuses would show.
use Rattle.std.specs.Prelude.{ℕ, ◌≡◌, refl, true, List, [], ◌∷◌, map, replicate, Ok, Bool, false, None}
use Rattle.refusals.specs.Answers.{then_unless, unless_refused}
use Rattle.refusals.specs.Refusals.{Checked, Answered, accepted}
use Rattle.basics.specs.Tests.{all, all_below, count_below, all_of_below, list_below, first_from, among, distinct, is, same_numbers}
use Rattle.basics.specs.Edits.{rows_of, edits}
use Rattle.basics.specs.Sorting.{insert_sorted, sort}
use Rattle.rules.specs.Board.{empty, limited, legal_or_empty, places}
use Rattle.rules.specs.Roster.{put, after, holds, holders, stands}
use Rattle.rules.specs.Neighbours.{follows, followed, beside, beside_allowed}
use Rattle.rules.specs.FinalTest.{edit_reads, reads, may_become, key_passes, place_passes, key_at, place_at, at_edits, capacity_passes, edges_pass, passes}
use Rattle.rules.specs.Reinsertion.{beside_passes, reinserts}
use Rattle.sorted_cells.specs.Codes.{key, row_of}
use Rattle.membership.specs.Canonical.{is_member, member_codes, membership_of}
use Rattle.membership.specs.Cells.{cells}
use Rattle.search_rules.specs.Blockers.{shares, rule_refuses, blocks, is_free, displaceable_blockers, first_required}
use Rattle.search_rules.specs.Search.{displaced, enter, closes, or_else, walk, closed, make_way, descend, try_row, holds_already, discover, tested, search}
use Rattle.assignment_tables.specs.Cells.{row_flag, cell_flag, cell_key}
use Rattle.assignment_tables.specs.Tables.{candidates_at}
use Rattle.assignment_tables.specs.Refusal.{lengths_fit, sized, candidates_fit, all_candidates_fit, tables_refusal}
use Rattle.assignment_index.specs.Columns.{column, records_length, members_length}
use Rattle.assignment_index.specs.Index.{records_of, members_of, is_index}
use Rattle.assignment_state.specs.Admission.{index_lengths, holdable, all_holdable, admission}
use Rattle.assignment_updates.specs.Refresh.{Left, leaving, build_refusal, built}
use Rattle.assignment_overlay.specs.Verdicts.{final_verdict, reinsert_verdict}
use Rattle.search_codes.specs.declared.Search.TheVariants as answer
use Rattle.assignment_path.specs.Searching.{Searched, leaves, moving, search_refusal, answering, searching}
use Rattle.blackboard.specs.Lent.{Tables}
use Rattle.blackboard.specs.BoardT.{tables_t, roster_a, roster_b, roster_c, all_empty}
use Rattle.blackboard.specs.BoardE.{tables_e, both_sides, before, behind}

pub data Case : Type 0 where
  -- tables, a roster, a list's rows and values, and what the final test answers
  final : Tables → List ℕ → List ℕ → List ℕ → Answered Bool → Case
  -- tables, a roster, a list's rows and values, a row and a value, and what the reinsertion test answers
  reinsert : Tables → List ℕ → List ℕ → List ℕ → ℕ → ℕ → Answered Bool → Case
  -- tables, a roster, a row, a value and a depth; and what a search that displaces, with all candidates and a budget of 100, answers and leaves in outputs of four cells
  searched : Tables → List ℕ → ℕ → ℕ → ℕ → Searched → Case

-- what a case says: how the build is answered, and then the question
pub data Said : Type 0 where
  judgement : Checked → Answered Bool → Said
  reply : Checked → Searched → Said

-- cells before anything is written
abbrev nines : ℕ → List ℕ
nines n = replicate n 9

unfoldable pub cases : List Case
cases =
    final tables_t roster_a [] [] (Ok true)
    ∷ final tables_t roster_a (2 ∷ []) (0 ∷ []) (Ok false)
    ∷ final tables_t roster_a (0 ∷ 1 ∷ []) (1 ∷ 0 ∷ []) (Ok true)
    ∷ final tables_t roster_a (0 ∷ []) (empty ∷ []) (Ok false)
    ∷ final tables_t roster_a (3 ∷ 2 ∷ []) (empty ∷ 2 ∷ []) (Ok true)
    ∷ final tables_t roster_a (2 ∷ 2 ∷ []) (empty ∷ empty ∷ []) (Ok false)
    ∷ final tables_t roster_a (4 ∷ []) (0 ∷ []) (Ok false)
    -- three holders become two
    ∷ final tables_t roster_b (3 ∷ []) (empty ∷ []) (Ok false)
    ∷ final tables_t roster_b (2 ∷ []) (1 ∷ []) (Ok true)
    ∷ final tables_t roster_b (0 ∷ []) (0 ∷ []) (Ok false)
    ∷ final tables_t all_empty (0 ∷ []) (empty ∷ []) (Ok false)
    ∷ reinsert tables_t all_empty (0 ∷ 1 ∷ []) (empty ∷ 1 ∷ []) 1 1 (Ok true)
    ∷ reinsert tables_t roster_a [] [] 2 0 (Ok true)
    -- 5.2: a named row that the list does not set counts where it holds the key already
    ∷ reinsert tables_t roster_c [] [] 0 0 (Ok false)
    ∷ reinsert tables_t roster_c (1 ∷ []) (empty ∷ []) 0 0 (Ok true)
    -- 5.3: both sides count, as they are after the list
    ∷ reinsert tables_e before [] [] 1 0 (Ok true)
    ∷ reinsert tables_e behind [] [] 1 0 (Ok false)
    ∷ reinsert tables_e both_sides [] [] 1 0 (Ok false)
    ∷ reinsert tables_e both_sides (2 ∷ []) (empty ∷ []) 1 0 (Ok true)
    ∷ searched tables_t roster_a 2 0 1 (leaves (Ok (answer.Move 3 8)) (3 ∷ 0 ∷ 2 ∷ 9 ∷ []) (empty ∷ 2 ∷ 0 ∷ 9 ∷ []))
    ∷ []

-- the index that is built of the roster, in cells that held something else
abbrev index : Tables → List ℕ → Left
index t h =
    built t.shape t.marks t.keys t.ranks h (nines (records_length t.shape.rows)) (nines (members_length t.shape.rows))

unfoldable pub judged : Case → Said
judged (final t h rs vs w) =
    let x = index t h in judgement x.answer (final_verdict t.shape t.marks t.keys t.ranks x.records x.members rs vs)
judged (reinsert t h rs vs r v w) =
    let x = index t h in judgement x.answer (reinsert_verdict t.shape t.marks t.keys t.ranks x.records x.members rs vs r v)
judged (searched t h r v d w) =
    let x = index t h in
    reply x.answer (searching t.shape t.marks t.keys t.ranks x.records x.members r v d true None 100 (nines 4) (nines 4))

unfoldable pub stated : Case → Said
stated (final t h rs vs w) = judgement accepted w
stated (reinsert t h rs vs r v w) = judgement accepted w
stated (searched t h r v d w) = reply accepted w

pub starred : map judged cases ≡ map stated cases
unfolding tables_t tables_e roster_a roster_b roster_c all_empty both_sides before behind cases judged stated all all_below count_below all_of_below list_below first_from among distinct is same_numbers rows_of edits insert_sorted sort limited legal_or_empty places put after holds holders stands follows followed beside beside_allowed edit_reads reads may_become key_passes place_passes key_at place_at at_edits capacity_passes edges_pass passes beside_passes reinserts key row_of is_member member_codes membership_of cells shares rule_refuses blocks is_free displaceable_blockers first_required displaced enter closes or_else walk closed make_way descend try_row holds_already discover tested search row_flag cell_flag cell_key candidates_at lengths_fit sized candidates_fit all_candidates_fit tables_refusal column records_of members_of is_index index_lengths holdable all_holdable admission leaving build_refusal built final_verdict reinsert_verdict then_unless unless_refused moving search_refusal answering searching
starred = refl
