use Prim.Native.Nat.{ℕ, ◌+◌, ◌≤◌}
use mathlib.Core.Path.{◌≡◌, refl, sym, subst, ◌∙◌}
use mathlib.Core.Bool.{Bool, true}
use mathlib.Core.List.{List, ◌++◌, map}
use native.Mathlib.Omega.{arith}
use lib.ListN.{length, take, length-set}
use lib.Seq.{length-take-le, take-set-le}
use Rattle.basics.proofs.Bools.{by}
use Rattle.basics.specs.Tests.{all_of_below}
use Rattle.rules.specs.Board.{Board, empty}
use Rattle.rules.specs.Roster.{Roster}
use Rattle.assignment_tables.specs.declared.Shape.{Shape}
use Rattle.assignment_tables.specs.Tables.{board, required_at, legal_at, the_board}
use Rattle.assignment_index.specs.Index.{Indexed, roster_in, the_roster}
use Rattle.search_rules.specs.Search.{edit, displaced}
use Rattle.search_rules.specs.Lifted.{Plain, Lifted}
use Rattle.path_blockers.specs.Seeking.{Least, unlisted, is_sought, blocks_seen}
use Rattle.path_steps.specs.Lists.{front}
use Rattle.path_steps.proofs.PlainLaws.{board_plain}
use Rattle.path_blockers.proofs.SoughtLaws.{around_least}
use Rattle.path_steps.proofs.DisplaceLaws.{emptying-begins, emptying_turns, rows_long, values_long, place-left, emptying-ends, displaced-is, displaced_few}
use Rattle.path_steps.proofs.displace.displace_blockers.Goals as goal

-- whom the loop empties
abbrev next : Shape → List ℕ → List ℕ → List ℕ → List ℕ → ℕ → ℕ → ℕ → ℕ → Bool
next S m k R rs listed row value =
    blocks_seen (board S m k) (roster_in S.rows R) (unlisted (take listed rs)) (is_sought (required_at S m) (take listed rs) true) row value

-- the list has room for all that are emptied
module _ (S : Shape) (m k R M rs vs : List ℕ) (listed row value : ℕ) (index : Indexed S m k R M) (lifted : Lifted (board S m k) true (front listed rs vs)) (legal : legal_at S m row value ≡ true) (bounds : (128 ≤ length rs) × (length rs ≡ length vs) × (listed ≤ length rs)) where
  abbrev B : Board
  B = board S m k

  abbrev h : Roster
  h = roster_in S.rows R

  as_many : length (take listed rs) ≡ length (take listed vs)
  as_many = length-take-le _ _ bounds.2 ∙ sym (length-take-le _ _ (omega (arith, bounds.1, bounds.2)))

  plain : Plain B
  plain = board_plain S _ _ index.marked

  room : listed + length (all_of_below S.rows (next S m k R rs listed row value)) ≤ length rs
  room =
      let few = displaced_few B plain h listed rs vs as_many lifted row value legal bounds.2 in
      omega (arith, few, bounds.0, index.marked.small.few_rows)

  done : front listed rs vs ++ map (λ (o : ℕ). edit o empty) (all_of_below S.rows (next S m k R rs listed row value)) ≡ displaced B true h row value (front listed rs vs)
  done = displaced-is B plain h listed rs vs as_many lifted row value legal

pub holders_of-holders-requires : goal.holders_of-holders-requires
holders_of-holders-requires c = c.requires.indexed

pub rows_below-below-requires : goal.rows_below-below-requires
rows_below-below-requires c = c.requires.indexed

pub rows_above-above-requires : goal.rows_above-above-requires
rows_above-above-requires c = c.requires.indexed

pub slice_bounds-first_blocker-end : goal.slice_bounds-first_blocker-end
slice_bounds-first_blocker-end c = c.requires.in_bounds.2

pub slice_bounds-first_blocker-end-2 : goal.slice_bounds-first_blocker-end-2
slice_bounds-first_blocker-end-2 c = sym (length-take-le _ _ c.requires.in_bounds.2)

pub first_blocker-other-requires : goal.first_blocker-other-requires
first_blocker-other-requires c = c.requires.indexed.marked

pub loop-other-init : goal.loop-other-init
loop-other-init c = (refl, emptying-begins _ _ _ _ _ _ (around_least c.args.tables.now.shape c.args.tables.now.marks.now c.args.tables.now.keys.now c.args.index.now.records.now _ _ _ _ _ _ _ (record { holding = c.holders_of-holders.ensures; before = c.rows_below-below.ensures.result_value; behind = c.rows_above-above.ensures.result_value }) _ _ c.first_blocker-other.ensures))

pub offset_bounds-list_rows-end : goal.offset_bounds-list_rows-end
offset_bounds-list_rows-end c = let left = place-left _ _ _ _ _ _ _ _ _ c.loop-other.invariant.1 c.requires.in_bounds.1 (room c.args.tables.now.shape c.args.tables.now.marks.now c.args.tables.now.keys.now c.args.index.now.records.now c.args.index.now.members.now c.args.list_rows.now c.args.list_values.now c.args.listed c.args.row c.args.value c.requires.indexed c.requires.lifted c.requires.value_value c.requires.in_bounds) c.loop-other-test.true in
    omega (arith, left)

pub bounds-list_rows-end : goal.bounds-list_rows-end
bounds-list_rows-end c = let left = place-left _ _ _ _ _ _ _ _ _ c.loop-other.invariant.1 c.requires.in_bounds.1 (room c.args.tables.now.shape c.args.tables.now.marks.now c.args.tables.now.keys.now c.args.index.now.records.now c.args.index.now.members.now c.args.list_rows.now c.args.list_values.now c.args.listed c.args.row c.args.value c.requires.indexed c.requires.lifted c.requires.value_value c.requires.in_bounds) c.loop-other-test.true in
    omega (arith, left, rows_long _ _ _ _ _ _ _ _ _ c.loop-other.invariant.1)

pub offset_bounds-list_values-end : goal.offset_bounds-list_values-end
offset_bounds-list_values-end c = let left = place-left _ _ _ _ _ _ _ _ _ c.loop-other.invariant.1 c.requires.in_bounds.1 (room c.args.tables.now.shape c.args.tables.now.marks.now c.args.tables.now.keys.now c.args.index.now.records.now c.args.index.now.members.now c.args.list_rows.now c.args.list_values.now c.args.listed c.args.row c.args.value c.requires.indexed c.requires.lifted c.requires.value_value c.requires.in_bounds) c.loop-other-test.true in
    omega (arith, left)

pub bounds-list_values-end : goal.bounds-list_values-end
bounds-list_values-end c = let left = place-left _ _ _ _ _ _ _ _ _ c.loop-other.invariant.1 c.requires.in_bounds.1 (room c.args.tables.now.shape c.args.tables.now.marks.now c.args.tables.now.keys.now c.args.index.now.records.now c.args.index.now.members.now c.args.list_rows.now c.args.list_values.now c.args.listed c.args.row c.args.value c.requires.indexed c.requires.lifted c.requires.value_value c.requires.in_bounds) c.loop-other-test.true in
    omega (arith, left, c.requires.in_bounds.1, values_long _ _ _ _ _ _ _ _ _ c.loop-other.invariant.1)

pub overflow_add-end : goal.overflow_add-end
overflow_add-end c = let left = place-left _ _ _ _ _ _ _ _ _ c.loop-other.invariant.1 c.requires.in_bounds.1 (room c.args.tables.now.shape c.args.tables.now.marks.now c.args.tables.now.keys.now c.args.index.now.records.now c.args.index.now.members.now c.args.list_rows.now c.args.list_values.now c.args.listed c.args.row c.args.value c.requires.indexed c.requires.lifted c.requires.value_value c.requires.in_bounds) c.loop-other-test.true in
    omega (arith, left)

pub slice_bounds-first_blocker-end-in-loop-other-2 : goal.slice_bounds-first_blocker-end-in-loop-other-2
slice_bounds-first_blocker-end-in-loop-other-2 c = sym (length-take-le _ _ (simp length-set (omega (arith, c.requires.in_bounds.2, rows_long _ _ _ _ _ _ _ _ _ c.loop-other.invariant.1))))

pub overflow_add-other : goal.overflow_add-other
overflow_add-other c = omega (arith, c.loop-other-test.true, c.requires.indexed.marked.small.few_rows)

pub first_blocker-other-requires-in-loop-other : goal.first_blocker-other-requires-in-loop-other
first_blocker-other-requires-in-loop-other c = c.requires.indexed.marked

pub loop-other-smaller : goal.loop-other-smaller
loop-other-smaller c = let found = (around_least c.args.tables.now.shape c.args.tables.now.marks.now c.args.tables.now.keys.now c.args.index.now.records.now _ _ _ _ _ _ _ (record { holding = c.holders_of-holders.ensures; before = c.rows_below-below.ensures.result_value; behind = c.rows_above-above.ensures.result_value }) _ _ c.first_blocker-other-in-loop-other.ensures) in
    by c.first_blocker-other-in-loop-other.result c.args.tables.now.shape.rows
    (λ l. omega (arith, found.begun l, c.loop-other-test.true))
    (λ l. omega (arith, c.loop-other-test.true))

pub loop-other-preserved : goal.loop-other-preserved
loop-other-preserved c = let l = c.loop-other in
    let kept = take-set-le c.args.listed l.list_rows l.end l.other (omega (arith, l.invariant.1.placed)) ∙ l.invariant.0 in
    (kept, emptying_turns _ _ _ _ _ _ _ _ _ l.invariant.1 c.loop-other-test.true _ (subst (λ (xs : List ℕ). Least (blocks_seen (the_board c.args.tables.now) (the_roster c.args.tables.now c.args.index.now) (unlisted xs) (is_sought (required_at c.args.tables.now.shape c.args.tables.now.marks.now) xs true) c.args.row c.args.value) (l.other + 1) c.args.tables.now.shape.rows c.first_blocker-other-in-loop-other.result) kept (around_least c.args.tables.now.shape c.args.tables.now.marks.now c.args.tables.now.keys.now c.args.index.now.records.now _ _ _ _ _ _ _ (record { holding = c.holders_of-holders.ensures; before = c.rows_below-below.ensures.result_value; behind = c.rows_above-above.ensures.result_value }) _ _ c.first_blocker-other-in-loop-other.ensures)))

pub returns : goal.returns
returns c = rw (← done c.args.tables.now.shape c.args.tables.now.marks.now c.args.tables.now.keys.now c.args.index.now.records.now c.args.index.now.members.now c.args.list_rows.now c.args.list_values.now c.args.listed c.args.row c.args.value c.requires.indexed c.requires.lifted c.requires.value_value c.requires.in_bounds) (emptying-ends _ _ _ _ _ _ _ _ _ c.loop-other.invariant.1 c.requires.in_bounds.1 (room c.args.tables.now.shape c.args.tables.now.marks.now c.args.tables.now.keys.now c.args.index.now.records.now c.args.index.now.members.now c.args.list_rows.now c.args.list_values.now c.args.listed c.args.row c.args.value c.requires.indexed c.requires.lifted c.requires.value_value c.requires.in_bounds) c.loop-other-test.false)
