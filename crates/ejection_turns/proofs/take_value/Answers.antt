use mathlib.Core.Path.{refl, sym, ◌∙◌}
use native.Mathlib.Omega.{arith}
use Rattle.rules.specs.Board.{Board}
use Rattle.rules.specs.Roster.{Roster}
use Rattle.assignment_tables.specs.Tables.{the_board}
use Rattle.assignment_index.specs.Index.{the_roster}
use Rattle.ejection_turns.proofs.TurnLaws.{few_offered, trying_begun, trying_on, found_there, found_left, none_there, none_left}
use Rattle.ejection_turns.proofs.take_value.Goals as goal

pub offset_bounds-window-i : goal.offset_bounds-window-i
offset_bounds-window-i c = omega (arith, c.requires.i_in_bounds.0)

pub bounds-window-i : goal.bounds-window-i
bounds-window-i c = c.requires.i_in_bounds.0

pub candidate_values-offered-requires : goal.candidate_values-offered-requires
candidate_values-offered-requires c = record { marked = c.requires.returning.index.marked; marks_value = c.requires.returning.candidates_fit }

pub loop-j-init : goal.loop-j-init
loop-j-init c = (omega arith, refl, trying_begun _ _ _ _ _ _ _)

pub candidate_round-value-requires : goal.candidate_round-value-requires
candidate_round-value-requires c = (c.loop-j-test.true, few_offered c.args.tables.now.shape c.args.tables.now.marks.now c.requires.returning.candidates_fit _ c.args.limit _ c.candidate_values-offered.ensures)

pub try_value-requires : goal.try_value-requires
try_value-requires c = record { indexed = c.requires.returning.index; i_in_bounds = (c.requires.i_in_bounds.0, c.requires.i_in_bounds.1 ∙ sym c.loop-j.invariant.1) }

pub returns-then-try_value : goal.returns-then-try_value
returns-then-try_value c = let B : Board = the_board c.args.tables.now in
    let h : Roster = the_roster c.args.tables.now c.args.index.now in
    let l = c.loop-j in
    let e = c.try_value.ensures in
    let t = c.loop-j-test.true in
    let q = c.candidate_round-value.ensures in
    let k = c.candidate_values-offered.ensures in record { value = found_there (B) (h) _ _ _ _ _ _ _ l.invariant.2 t _ q _ e.value c.args.limit k c.if-try_value.true; values_value = found_left (B) (h) _ _ _ _ _ _ _ l.invariant.2 t _ q _ e.value c.args.limit k c.if-try_value.true _ e.values_value }

pub loop-j-preserved : goal.loop-j-preserved
loop-j-preserved c =
    let B : Board = the_board c.args.tables.now in
    let h : Roster = the_roster c.args.tables.now c.args.index.now in
    let l = c.loop-j in
    let e = c.try_value.ensures in
    (omega arith, c.try_value.auto.values ∙ l.invariant.1, trying_on (B) (h) _ _ _ _ _ _ _ l.invariant.2 c.loop-j-test.true _ c.candidate_round-value.ensures _ e.value _ e.values_value c.if-try_value.false)

pub offset_bounds-values-i : goal.offset_bounds-values-i
offset_bounds-values-i c = omega (arith, c.requires.i_in_bounds.0)

pub bounds-values-i : goal.bounds-values-i
bounds-values-i c = omega (arith, c.requires.i_in_bounds.0, c.requires.i_in_bounds.1, c.loop-j.invariant.1)

pub returns : goal.returns
returns c = let B : Board = the_board c.args.tables.now in
    let h : Roster = the_roster c.args.tables.now c.args.index.now in
    let l = c.loop-j in
    let k = c.candidate_values-offered.ensures in record { value = none_there (B) (h) _ _ _ _ _ _ _ l.invariant.2 c.loop-j-test.false c.args.limit k; values_value = none_left (B) (h) _ _ _ _ _ _ _ l.invariant.2 c.loop-j-test.false c.args.limit k }
