use mathlib.Core.Path.{ap, refl, sym, ◌∙◌}
use mathlib.Core.Bool.{not}
use native.Mathlib.Omega.{arith}
use Rattle.rules.specs.Board.{Board}
use Rattle.rules.specs.Roster.{Roster}
use Rattle.assignment_tables.specs.Tables.{the_board}
use Rattle.assignment_index.specs.Index.{the_roster}
use Rattle.ejection_turns.proofs.TurnLaws.{all-stuck, all_on, all_back}
use Rattle.ejection_turns.proofs.put_all_back.Goals as goal

pub loop-i-init : goal.loop-i-init
loop-i-init c = (omega arith, refl, refl)

pub place_round-at-requires : goal.place_round-at-requires
place_round-at-requires c = (c.loop-i-test.true, c.requires.window_len_bound.0)

pub put_back-requires : goal.put_back-requires
put_back-requires c = record { returning = c.requires.returning; i_in_bounds = (c.place_round-at.ensures.1, c.requires.window_len_bound.1 ∙ sym c.loop-i.invariant.1) }

pub returns-then-not-put_back : goal.returns-then-not-put_back
returns-then-not-put_back c =
    let B : Board = the_board c.args.tables.now in
    let h : Roster = the_roster c.args.tables.now c.args.index.now in
    all-stuck (B) (h) _ _ _ _ _ _ c.loop-i.invariant.2 c.loop-i-test.true _ c.place_round-at.ensures.0 _ c.put_back.ensures.value _ c.put_back.ensures.values_value (ap not c.if-not-put_back.true)

pub loop-i-preserved : goal.loop-i-preserved
loop-i-preserved c =
    let B : Board = the_board c.args.tables.now in
    let h : Roster = the_roster c.args.tables.now c.args.index.now in
    let l = c.loop-i in
    let e = c.put_back.ensures in
    (omega arith, c.put_back.auto.values ∙ l.invariant.1, all_on (B) (h) _ _ _ _ _ _ l.invariant.2 c.loop-i-test.true _ c.place_round-at.ensures.0 _ e.value _ e.values_value (ap not c.if-not-put_back.false))

pub returns : goal.returns
returns c =
    let B : Board = the_board c.args.tables.now in
    let h : Roster = the_roster c.args.tables.now c.args.index.now in
    all_back (B) (h) _ _ _ _ _ _ c.loop-i.invariant.2 c.loop-i-test.false
