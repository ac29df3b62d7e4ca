-- `ejection_turns::put_back` meets its contract: what was taken stands, and so does nothing where the row is not required. Assumes nothing.
use Rattle.rules.specs.Board.{Board}
use Rattle.assignment_tables.specs.Tables.{the_board}
use Rattle.ejection_turns.proofs.TurnLaws.{taken-stands, empty_stands}
use Rattle.ejection_turns.proofs.put_back.Goals as goal

pub returns-then-take_value : goal.returns-then-take_value
returns-then-take_value c = let B : Board = the_board c.args.tables.now in
    let e = c.take_value.ensures in record { value = taken-stands (B) _ _ _ _ e.value c.if-take_value.true; values_value = e.values_value }

pub is_required-requires : goal.is_required-requires
is_required-requires c = c.requires.returning.index.marked

pub returns : goal.returns
returns c = let B : Board = the_board c.args.tables.now in
    let e = c.take_value.ensures in record { value = empty_stands (B) _ _ _ _ e.value c.if-take_value.false _ c.is_required.ensures; values_value = e.values_value }
