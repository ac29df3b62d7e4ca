-- `changed_edits::keep` meets its contract: the number is dropped where the value is the row's own, and else written. Assumes nothing.
use Rattle.changed_edits.proofs.KeptLaws.{dropped, room_for_one, one_written}
use Rattle.changed_edits.proofs.keep.Goals as goal

pub returns-then-value-value_of : goal.returns-then-value-value_of
returns-then-value-value_of c = dropped _ _ _ _ _ c.value_of.ensures c.if-value-value_of.true c.args.out.now c.args.at

pub bounds-out-at : goal.bounds-out-at
bounds-out-at c = room_for_one _ c.args.row _ c.args.number _ c.value_of.ensures c.if-value-value_of.false c.args.out.now c.args.at c.requires.number_in_bounds

pub returns : goal.returns
returns c = one_written _ _ _ _ _ c.value_of.ensures c.if-value-value_of.false c.args.out.now c.args.at
