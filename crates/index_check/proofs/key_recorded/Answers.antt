-- `index_check::key_recorded` meets its contract: the two cells are the ones that the definition names. Assumes nothing.
use Rattle.assignment_index.proofs.Comparing.{key_compared}
use Rattle.index_check.proofs.key_recorded.Goals as goal

pub returns : goal.returns
returns c = key_compared c.args.rows c.args.records.now c.args.j c.args.row c.args.key _ _ _ _ c.numbers_of-numbers.ensures.0 c.numbers_of-numbers.ensures.1 c.cell-given.ensures c.cell-number.ensures
