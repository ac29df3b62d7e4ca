-- `assignment_tables::cells::cell_key` meets its contract. Assumes nothing.
use Rattle.basics.proofs.Bools.{came}
use Rattle.assignment_tables.proofs.CellLaws.{cell_set, key_in, key_out}
use borrow.Author.Rules.{rules}
use Rattle.assignment_tables.proofs.cells.cell_key.Goals as goal

pub cell-i-requires : goal.cell-i-requires
cell-i-requires c = let s = cell_set _ _ _ _ _ _ (came _ _ _ c.cell_flag.ensures c.if-cell_flag.true) in search rules

pub returns-then-cell_flag : goal.returns-then-cell_flag
returns-then-cell_flag c = search (key_in, came)

pub returns : goal.returns
returns c = search (key_out, came)
