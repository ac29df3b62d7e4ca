-- `assignment_tables::cells::row_flag` meets its contract. Assumes nothing.
use Rattle.assignment_tables.proofs.CellLaws.{row_in, row_out}
use Rattle.assignment_tables.proofs.cells.row_flag.Goals as goal

pub returns-then-row-rows : goal.returns-then-row-rows
returns-then-row-rows c = search row_in

pub returns : goal.returns
returns c = search row_out
