-- `assignment_tables::cells::cell_flag` meets its contract. Assumes nothing.
use Rattle.assignment_tables.proofs.CellLaws.{cell_in_lem, cell_out_row, cell_out_column}
use Rattle.assignment_tables.proofs.cells.cell_flag.Goals as goal

pub returns-then-column-columns : goal.returns-then-column-columns
returns-then-column-columns c = search cell_in_lem

pub returns-then-row-rows : goal.returns-then-row-rows
returns-then-row-rows c = search cell_out_column

pub returns : goal.returns
returns c = search cell_out_row
