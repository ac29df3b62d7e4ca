-- `assignment_index::columns::cell` meets its contract: a cell of a column is read from where the column starts. Assumes nothing.
use Rattle.assignment_index.proofs.ColumnLaws.{cell_read}
use Rattle.assignment_index.proofs.columns.cell.Goals as goal

pub returns : goal.returns
returns c = cell_read c.args.rows c.args.j _ c.args.records.now c.args.row c.column_start.ensures.0 c.requires.3
