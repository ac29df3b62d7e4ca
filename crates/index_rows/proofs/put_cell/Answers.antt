-- `index_rows::put_cell` meets its contract: a cell of a column is written from where the column starts. Assumes nothing.
use Rattle.index_rows.proofs.put_cell.Goals as goal

pub returns : goal.returns
returns c = rw c.column_start-start.ensures.0
