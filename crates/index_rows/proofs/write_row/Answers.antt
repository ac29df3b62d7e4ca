-- `index_rows::write_row` meets its contract: five cells, one after the other. Assumes nothing.
use mathlib.Core.Path.{◌∙◌}
use lib.Dec.{lit<}
use Rattle.assignment_tables.specs.Tables.{capacity_at, sequence_at}
use Rattle.assignment_index.proofs.Records.{cells-written}
use Rattle.index_rows.proofs.write_row.Goals as goal

pub put_cell-requires-3 : goal.put_cell-requires-3
put_cell-requires-3 c = (c.requires.marked.small.few_rows, c.put_cell-2.auto.records ∙ c.put_cell.auto.records ∙ c.requires.keys_len.1, lit< tt, c.requires.keys_len.2)

pub put_cell-requires-4 : goal.put_cell-requires-4
put_cell-requires-4 c = (c.requires.marked.small.few_rows, c.put_cell-3.auto.records ∙ c.put_cell-2.auto.records ∙ c.put_cell.auto.records ∙ c.requires.keys_len.1, lit< tt, c.requires.keys_len.2)

pub put_cell-requires-5 : goal.put_cell-requires-5
put_cell-requires-5 c = (c.requires.marked.small.few_rows, c.put_cell-4.auto.records ∙ c.put_cell-3.auto.records ∙ c.put_cell-2.auto.records ∙ c.put_cell.auto.records ∙ c.requires.keys_len.1, lit< tt, c.requires.keys_len.2)

pub returns : goal.returns
returns c = let C = capacity_at c.args.tables.now.shape c.args.tables.now.marks.now c.args.tables.now.keys.now c.args.row c.args.value in
    let S = sequence_at c.args.tables.now.shape c.args.tables.now.marks.now c.args.tables.now.keys.now c.args.row c.args.value in
    let e = c.capacity_key.ensures in
    let f = c.sequence_key.ensures in
    let x = c.numbers_of-capacity.ensures in
    let y = c.numbers_of-sequence.ensures in
    cells-written c.args.tables.now.shape.rows c.args.row c.args.value _ _ _ _ C S c.args.records.now _ _ _ _ _ (cc) (cc) (cc) (cc) c.put_cell.ensures c.put_cell-2.ensures c.put_cell-3.ensures c.put_cell-4.ensures c.put_cell-5.ensures
