-- `overlay_capacity::leaves` meets its contract. Assumes nothing.
use native.Mathlib.Omega.{arith}
use Rattle.overlay_capacity.proofs.CapacityLaws.{row-leaves, row_stays}
use Rattle.overlay_capacity.proofs.leaves.Goals as goal

pub cell-given-requires : goal.cell-given-requires
cell-given-requires c = (c.requires.0, c.requires.1, omega arith, c.if-row-rows.true)

pub cell-number-requires : goal.cell-number-requires
cell-number-requires c = (c.requires.0, c.requires.1, omega arith, c.if-row-rows.true)

pub returns-then-row-rows : goal.returns-then-row-rows
returns-then-row-rows c = row-leaves c.args.rows c.args.records.now c.args.list_rows.now c.args.key c.args.i _ _ c.cell-given.ensures c.cell-number.ensures

pub returns : goal.returns
returns c = row_stays c.args.rows c.args.records.now c.args.list_rows.now c.args.key c.args.i c.requires.1 c.if-row-rows.false
