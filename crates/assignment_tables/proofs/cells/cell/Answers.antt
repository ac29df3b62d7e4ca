-- `assignment_tables::cells::cell` meets its contract. Assumes nothing.
use native.Mathlib.Omega.{arith}
use mathlib.Core.Path.{refl}
use Rattle.assignment_tables.proofs.CellLaws.{cell_below, cell-small}
use Rattle.assignment_tables.proofs.cells.cell.Goals as goal

-- `assignment_tables::cells::cell` meets its contract. Assumes nothing.
pub overflow_mul-result : goal.overflow_mul-result
overflow_mul-result c = omega (arith, cell-small _ _ c.requires.0 c.requires.1, cell_below _ _ _ _ c.requires.3 c.requires.4)

pub overflow_add-result : goal.overflow_add-result
overflow_add-result c = omega (arith, cell-small _ _ c.requires.0 c.requires.1, cell_below _ _ _ _ c.requires.3 c.requires.4)

pub overflow_add-result-2 : goal.overflow_add-result-2
overflow_add-result-2 c = omega (arith, cell-small _ _ c.requires.0 c.requires.1, cell_below _ _ _ _ c.requires.3 c.requires.4)

pub returns : goal.returns
returns c = (refl, omega (arith, cell_below _ _ _ _ c.requires.3 c.requires.4))
