-- `assignment_index::columns::column_start` meets its contract: a product of numbers below 6 and 130 fits. Assumes nothing.
use mathlib.Core.Path.{refl}
use native.Mathlib.Omega.{arith}
use Rattle.assignment_index.proofs.ColumnLaws.{few, column-within}
use Rattle.assignment_index.proofs.columns.column_start.Goals as goal

pub overflow_mul-result : goal.overflow_mul-result
overflow_mul-result c = omega (arith, few c.args.j c.args.n (omega arith) (omega arith))

pub returns : goal.returns
returns c = (refl, column-within c.args.n c.args.j c.args.columns c.requires.2)
