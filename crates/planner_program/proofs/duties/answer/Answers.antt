-- `planner_program::duties::answer` meets its contract: the duties that were read lie within their room. Assumes nothing.
use mathlib.Core.Path.{sym, ap}
use lib.ListN.{length}
use Rattle.outputs.proofs.CellLaws.{length-cells}
use native.Mathlib.Omega.{arith}
use lib.Seq.{length-take-le}
use Rattle.planner_program.proofs.ProgramLaws.{rows_read, days_read, as_many}
use Rattle.planner_program.proofs.duties.answer.Goals as goal

pub slice_bounds-rows-end : goal.slice_bounds-rows-end
slice_bounds-rows-end g c = rows_read _ _ _ _ _ _ _ c.read_calendar.ensures c.in-Ok.is

pub slice_bounds-say-end : goal.slice_bounds-say-end
slice_bounds-say-end g c = sym (length-take-le _ _ (rows_read _ _ _ _ _ _ _ c.read_calendar.ensures c.in-Ok.is))

pub slice_bounds-days-end : goal.slice_bounds-days-end
slice_bounds-days-end g c = days_read _ _ _ _ _ _ _ c.read_calendar.ensures c.in-Ok.is

pub slice_bounds-say-end-in-Ok : goal.slice_bounds-say-end-in-Ok
slice_bounds-say-end-in-Ok g c = sym (length-take-le _ _ (days_read _ _ _ _ _ _ _ c.read_calendar.ensures c.in-Ok.is))

pub say-requires : goal.say-requires
say-requires g c = as_many _ _ _ _ _ _ _ c.read_calendar.ensures c.in-Ok.is (omega (arith, c.read_calendar.auto.out_rows, ap length c.scratch-rows.ensures, length-cells 0))
