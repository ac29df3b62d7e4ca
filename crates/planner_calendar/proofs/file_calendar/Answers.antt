-- `planner_calendar::file_calendar` meets its contract: what opening the roster refuses comes first. Assumes nothing.
use Rattle.refusals.proofs.AnswerLaws.{passed_on}
use Rattle.planner_calendar.proofs.CalendarLaws.{not_filed, index-stands, calendar_so}
use Rattle.planner_calendar.proofs.file_calendar.Goals as goal

pub index_calendar-requires : goal.index_calendar-requires
index_calendar-requires c = index-stands c.args.driver _ c.args.stamp.now c.args.output.now _ _ _ _ _ _ _ _ _ _ _ c.open_roster.ensures _ c.in_ok-shape.was c.open_roster.auto.cells

pub returns-in_err-shape : goal.returns-in_err-shape
returns-in_err-shape c = rw (passed_on c.from_residual.result c.in_err-shape.field-0.0 c.from_residual.ensures) (not_filed _ _ _ _ _ _ _ _ _ _ _ _ _ _ _ c.open_roster.ensures _ c.in_err-shape.was)

pub returns : goal.returns
returns c = calendar_so _ _ _ _ _ _ _ _ _ _ _ _ _ _ _ c.open_roster.ensures _ c.in_ok-shape.was c.open_roster.auto.cells _ _ c.index_calendar.ensures
