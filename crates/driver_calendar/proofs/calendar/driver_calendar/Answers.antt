-- `driver_calendar::calendar::driver_calendar` meets its contract: the refusals of tables and index come first, and the slices that are left are ready. Assumes nothing.
use Rattle.refusals.proofs.AnswerLaws.{passed_on}
use Rattle.driver_calendar.proofs.AnswerLaws.{not_admitted, admitted, answered}
use Rattle.driver_calendar.proofs.calendar.driver_calendar.Goals as goal

pub returns-in_err-admit : goal.returns-in_err-admit
returns-in_err-admit c = rw (passed_on c.from_residual.result c.in_err-admit.field-0.0 c.from_residual.ensures) (not_admitted _ _ _ _ _ _ c.args.driver c.args.stamp.now c.args.out.now _ c.admit.ensures _ c.in_err-admit.was)

pub write_calendar-requires : goal.write_calendar-requires
write_calendar-requires c = admitted _ _ _ _ _ _ c.args.driver c.args.stamp.now c.args.out.now _ c.admit.ensures c.in_ok-admit.was

pub returns : goal.returns
returns c = answered _ _ _ _ _ _ c.args.driver c.args.stamp.now c.args.out.now _ c.admit.ensures c.in_ok-admit.was _ _ c.write_calendar.ensures
