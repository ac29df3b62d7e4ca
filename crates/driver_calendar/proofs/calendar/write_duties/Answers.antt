-- `driver_calendar::calendar::write_duties` meets its contract: the refusals come in their order, and what is left can be written. Assumes nothing.
use mathlib.Core.Path.{ap}
use mathlib.Core.Bool.{not}
use native.Mathlib.Omega.{arith}
use Rattle.driver_calendar.proofs.AnswerLaws.{nothing_to_write, a_day_too_late, days_datable, long_is, no_room, written_so}
use Rattle.driver_calendar.proofs.calendar.write_duties.Goals as goal

pub returns-then-duties-eq0 : goal.returns-then-duties-eq0
returns-then-duties-eq0 c = nothing_to_write c.args.stamp.now c.args.rows.now c.args.days.now c.args.out.now c.requires.rows_len.0 c.requires.rows_value.1 c.if-duties-eq0.true

pub returns-then-not-all_datable : goal.returns-then-not-all_datable
returns-then-not-all_datable c = a_day_too_late c.args.stamp.now c.args.rows.now c.args.days.now c.args.out.now c.requires.rows_len.0 c.requires.rows_value.1 c.if-duties-eq0.false _ c.all_datable.ensures (ap not c.if-not-all_datable.true)

pub returns-then-out-object_length : goal.returns-then-out-object_length
returns-then-out-object_length c = no_room c.args.stamp.now c.args.rows.now c.args.days.now c.args.out.now c.requires.rows_len.0 c.requires.rows_value.1 c.if-duties-eq0.false _ c.all_datable.ensures (ap not c.if-not-all_datable.false) _ c.object_length.ensures c.if-out-object_length.true

pub write_object-requires : goal.write_object-requires
write_object-requires c = record { rows_len = (c.requires.rows_len.0, days_datable c.args.stamp.now c.args.rows.now c.args.days.now c.args.out.now c.requires.rows_len.0 c.requires.rows_value.1 c.if-duties-eq0.false _ c.all_datable.ensures (ap not c.if-not-all_datable.false) _ c.object_length.ensures); days_in_bounds = omega (arith, long_is c.args.stamp.now c.args.rows.now c.args.days.now c.args.out.now c.requires.rows_len.0 c.requires.rows_value.1 c.if-duties-eq0.false _ c.all_datable.ensures (ap not c.if-not-all_datable.false) _ c.object_length.ensures, c.if-out-object_length.false) }

pub returns : goal.returns
returns c = written_so c.args.stamp.now c.args.rows.now c.args.days.now c.args.out.now c.requires.rows_len.0 c.requires.rows_value.1 c.if-duties-eq0.false _ c.all_datable.ensures (ap not c.if-not-all_datable.false) _ c.object_length.ensures c.if-out-object_length.false _ _ c.write_object.ensures
