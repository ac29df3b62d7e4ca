-- `driver_calendar::calendar::write_calendar` meets its contract: the duties that the records tell are the driver's. Assumes nothing.
use mathlib.Core.Path.{ap, sym, ◌∙◌}
use mathlib.Core.Bool.{not}
use native.Mathlib.Omega.{arith}
use Rattle.driver_calendar.proofs.AnswerLaws.{not_stamped, rows_long, days_long, as_many, rows_in_range, of_the_driver}
use Rattle.driver_calendar.proofs.calendar.write_calendar.Goals as goal

pub returns-then-not-is_stamp : goal.returns-then-not-is_stamp
returns-then-not-is_stamp c = not_stamped _ _ _ _ _ _ c.requires c.args.driver c.args.stamp.now c.args.out.now _ c.is_stamp.ensures (ap not c.if-not-is_stamp.true)

pub slice_bounds-write_duties-end : goal.slice_bounds-write_duties-end
slice_bounds-write_duties-end c = rows_long _ _ _ _ _ _ c.requires c.args.driver c.args.stamp.now c.args.out.now _ _ _ c.gather-count.ensures

pub slice_bounds-write_duties-end-2 : goal.slice_bounds-write_duties-end-2
slice_bounds-write_duties-end-2 c = days_long _ _ _ _ _ _ c.requires c.args.driver c.args.stamp.now c.args.out.now _ _ _ c.gather-count.ensures

pub write_duties-requires : goal.write_duties-requires
write_duties-requires c = let g = c.gather-count in record { rows_len = (as_many _ _ _ _ _ _ c.requires c.args.driver c.args.stamp.now c.args.out.now _ _ _ g.ensures, omega (arith, rows_long _ _ _ _ _ _ c.requires c.args.driver c.args.stamp.now c.args.out.now _ _ _ g.ensures, g.ensures.rows_room, g.auto.out_rows)); rows_value = (rows_in_range _ _ _ _ _ _ c.requires c.args.driver c.args.stamp.now c.args.out.now _ _ _ g.ensures, sym c.is_stamp.ensures ∙ c.if-not-is_stamp.false) }

pub returns : goal.returns
returns c = of_the_driver _ _ _ _ _ _ c.requires c.args.driver c.args.stamp.now c.args.out.now _ _ _ c.gather-count.ensures _ _ c.write_duties.ensures
