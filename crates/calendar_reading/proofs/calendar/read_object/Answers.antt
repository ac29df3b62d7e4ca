-- `calendar_reading::calendar::read_object` meets its contract: header, stamp and events, in this order. Assumes nothing.
use mathlib.Core.Path.{ap}
use mathlib.Core.Bool.{not}
use Rattle.basics.proofs.Options.{none_so}
use Rattle.calendar_format.specs.Format.{header, opening}
use Rattle.calendar_reading.proofs.EntryLaws.{without-header, start_within, without-opening, stamped_within, without-stamp, with_another-stamp, its_events}
use Rattle.calendar_reading.proofs.calendar.read_object.Goals as goal

pub returns-in_err-start : goal.returns-in_err-start
unfolding header
returns-in_err-start c = none_so _ _ c.from_residual.ensures (without-header _ _ c.after_text.ensures c.in_err-start.was)

pub after_text-requires-2 : goal.after_text-requires-2
unfolding header
after_text-requires-2 c = start_within _ _ c.after_text.ensures _ c.in_ok-start.was

pub returns-in_err-stamped : goal.returns-in_err-stamped
unfolding header opening
returns-in_err-stamped c = none_so _ _ c.from_residual-in_err-stamped.ensures (without-opening _ _ c.after_text.ensures _ c.in_ok-start.was _ c.after_text-2.ensures c.in_err-stamped.was)

pub copy_octets-requires : goal.copy_octets-requires
unfolding header opening
copy_octets-requires c = stamped_within _ _ c.after_text.ensures _ c.in_ok-start.was _ c.after_text-2.ensures _ c.in_ok-stamped.was

pub returns-in_err-copy_octets : goal.returns-in_err-copy_octets
unfolding header opening
returns-in_err-copy_octets c = none_so _ _ c.from_residual-in_err-copy_octets.ensures (without-stamp _ _ c.after_text.ensures _ c.in_ok-start.was _ c.after_text-2.ensures _ c.in_ok-stamped.was _ _ c.copy_octets.ensures c.in_err-copy_octets.was)

pub returns-then-not-is_stamp : goal.returns-then-not-is_stamp
unfolding header opening
returns-then-not-is_stamp c = with_another-stamp _ _ c.after_text.ensures _ c.in_ok-start.was _ c.after_text-2.ensures _ c.in_ok-stamped.was _ _ c.copy_octets.ensures _ c.in_ok-copy_octets.was _ c.is_stamp.ensures (ap not c.if-not-is_stamp.true)

pub read_events-requires : goal.read_events-requires
unfolding header
read_events-requires c = (start_within _ _ c.after_text.ensures _ c.in_ok-start.was, c.copy_octets.auto.copy, c.requires.0, c.requires.1)

pub returns : goal.returns
unfolding header opening
returns c = let w = c.read_events in its_events _ _ c.after_text.ensures _ c.in_ok-start.was _ c.after_text-2.ensures _ c.in_ok-stamped.was _ _ c.copy_octets.ensures _ c.in_ok-copy_octets.was _ c.is_stamp.ensures (ap not c.if-not-is_stamp.false) w.new.rows w.new.days w.result w.ensures
