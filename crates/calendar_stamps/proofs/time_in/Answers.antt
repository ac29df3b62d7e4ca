-- `calendar_stamps::time_in` meets its contract: a time is its two letters and its three numbers. Assumes nothing.
use mathlib.Core.Path.{◌∙◌}
use Rattle.calendar_stamps.proofs.FieldLaws.{other_start, other_end, no_hour, no_minute, no_second, whole_time}
use Rattle.calendar_stamps.proofs.time_in.Goals as goal

pub returns-then-text-ne84 : goal.returns-then-text-ne84
returns-then-text-ne84 c = other_start _ c.requires c.if-text-ne84.true

pub returns-then-text-ne90 : goal.returns-then-text-ne90
returns-then-text-ne90 c = other_end _ c.requires c.if-text-ne84.false c.if-text-ne90.true

pub returns-in_err-hour : goal.returns-in_err-hour
returns-in_err-hour c = c.from_residual.ensures ∙ no_hour _ c.requires c.if-text-ne84.false c.if-text-ne90.false _ c.read_digits.ensures c.in_err-hour.was

pub returns-in_err-minute : goal.returns-in_err-minute
returns-in_err-minute c = c.from_residual-in_err-minute.ensures ∙ no_minute _ c.requires c.if-text-ne84.false c.if-text-ne90.false _ c.read_digits.ensures _ c.in_ok-hour.was _ c.read_digits-2.ensures c.in_err-minute.was

pub returns-in_err-second : goal.returns-in_err-second
returns-in_err-second c = c.from_residual-in_err-second.ensures ∙ no_second _ c.requires c.if-text-ne84.false c.if-text-ne90.false _ c.read_digits.ensures _ c.in_ok-hour.was _ c.read_digits-2.ensures _ c.in_ok-minute.was _ c.read_digits-3.ensures c.in_err-second.was

pub returns : goal.returns
returns c = whole_time _ c.requires c.if-text-ne84.false c.if-text-ne90.false _ c.read_digits.ensures _ c.in_ok-hour.was _ c.read_digits-2.ensures _ c.in_ok-minute.was _ c.read_digits-3.ensures _ c.in_ok-second.was
