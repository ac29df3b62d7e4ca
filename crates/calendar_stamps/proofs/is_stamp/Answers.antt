-- `calendar_stamps::is_stamp` meets its contract: a stamp is a date and a time. Assumes nothing.
use Rattle.calendar_stamps.proofs.FieldLaws.{not_long, no_date, no_time, date_and_time}
use mathlib.Core.Path.{◌∙◌}
use Rattle.calendar_stamps.proofs.is_stamp.Goals as goal

pub returns-then-text-ne16 : goal.returns-then-text-ne16
returns-then-text-ne16 c = not_long _ c.if-text-ne16.true

pub returns-in_default : goal.returns-in_default
returns-in_default c = no_date _ c.if-text-ne16.false _ c.date_in.ensures c.in_default.is

pub returns-in_default-time_in : goal.returns-in_default-time_in
returns-in_default-time_in c = no_time _ c.if-text-ne16.false _ c.date_in.ensures _ c.in-Some.is _ c.time_in.ensures c.in_default-time_in.is

pub returns : goal.returns
returns c = c.in_range.ensures ∙ date_and_time _ c.if-text-ne16.false _ c.date_in.ensures _ c.in-Some.is _ c.time_in.ensures _ c.in-Some-time_in.is
