-- `calendar_stamps::day_of` meets its contract. Assumes nothing.
use mathlib.Core.Path.{ap, ◌∙◌}
use mathlib.Core.Bool.{not}
use Rattle.calendar_stamps.proofs.FieldLaws.{no_date_at_all, no_such_date, date_to_number, its_number}
use Rattle.calendar_stamps.proofs.day_of.Goals as goal

pub returns-in_err-date : goal.returns-in_err-date
returns-in_err-date c = c.from_residual.ensures ∙ no_date_at_all _ _ c.date_in.ensures c.in_err-date.was

pub returns-then-not-is_date : goal.returns-then-not-is_date
returns-then-not-is_date c = no_such_date _ _ c.date_in.ensures _ c.in_ok-date.was _ c.is_date.ensures (ap not c.if-not-is_date.true)

pub day_number-requires : goal.day_number-requires
day_number-requires c = date_to_number _ _ c.date_in.ensures _ c.in_ok-date.was _ c.is_date.ensures (ap not c.if-not-is_date.false)

pub returns : goal.returns
returns c = its_number _ _ c.date_in.ensures _ c.in_ok-date.was _ c.is_date.ensures (ap not c.if-not-is_date.false) _ c.day_number.ensures
