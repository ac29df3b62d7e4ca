-- `calendar_stamps::date_in` meets its contract: a date is its three numbers. Assumes nothing.
use mathlib.Core.Path.{◌∙◌}
use Rattle.calendar_stamps.proofs.FieldLaws.{no_year, no_month, no_day, whole-date}
use Rattle.calendar_stamps.proofs.date_in.Goals as goal

pub returns-in_err-year : goal.returns-in_err-year
returns-in_err-year c = c.from_residual.ensures ∙ no_year _ c.requires _ c.read_digits.ensures c.in_err-year.was

pub returns-in_err-month : goal.returns-in_err-month
returns-in_err-month c = c.from_residual-in_err-month.ensures ∙ no_month _ c.requires _ c.read_digits.ensures _ c.in_ok-year.was _ c.read_digits-2.ensures c.in_err-month.was

pub returns-in_err-day : goal.returns-in_err-day
returns-in_err-day c = c.from_residual-in_err-day.ensures ∙ no_day _ c.requires _ c.read_digits.ensures _ c.in_ok-year.was _ c.read_digits-2.ensures _ c.in_ok-month.was _ c.read_digits-3.ensures c.in_err-day.was

pub returns : goal.returns
returns c = whole-date _ c.requires _ c.read_digits.ensures _ c.in_ok-year.was _ c.read_digits-2.ensures _ c.in_ok-month.was _ c.read_digits-3.ensures _ c.in_ok-day.was
