-- `civil_dates::month_days` meets its contract. Assumes nothing.
use mathlib.Core.Path.{sym, ◌∙◌}
use Rattle.civil_dates.proofs.MonthLaws.{february, short_month, long_month}
use Rattle.civil_dates.proofs.month_days.Goals as goal

pub returns-then-is_leap : goal.returns-then-is_leap
returns-then-is_leap c = february _ _ _ c.if-month-eq2.true (sym c.if-is_leap.true ∙ c.is_leap.ensures)

pub returns-then-month-eq2 : goal.returns-then-month-eq2
returns-then-month-eq2 c = february _ _ _ c.if-month-eq2.true (sym c.if-is_leap.false ∙ c.is_leap.ensures)

pub returns-then-month : goal.returns-then-month
returns-then-month c = short_month _ _ c.if-month-eq2.false c.if-month.true

pub returns : goal.returns
returns c = long_month _ _ c.if-month-eq2.false c.if-month.false
