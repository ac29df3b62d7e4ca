-- `civil_dates::year_days` meets its contract. Assumes nothing.
use mathlib.Core.Path.{sym, ◌∙◌}
use Rattle.civil_dates.proofs.MonthLaws.{year_long}
use Rattle.civil_dates.proofs.year_days.Goals as goal

pub returns-then-is_leap : goal.returns-then-is_leap
returns-then-is_leap c = year_long _ _ (sym c.if-is_leap.true ∙ c.is_leap.ensures)

pub returns : goal.returns
returns c = year_long _ _ (sym c.if-is_leap.false ∙ c.is_leap.ensures)
