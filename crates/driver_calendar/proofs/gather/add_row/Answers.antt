-- `driver_calendar::gather::add_row` meets its contract. Assumes nothing.
use mathlib.Core.Path.{sym, ◌∙◌}
use Rattle.driver_calendar.proofs.RecordedLaws.{held_by_another, without-a_day, with_a_day}
use Rattle.driver_calendar.proofs.gather.add_row.Goals as goal

pub returns-then-held_value-driver : goal.returns-then-held_value-driver
returns-then-held_value-driver c = held_by_another _ _ _ _ _ _ _ (λ e. c.if-held_value-driver.true (c.held_value.ensures ∙ e))

pub returns-then-cell-eq0 : goal.returns-then-cell-eq0
returns-then-cell-eq0 c = without-a_day _ _ _ _ _ _ _ (sym c.held_value.ensures ∙ c.if-held_value-driver.false) (sym c.cell.ensures ∙ c.if-cell-eq0.true)

pub returns : goal.returns
returns c = with_a_day _ _ _ _ _ _ _ (sym c.held_value.ensures ∙ c.if-held_value-driver.false) (λ e. c.if-cell-eq0.false (c.cell.ensures ∙ e)) c.requires.count_in_bounds.0 c.requires.count_in_bounds.1 _ c.cell-2.ensures
