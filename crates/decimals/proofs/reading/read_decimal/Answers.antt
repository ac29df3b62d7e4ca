-- `decimals::reading::read_decimal` meets its contract. Assumes nothing.
use mathlib.Core.Path.{sym, ◌∙◌}
use Rattle.std.specs.Prelude.{None, Some}
use Rattle.decimals.proofs.ReadingLaws.{right, decimal-empty, decimal-other, decimal_nought, decimal_leading}
use Rattle.decimals.proofs.reading.read_decimal.Goals as goal

pub returns-then-field-eq0 : goal.returns-then-field-eq0
returns-then-field-eq0 c = right _ _ (decimal-empty _ c.if-field-eq0.true)

pub returns-then-field-ne48 : goal.returns-then-field-ne48
returns-then-field-ne48 c = right _ _ (decimal-other _ c.if-field-eq0.false c.if-field-ne48.true ∙ sym c.read_digits.ensures)

pub returns-then-field-eq1 : goal.returns-then-field-eq1
returns-then-field-eq1 c = right _ (Some 0) (decimal_nought _ c.if-field-ne48.false c.if-field-eq1.true)

pub returns : goal.returns
returns c = right _ None (decimal_leading _ c.if-field-ne48.false c.if-field-eq1.false)
