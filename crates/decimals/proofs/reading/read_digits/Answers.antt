use mathlib.Core.Path.{refl, sym, ◌∙◌}
use Rattle.decimals.proofs.ReadingLaws.{read_turn, read_stop, read_done}
use Rattle.decimals.proofs.reading.read_digits.Goals as goal

pub loop-byte-init : goal.loop-byte-init
loop-byte-init c = refl

pub returns-in_err-number : goal.returns-in_err-number
returns-in_err-number c = c.from_residual.ensures ∙ sym (c.loop-byte.invariant ∙ read_stop _ _ _ c.loop-byte-test.true (sym c.next_digit.ensures ∙ c.in_err-number.was))

pub loop-byte-preserved : goal.loop-byte-preserved
loop-byte-preserved c = c.loop-byte.invariant ∙ read_turn _ _ _ c.loop-byte-test.true _ (sym c.next_digit.ensures ∙ c.in_ok-number.was)

pub returns : goal.returns
returns c = sym (c.loop-byte.invariant ∙ read_done _ _ _ c.loop-byte-test.false)
