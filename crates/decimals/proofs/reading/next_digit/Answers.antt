-- `decimals::reading::next_digit` meets its contract: the test on the quotient says whether the sum is below 2^64. Assumes nothing.
use mathlib.Core.Path.{sym}
use Rattle.decimals.proofs.ReadingLaws.{digit-taken, digit_under, digit-over, digit_too_large}
use native.Mathlib.Omega.{arith}
use Rattle.decimals.proofs.reading.next_digit.Goals as goal

pub returns-then-byte-lt48 : goal.returns-then-byte-lt48
returns-then-byte-lt48 c = sym (digit_under _ _ c.if-byte-lt48.true)

pub returns-then-byte-gt57 : goal.returns-then-byte-gt57
returns-then-byte-gt57 c = sym (digit-over _ _ c.if-byte-gt57.true)

pub returns-then-unit-number : goal.returns-then-unit-number
returns-then-unit-number c = sym (digit_too_large _ _ (omega arith) (omega arith) (omega arith))

pub returns : goal.returns
returns c = sym (digit-taken _ _ (omega arith) (omega arith) (omega arith))
