use Rattle.decimals.proofs.DigitLaws.{length_one, length_more}
use native.Mathlib.Omega.{arith}
use Rattle.decimals.proofs.writing.digit_count.Goals as goal

pub loop-rest-preserved : goal.loop-rest-preserved
loop-rest-preserved c = let l = c.loop-rest in
    (omega (arith, length_more l.rest c.loop-rest-test.true), omega arith)

pub returns : goal.returns
returns c = let l = c.loop-rest in
    omega (arith, length_one l.rest c.loop-rest-test.false)
