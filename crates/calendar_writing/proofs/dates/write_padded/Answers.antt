use Rattle.calendar_writing.proofs.PaddedLaws.{begins, one_written, all-written}
use native.Mathlib.Omega.{arith}
use Rattle.calendar_writing.proofs.dates.write_padded.Goals as goal

pub loop-left-init : goal.loop-left-init
loop-left-init c = begins _ _ _ _

pub overflow_add-out : goal.overflow_add-out
overflow_add-out c = let l = c.loop-left in omega (arith, l.invariant.fewer, c.requires)

pub bounds-out-at : goal.bounds-out-at
bounds-out-at c = let l = c.loop-left in omega (arith, l.invariant.long, l.invariant.fewer, c.requires)

pub loop-left-preserved : goal.loop-left-preserved
loop-left-preserved c = let l = c.loop-left in one_written _ _ _ _ _ _ _ l.invariant c.loop-left-test.true _ c.last_digit.ensures

pub returns : goal.returns
returns c = all-written _ _ _ _ _ _ _ c.loop-left.invariant c.loop-left-test.false
