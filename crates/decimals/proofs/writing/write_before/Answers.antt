use Prim.Native.Nat.{◌/◌}
use Rattle.decimals.proofs.WritingLaws.{filling, filled_more, filled}
use Rattle.decimals.proofs.DigitLaws.{length_pos, length_more}
use native.Mathlib.Omega.{arith}
use Rattle.decimals.proofs.writing.write_before.Goals as goal

pub overflow_sub-place : goal.overflow_sub-place
overflow_sub-place c = omega (arith, length_pos c.args.number)

pub loop-rest-init : goal.loop-rest-init
loop-rest-init c = filling _ _ _ c.requires.0

pub bounds-out-place : goal.bounds-out-place
bounds-out-place c = let l = c.loop-rest in
    omega (arith, l.invariant.long, l.invariant.ends, l.invariant.fewer, c.requires)

pub overflow_sub-place-in-loop-rest : goal.overflow_sub-place-in-loop-rest
overflow_sub-place-in-loop-rest c = let l = c.loop-rest in
    omega (arith, l.invariant.ends, length_more l.rest c.loop-rest-test.true, length_pos (l.rest / 10))

pub loop-rest-preserved : goal.loop-rest-preserved
loop-rest-preserved c = let l = c.loop-rest in
    filled_more _ _ _ _ _ _ l.invariant _ c.last_digit.ensures c.loop-rest-test.true

pub bounds-out-place-2 : goal.bounds-out-place-2
bounds-out-place-2 c = let l = c.loop-rest in
    omega (arith, l.invariant.long, l.invariant.ends, l.invariant.fewer, c.requires)

pub returns : goal.returns
returns c = let l = c.loop-rest in
    filled _ _ _ _ _ _ l.invariant _ c.last_digit-2.ensures c.loop-rest-test.false
