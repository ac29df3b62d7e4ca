use Rattle.calendar_writing.proofs.LengthLaws.{long_start, long_turn, long_end, three_digits}
use native.Mathlib.Omega.{arith}
use Rattle.calendar_writing.proofs.object.object_length.Goals as goal

pub loop-i-init : goal.loop-i-init
loop-i-init c = (long_start _, omega arith)

pub overflow_add-long : goal.overflow_add-long
overflow_add-long c = omega (arith, c.loop-i.invariant.1, c.requires)

pub overflow_mul-long : goal.overflow_mul-long
overflow_mul-long c = let l = c.loop-i in omega (arith, three_digits c.args.rows.now l.i c.requires.1 c.loop-i-test.true, c.digit_count.ensures)

pub overflow_add-long-in-loop-i : goal.overflow_add-long-in-loop-i
overflow_add-long-in-loop-i c = let l = c.loop-i in omega (arith, three_digits c.args.rows.now l.i c.requires.1 c.loop-i-test.true, c.digit_count.ensures, l.invariant.1, c.requires.0)

pub loop-i-preserved : goal.loop-i-preserved
loop-i-preserved c = let l = c.loop-i in let t = three_digits c.args.rows.now l.i c.requires.1 c.loop-i-test.true in (omega (arith, long_turn c.args.rows.now l.i c.loop-i-test.true, c.digit_count.ensures, l.invariant.0), omega (arith, c.digit_count.ensures, l.invariant.1))

pub returns : goal.returns
returns c = let l = c.loop-i in omega (arith, long_end c.args.rows.now l.i c.loop-i-test.false, l.invariant.0)
