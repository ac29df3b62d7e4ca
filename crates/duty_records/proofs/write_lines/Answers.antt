use native.Mathlib.Omega.{arith}
use Rattle.outputs.proofs.Writing.{begun}
use Rattle.duty_records.proofs.LineLaws.{line_written, lines-written}
use Rattle.duty_records.proofs.write_lines.Goals as goal

pub loop-i-init : goal.loop-i-init
loop-i-init c = (omega arith, begun _ _ _)

pub bounds-days-i : goal.bounds-days-i
bounds-days-i c = omega (arith, c.requires.rows_len, c.loop-i-test.true)

pub write_line-next-requires : goal.write_line-next-requires
write_line-next-requires c = let l = c.loop-i in omega (arith, c.requires.rows_in_bounds, l.invariant.0, l.invariant.1.long, c.loop-i-test.true)

pub loop-i-preserved : goal.loop-i-preserved
loop-i-preserved c = let l = c.loop-i in (omega (arith, l.invariant.0, c.loop-i-test.true, c.write_line-next.ensures.upper_bound), line_written c.args.rows.now c.args.days.now l.i _ _ _ _ l.invariant.1 c.requires.rows_len c.loop-i-test.true _ _ c.write_line-next.ensures.wrote)

pub returns : goal.returns
returns c = let l = c.loop-i in record { wrote = lines-written _ _ l.i _ _ _ _ l.invariant.1 c.loop-i-test.false; upper_bound = omega (arith, l.invariant.0) }
