use Rattle.assignment_tables.proofs.RefusalLaws.{sweep_start, sweep_next, sweep_end}
use Rattle.table_refusals.proofs.all_under.Goals as goal

pub loop-x-init : goal.loop-x-init
loop-x-init c = sweep_start c.args.bound c.args.listed.now

pub loop-x-preserved : goal.loop-x-preserved
loop-x-preserved c = sweep_next c.args.bound c.args.listed.now c.loop-x.x-index c.loop-x.fits c.loop-x.invariant

pub returns : goal.returns
returns c = sweep_end c.args.bound c.args.listed.now c.loop-x.x-index c.loop-x.fits c.loop-x.auto.x-index-end c.loop-x-test.false c.loop-x.invariant
