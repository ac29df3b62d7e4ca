use Rattle.basics.proofs.Loops.{turns}
use Rattle.index_check.proofs.all_recorded.Goals as goal

pub loop-row-init : goal.loop-row-init
loop-row-init c = search turns

pub returns-then-not-row_recorded : goal.returns-then-not-row_recorded
returns-then-not-row_recorded c = search turns

pub loop-row-preserved : goal.loop-row-preserved
loop-row-preserved c = search turns

pub returns : goal.returns
returns c = search turns
