use Rattle.basics.proofs.Loops.{turns}
use Rattle.vector_answers.proofs.left.same_output.Goals as goal

pub loop-i-init : goal.loop-i-init
loop-i-init c = search turns

pub returns-then-not-same_left : goal.returns-then-not-same_left
returns-then-not-same_left c = search turns

pub loop-i-preserved : goal.loop-i-preserved
loop-i-preserved c = search turns

pub returns : goal.returns
returns c = search turns
