use Rattle.basics.proofs.Loops.{turns}
use Rattle.vector_answers.proofs.answers.same_told.Goals as goal

pub loop-i-init : goal.loop-i-init
loop-i-init c = search turns

pub returns-then-not-same_told_at : goal.returns-then-not-same_told_at
returns-then-not-same_told_at c = search turns

pub loop-i-preserved : goal.loop-i-preserved
loop-i-preserved c = search turns

pub returns : goal.returns
returns c = search turns
