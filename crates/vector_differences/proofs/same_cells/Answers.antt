use Rattle.basics.proofs.Loops.{turns}
use Rattle.vector_differences.proofs.same_cells.Goals as goal

pub loop-i-init : goal.loop-i-init
loop-i-init c = search turns

pub returns-then-not-same_word : goal.returns-then-not-same_word
returns-then-not-same_word c = search turns

pub loop-i-preserved : goal.loop-i-preserved
loop-i-preserved c = search turns

pub returns : goal.returns
returns c = search turns
