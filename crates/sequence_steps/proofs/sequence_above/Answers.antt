-- `sequence_steps::sequence_above` meets its contract. Assumes nothing.
use Rattle.sequence_steps.proofs.StepLaws.{above_last, above_at}
use Rattle.sequence_steps.proofs.sequence_above.Goals as goal

pub returns-then-sequence-eq-LAST : goal.returns-then-sequence-eq-LAST
returns-then-sequence-eq-LAST c = λ B. above_last B _ c.if-sequence-eq-LAST.true

pub returns : goal.returns
returns c = λ B. above_at B _ c.if-sequence-eq-LAST.false
