-- `engine::apply::turepawon_assignment_apply_edits` meets its contract. Assumes nothing.
use Rattle.engine.proofs.CodeLaws.{apply_told_lem}
use Rattle.engine.proofs.apply.turepawon_assignment_apply_edits.Goals as goal

pub returns : goal.returns
returns c = apply_told_lem _ _ _ _ _ _ _ c.assignment_apply_edits-verdict.ensures c.question_told.ensures.0 c.question_told.ensures.1
