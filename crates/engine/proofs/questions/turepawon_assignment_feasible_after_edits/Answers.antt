-- `engine::questions::turepawon_assignment_feasible_after_edits` meets its contract. Assumes nothing.
use Rattle.engine.proofs.CodeLaws.{verdict_told_lem}
use Rattle.engine.proofs.questions.turepawon_assignment_feasible_after_edits.Goals as goal

pub returns : goal.returns
returns c = let both = verdict_told_lem _ _ _ _ _ c.assignment_feasible_after_edits-verdict.ensures c.question_told.ensures.0 c.question_told.ensures.1 in record { value = both.0; answer_value = both.1 }
