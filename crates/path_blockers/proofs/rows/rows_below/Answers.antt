-- `path_blockers::rows::rows_below` meets its contract: the place right below the row's, if it has a place. Assumes nothing.
use mathlib.Core.Path.{refl, sym, ◌∙◌}
use Rattle.basics.proofs.Bools.{clash}
use Rattle.path_blockers.proofs.RowLaws.{below-listed, no_below}
use Rattle.path_blockers.proofs.rows.rows_below.Goals as goal

pub returns-then-not-has_assignment_rule : goal.returns-then-not-has_assignment_rule
returns-then-not-has_assignment_rule c = record { result_value = (λ t. absurd (clash t (sym c.has_assignment_rule.ensures ∙ c.if-not-has_assignment_rule.true))); result_value_2 = λ f. refl }

pub returns : goal.returns
returns c = record { result_value = (λ t. below-listed c.args.tables.now.shape _ _ _ _ c.requires _ _ _ (sym c.sequence_key.ensures ∙ c.in-Some.is) _ (c.sequence_below-below.ensures _) _ c.standing_at.ensures); result_value_2 = λ f. absurd (clash (sym c.has_assignment_rule.ensures ∙ c.if-not-has_assignment_rule.false) f) }

pub returns-in_default : goal.returns-in_default
returns-in_default c = record { result_value = (λ t. no_below c.args.tables.now.shape _ _ _ _ c.requires _ _ (sym c.sequence_key.ensures ∙ c.in_default.is)); result_value_2 = λ f. absurd (clash (sym c.has_assignment_rule.ensures ∙ c.if-not-has_assignment_rule.false) f) }
