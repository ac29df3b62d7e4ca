-- `path_blockers::rows::rows_above` meets its contract: the place right above the row's, if it has a place. Assumes nothing.
use mathlib.Core.Path.{refl, sym, ◌∙◌}
use Rattle.basics.proofs.Bools.{clash}
use Rattle.overlay_pairs.proofs.Sides.{small-sequences}
use Rattle.path_blockers.proofs.RowLaws.{above_listed, no_above}
use Rattle.path_blockers.proofs.rows.rows_above.Goals as goal

pub returns-then-not-has_assignment_rule : goal.returns-then-not-has_assignment_rule
returns-then-not-has_assignment_rule c = record { result_value = (λ t. absurd (clash t (sym c.has_assignment_rule.ensures ∙ c.if-not-has_assignment_rule.true))); result_value_2 = λ f. refl }

pub returns : goal.returns
returns c = record { result_value = (λ t. above_listed c.args.tables.now.shape _ _ _ _ c.requires _ _ _ (sym c.sequence_key.ensures ∙ c.in-Some.is) (small-sequences c.args.tables.now.shape _ _ c.args.tables.now.keys_fit) _ (c.sequence_above-above.ensures _) _ c.standing_at.ensures); result_value_2 = λ f. absurd (clash (sym c.has_assignment_rule.ensures ∙ c.if-not-has_assignment_rule.false) f) }

pub returns-in_default : goal.returns-in_default
returns-in_default c = record { result_value = (λ t. no_above c.args.tables.now.shape _ _ _ _ c.requires _ _ (sym c.sequence_key.ensures ∙ c.in_default.is)); result_value_2 = λ f. absurd (clash (sym c.has_assignment_rule.ensures ∙ c.if-not-has_assignment_rule.false) f) }
