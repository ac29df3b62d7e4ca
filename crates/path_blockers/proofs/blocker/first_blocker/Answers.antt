-- `path_blockers::blocker::first_blocker` meets its contract: a holder of the key, or a row at a side where the edge rule refuses. Assumes nothing.
use mathlib.Core.Path.{ap}
use mathlib.Core.Bool.{not}
use Rattle.assignment_tables.specs.Tables.{required_at}
use Rattle.path_blockers.specs.Seeking.{unlisted, is_sought}
use Rattle.path_blockers.proofs.SoughtLaws.{no_rule, rule_allows, rule_refuses}
use Rattle.path_blockers.proofs.blocker.first_blocker.Goals as goal

pub returns-then-not-has_assignment_rule : goal.returns-then-not-has_assignment_rule
returns-then-not-has_assignment_rule c = no_rule c.args.tables.now.shape c.args.tables.now.marks.now (unlisted c.args.list_rows.now) (is_sought (required_at c.args.tables.now.shape c.args.tables.now.marks.now) c.args.list_rows.now c.args.optional) _ _ _ c.args.below.now c.args.above.now _ c.first_in-holder.ensures _ c.has_assignment_rule.ensures (ap not c.if-not-has_assignment_rule.true)

pub returns-then-sides_allow : goal.returns-then-sides_allow
returns-then-sides_allow c = rule_allows c.args.tables.now.shape c.args.tables.now.marks.now (unlisted c.args.list_rows.now) (is_sought (required_at c.args.tables.now.shape c.args.tables.now.marks.now) c.args.list_rows.now c.args.optional) _ _ _ c.args.below.now c.args.above.now _ c.first_in-holder.ensures _ c.sides_allow.ensures c.if-sides_allow.true

pub returns : goal.returns
returns c = rule_refuses c.args.tables.now.shape c.args.tables.now.marks.now (unlisted c.args.list_rows.now) (is_sought (required_at c.args.tables.now.shape c.args.tables.now.marks.now) c.args.list_rows.now c.args.optional) _ _ _ c.args.below.now c.args.above.now _ c.first_in-holder.ensures _ c.has_assignment_rule.ensures (ap not c.if-not-has_assignment_rule.false) _ c.sides_allow.ensures c.if-sides_allow.false _ c.first_beside-neighbour.ensures _ c.lesser.ensures
