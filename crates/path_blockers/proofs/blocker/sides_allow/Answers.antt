-- `path_blockers::blocker::sides_allow` meets its contract: one side and then the other. Assumes nothing.
use mathlib.Core.Path.{ap}
use mathlib.Core.Bool.{not}
use Rattle.path_blockers.specs.Seeking.{unlisted}
use Rattle.path_blockers.proofs.SoughtLaws.{below_refuses, both_allow}
use Rattle.path_blockers.proofs.blocker.sides_allow.Goals as goal

pub returns-then-not-all_allow : goal.returns-then-not-all_allow
returns-then-not-all_allow c = below_refuses c.args.tables.now.shape c.args.tables.now.marks.now (unlisted c.args.list_rows.now) _ _ _ _ c.all_allow.ensures (ap not c.if-not-all_allow.true)

pub returns : goal.returns
returns c = both_allow c.args.tables.now.shape c.args.tables.now.marks.now (unlisted c.args.list_rows.now) _ _ _ _ c.all_allow.ensures (ap not c.if-not-all_allow.false) _ c.all_allow-2.ensures
