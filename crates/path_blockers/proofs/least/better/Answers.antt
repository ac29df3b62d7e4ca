-- `path_blockers::least::better` meets its contract. Assumes nothing.
use Rattle.assignment_tables.specs.Tables.{required_at}
use Rattle.path_blockers.specs.Seeking.{is_sought}
use Rattle.path_blockers.proofs.LeastLaws.{too_low, no_better}
use Rattle.path_blockers.proofs.SoughtLaws.{itself, found_better, not_looked_for}
use borrow.Author.Rules.{rules}
use Rattle.path_blockers.proofs.least.better.Goals as goal

pub returns-then-other-from : goal.returns-then-other-from
returns-then-other-from c = search (rules, too_low)

pub returns-then-best-other : goal.returns-then-best-other
returns-then-best-other c = search (rules, no_better)

pub returns-then-other-row : goal.returns-then-other-row
returns-then-other-row c = itself (is_sought (required_at c.args.tables.now.shape c.args.tables.now.marks.now) c.args.list_rows.now c.args.optional) _ _ _ _ c.if-other-row.true

pub returns-then-is_sought : goal.returns-then-is_sought
returns-then-is_sought c = found_better (is_sought (required_at c.args.tables.now.shape c.args.tables.now.marks.now) c.args.list_rows.now c.args.optional) _ _ _ _ c.if-other-from.false c.if-best-other.false c.if-other-row.false _ c.is_sought.ensures c.if-is_sought.true

pub returns : goal.returns
returns c = not_looked_for (is_sought (required_at c.args.tables.now.shape c.args.tables.now.marks.now) c.args.list_rows.now c.args.optional) _ _ _ _ _ c.is_sought.ensures c.if-is_sought.false
