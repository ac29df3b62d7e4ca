-- `path_blockers::least::is_sought` meets its contract. Assumes nothing.
use Rattle.path_blockers.proofs.SoughtLaws.{any_sought, not_optional, optional_sought}
use borrow.Author.Rules.{rules}
use Rattle.path_blockers.proofs.least.is_sought.Goals as goal

pub returns-then-not-optional : goal.returns-then-not-optional
returns-then-not-optional c = search (rules, any_sought)

pub returns-then-is_required : goal.returns-then-is_required
returns-then-is_required c = search (rules, not_optional)

pub returns : goal.returns
returns c = search (rules, optional_sought)
