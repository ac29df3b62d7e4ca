-- `path_clearance::sides::refused` meets its contract: the row is not there, or the pair on one side decides. Assumes nothing.
use borrow.Author.Rules.{rules}
use Rattle.path_clearance.proofs.RefusingLaws.{absent, refused-right, refused-left}
use Rattle.path_clearance.proofs.sides.refused.Goals as goal

pub returns-then-not-is_there : goal.returns-then-not-is_there
returns-then-not-is_there c = search (rules, absent)

pub returns-then-right : goal.returns-then-right
returns-then-right c = search (rules, refused-right)

pub returns : goal.returns
returns c = search (rules, refused-left)
