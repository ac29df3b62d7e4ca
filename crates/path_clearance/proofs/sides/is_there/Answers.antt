-- `path_clearance::sides::is_there` meets its contract: with displacement the required rows, without it every row. Assumes nothing.
use borrow.Author.Rules.{rules}
use Rattle.path_clearance.proofs.RefusingLaws.{there_on, there_off}
use Rattle.path_clearance.proofs.sides.is_there.Goals as goal

pub returns-then-displace : goal.returns-then-displace
returns-then-displace c = search (rules, there_on)

pub returns : goal.returns
returns c = search (rules, there_off)
