-- `path_steps::judge::conclude` meets its contract: one law for each answer. Assumes nothing.
use Rattle.path_steps.proofs.JudgeLaws.{found_required, displaced-all, found_optional, found-nobody}
use Rattle.path_steps.proofs.judge.conclude.Goals as goal

pub returns-then-found-shape : goal.returns-then-found-shape
returns-then-found-shape c = found_required _ _ c.args.found c.if-found-shape.true

pub returns-then-displace : goal.returns-then-displace
returns-then-displace c = displaced-all _ _ c.args.found c.if-found-shape.false c.if-displace.true

pub returns-then-found : goal.returns-then-found
returns-then-found c = found_optional _ _ c.args.found c.if-found-shape.false c.if-displace.false c.if-found.true

pub returns : goal.returns
returns c = found-nobody _ _ c.args.found c.if-found-shape.false c.if-displace.false c.if-found.false
