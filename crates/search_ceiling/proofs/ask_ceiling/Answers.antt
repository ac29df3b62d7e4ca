-- `search_ceiling::ask_ceiling` meets its contract. Assumes nothing.
use native.Mathlib.Omega.{arith}
use Rattle.search_rules.proofs.Ceilings.{ceiling_fits}
use Rattle.search_ceiling.proofs.CeilingLaws.{many_candidates, deep_ceiling, ceiling_is}
use Rattle.search_ceiling.proofs.ask_ceiling.Goals as goal

pub returns-then-most-candidates : goal.returns-then-most-candidates
returns-then-most-candidates c = many_candidates c.args.candidates c.args.depth (omega arith)

pub returns-then-depth-gt8 : goal.returns-then-depth-gt8
returns-then-depth-gt8 c = deep_ceiling _ _ c.if-most-candidates.false c.if-depth-gt8.true

pub overflow_add-result : goal.overflow_add-result
overflow_add-result c = omega (arith, c.level_ceiling.ensures, ceiling_fits c.args.candidates c.args.depth c.if-most-candidates.false c.if-depth-gt8.false)

pub returns : goal.returns
returns c = ceiling_is _ _ _ c.if-most-candidates.false c.if-depth-gt8.false c.level_ceiling.ensures
