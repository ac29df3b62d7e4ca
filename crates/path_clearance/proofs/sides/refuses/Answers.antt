use mathlib.Core.Path.{ap, sym, ◌∙◌}
use mathlib.Core.Bool.{not}
use native.Mathlib.Omega.{arith}
use borrow.Author.Rules.{rules}
use Rattle.basics.proofs.Below.{all-below}
use Rattle.basics.proofs.Loops.{all_none, turn_fails, turn_more, turn_end}
use Rattle.path_clearance.proofs.RefusingLaws.{turned}
use Rattle.path_clearance.proofs.sides.refuses.Goals as goal

pub loop-other-init : goal.loop-other-init
loop-other-init c = search (rules, all_none)

pub returns-then-refused : goal.returns-then-refused
returns-then-refused c = ap not (turn_fails _ _ _ _ c.loop-other-test.true (turned _ _ c.refused.ensures) (ap not c.if-refused.true) ∙ sym (all-below _ 0 _))

pub loop-other-preserved : goal.loop-other-preserved
loop-other-preserved c = (omega arith, turn_more _ _ _ c.loop-other.invariant.1 (turned _ _ c.refused.ensures) (ap not c.if-refused.false))

pub returns : goal.returns
returns c = ap not (turn_end _ _ _ c.loop-other.invariant.0 c.loop-other-test.false c.loop-other.invariant.1 ∙ sym (all-below _ 0 _))
