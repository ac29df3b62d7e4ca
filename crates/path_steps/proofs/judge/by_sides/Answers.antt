-- `path_steps::judge::by_sides` meets its contract: the holders alone, or those at the sides too. Assumes nothing.
use mathlib.Core.Path.{ap}
use mathlib.Core.Bool.{not}
use Rattle.path_steps.proofs.BlockerLaws.{blocking_both}
use Rattle.path_steps.proofs.JudgeLaws.{concluded-among, sides_allowed, sides_refused}
use Rattle.path_steps.proofs.judge.by_sides.Goals as goal

pub returns-then-not-sides_refuse : goal.returns-then-not-sides_refuse
returns-then-not-sides_refuse c = sides_allowed c.args.tables.now.shape c.args.tables.now.marks.now _ _ _ c.args.below.now c.args.above.now _ c.sides_refuse.ensures (ap not c.if-not-sides_refuse.true) _
    (concluded-among c.args.tables.now.shape c.args.tables.now.marks.now _ _ _ c.found_among-holding.ensures _ _ c.conclude.ensures)

pub returns : goal.returns
returns c = let S = c.args.tables.now.shape in
    let m = c.args.tables.now.marks.now in
    let beside = blocking_both S m _ _ _ _ _ _ c.found_among-low.ensures c.found_among-high.ensures c.both.ensures in
    let found = blocking_both S m _ _ _ _ _ _ c.found_among-holding.ensures beside c.both-2.ensures in
    sides_refused S m _ _ _ c.args.below.now c.args.above.now _ c.sides_refuse.ensures (ap not c.if-not-sides_refuse.false) _
    (concluded-among S m _ _ _ found _ _ c.conclude-2.ensures)
