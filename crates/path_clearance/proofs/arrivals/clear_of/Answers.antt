-- `path_clearance::arrivals::clear_of` meets its contract. Assumes nothing.
use mathlib.Core.Path.{ap}
use mathlib.Core.Bool.{not}
use Rattle.assignment_tables.specs.Tables.{the_board}
use Rattle.path_clearance.proofs.ArrivalLaws.{key_shared, rule_absent, before-refused, behind_decides}
use Rattle.path_clearance.proofs.arrivals.clear_of.Goals as goal

pub returns-then-share_key : goal.returns-then-share_key
returns-then-share_key c = key_shared (the_board c.args.tables.now) _ _ _ _ _ c.share_key.ensures c.if-share_key.true

pub returns-then-not-has_assignment_rule : goal.returns-then-not-has_assignment_rule
returns-then-not-has_assignment_rule c = rule_absent (the_board c.args.tables.now) _ _ _ _ _ c.share_key.ensures c.if-share_key.false _ c.has_assignment_rule.ensures (ap not c.if-not-has_assignment_rule.true)

pub returns-then-not-pair_fits : goal.returns-then-not-pair_fits
returns-then-not-pair_fits c = before-refused (the_board c.args.tables.now) _ _ _ _ _ c.share_key.ensures c.if-share_key.false _ c.has_assignment_rule.ensures (ap not c.if-not-has_assignment_rule.false) _ c.pair_fits.ensures (ap not c.if-not-pair_fits.true)

pub returns : goal.returns
returns c = behind_decides (the_board c.args.tables.now) _ _ _ _ _ c.share_key.ensures c.if-share_key.false _ c.has_assignment_rule.ensures (ap not c.if-not-has_assignment_rule.false) _ c.pair_fits.ensures (ap not c.if-not-pair_fits.false) _ c.pair_fits-2.ensures
