-- `path_clearance::arrivals::pair_fits` meets its contract. Assumes nothing.
use Rattle.assignment_tables.specs.Tables.{the_board}
use Rattle.path_clearance.proofs.ArrivalLaws.{edge_decides, apart_allowed}
use Rattle.path_clearance.proofs.arrivals.pair_fits.Goals as goal

pub returns-then-stands_before : goal.returns-then-stands_before
returns-then-stands_before c = edge_decides (the_board c.args.tables.now) _ _ _ _ _ c.stands_before.ensures c.if-stands_before.true _ c.assignment_edge_allowed.ensures

pub returns : goal.returns
returns c = apart_allowed (the_board c.args.tables.now) _ _ _ _ _ c.stands_before.ensures c.if-stands_before.false
