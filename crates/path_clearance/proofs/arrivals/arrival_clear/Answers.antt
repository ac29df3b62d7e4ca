-- `path_clearance::arrivals::arrival_clear` meets its contract. Assumes nothing.
use Prim.Native.Nat.{◌+◌}
use mathlib.Core.Path.{ap, ◌∙◌}
use Rattle.basics.specs.Tests.{among}
use Rattle.assignment_tables.specs.Tables.{the_board}
use Rattle.path_clearance.proofs.ArrivalLaws.{arrival_itself, arrival-overruled, arrival-judged, rest-is}
use Rattle.path_clearance.proofs.arrivals.arrival_clear.Goals as goal

pub returns-then-other-row : goal.returns-then-other-row
returns-then-other-row c = arrival_itself (the_board c.args.tables.now) c.args.list_rows.now c.args.list_values.now _ _ _ c.if-other-row.true

pub returns-then-is_listed : goal.returns-then-is_listed
returns-then-is_listed c = arrival-overruled (the_board c.args.tables.now) c.args.list_rows.now c.args.list_values.now _ _ _ _ (c.is_listed.ensures ∙ ap (among _) (rest-is c.args.list_rows.now (c.args.i + 1))) c.if-is_listed.true

pub returns : goal.returns
returns c = arrival-judged (the_board c.args.tables.now) c.args.list_rows.now c.args.list_values.now _ _ _ c.if-other-row.false _ (c.is_listed.ensures ∙ ap (among _) (rest-is c.args.list_rows.now (c.args.i + 1))) c.if-is_listed.false _ c.clear_of.ensures
