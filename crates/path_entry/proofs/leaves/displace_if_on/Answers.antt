-- `path_entry::leaves::displace_if_on` meets its contract. Assumes nothing.
use Rattle.assignment_tables.specs.Tables.{the_board}
use Rattle.assignment_index.specs.Index.{the_roster}
use mathlib.Core.Path.{sym, ◌∙◌}
use native.Mathlib.Omega.{arith}
use Rattle.path_entry.proofs.EnterLaws.{nothing-displaced}
use Rattle.path_entry.proofs.leaves.displace_if_on.Goals as goal

pub displace_blockers-requires : goal.displace_blockers-requires
displace_blockers-requires c = let room = c.requires.roomy in record { indexed = c.requires.indexed; lifted = rw (sym c.if-displace.true) c.requires.lifted; value_value = c.requires.value_value; in_bounds = (omega (arith, room.rows_long), room.rows_long ∙ sym room.values_long, omega (arith, room.rows_long, room.within)) }

pub returns-then-displace : goal.returns-then-displace
returns-then-displace c = rw c.if-displace.true c.displace_blockers.ensures

pub returns : goal.returns
returns c = rw c.if-displace.false (nothing-displaced (the_board c.args.tables.now) (the_roster c.args.tables.now c.args.index.now) _ _ _ _ _ c.requires.roomy)
