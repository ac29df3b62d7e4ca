-- `overlay_capacity::left_key_departures` meets its contract. Assumes nothing.
use native.Mathlib.Omega.{arith}
use Rattle.overlay_capacity.proofs.HolderLaws.{one_leaves}
use Rattle.overlay_capacity.proofs.left_key_departures.Goals as goal

pub returns-then-held-eq1 : goal.returns-then-held-eq1
returns-then-held-eq1 c = (one_leaves c.args.rows c.args.records.now c.args.list_rows.now c.requires.list_rows_value.0 c.requires.list_rows_value.1 c.args.key c.args.i c.args.held c.requires.i_in_bounds.0 c.requires.i_in_bounds.1 c.requires.held_value c.if-held-eq1.true, omega (arith, c.requires.i_in_bounds.0))
