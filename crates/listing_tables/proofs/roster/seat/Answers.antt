-- `listing_tables::roster::seat` meets its contract. Assumes nothing.
use Rattle.listing_tables.proofs.RosterLaws.{seated-here, seated_not}
use native.Mathlib.Omega.{arith}
use Rattle.listing_tables.proofs.roster.seat.Goals as goal

pub offset_bounds-roster-row : goal.offset_bounds-roster-row
offset_bounds-roster-row c = let l = c.requires.fitting.row c.args.i (omega arith) in
    omega (arith, l, c.requires.fitting.few_rows, c.requires.i_bound)

pub bounds-roster-row : goal.bounds-roster-row
bounds-roster-row c = let l = c.requires.fitting.row c.args.i (omega arith) in
    omega (arith, l, c.requires.fitting.few_rows, c.requires.i_bound)

pub returns-then-cells-i-eq1 : goal.returns-then-cells-i-eq1
returns-then-cells-i-eq1 c = λ z e. seated-here c.args.cells.now z _ _ e c.if-cells-i-eq1.true

pub returns-else-cells-i-eq1 : goal.returns-else-cells-i-eq1
returns-else-cells-i-eq1 c = λ z e. seated_not c.args.cells.now z _ _ e c.if-cells-i-eq1.false
