-- `listing_tables::fill::fill_numbers` meets its contract. The loop's invariant: what the records passed say stands in the table. Assumes nothing.
use mathlib.Core.Path.{◌≡◌}
use Rattle.listing_shape.specs.Counts.{cell_in}
use Rattle.listing_tables.specs.Filled.{scattered, place_in}
use Rattle.listing_tables.proofs.fill.fill_numbers.Given as goal

abbrev pub invariant-loop-i : goal.invariant-loop-i
invariant-loop-i l = l.numbers ≡ scattered (place_in l.cells l.values l.start) (cell_in l.cells l.column) l.i l.initial.numbers
