-- `listing_tables::fill::fill_flags` meets its contract. The loop's invariant: what the records passed say stands in the table. Assumes nothing.
use mathlib.Core.Path.{◌≡◌}
use Rattle.listing_tables.specs.Filled.{scattered, flag_in, place_in}
use Rattle.listing_tables.proofs.fill.fill_flags.Given as goal

abbrev pub invariant-loop-i : goal.invariant-loop-i
invariant-loop-i l = l.flags ≡ scattered (place_in l.cells l.values l.start) (flag_in l.cells l.column) l.i l.initial.flags
