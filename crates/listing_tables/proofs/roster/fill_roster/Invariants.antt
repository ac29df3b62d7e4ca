-- `listing_tables::roster::fill_roster` meets its contract. The loop's invariant: the records passed have put their values. Assumes nothing.
use mathlib.Core.Path.{◌≡◌}
use lib.ListN.{replicate}
use Rattle.rules.specs.Board.{empty}
use Rattle.listing_tables.specs.Filled.{seated}
use Rattle.listing_tables.proofs.roster.fill_roster.Given as goal

abbrev pub invariant-loop-i : goal.invariant-loop-i
invariant-loop-i l = l.roster ≡ seated l.cells l.i (replicate l.rows empty)
