-- `listing_reading::cells::read_lines` meets its contract. The loop's invariant: the records so far stand in the cells, and what is left of the lines comes behind them. Assumes nothing.
use Prim.Native.Nat.{◌-◌}
use lib.ListN.{length}
use Rattle.listing_reading.proofs.CellLaws.{Progress}
use Rattle.listing_reading.proofs.cells.read_lines.Given as goal

abbrev pub invariant-loop-at : goal.invariant-loop-at
invariant-loop-at l = Progress l.bytes l.from l.initial.cells l.cells l.count l.at

abbrev pub decreases-loop-at : goal.decreases-loop-at
decreases-loop-at l = length l.bytes - l.at
