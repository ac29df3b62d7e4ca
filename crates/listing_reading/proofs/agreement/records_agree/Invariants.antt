-- `listing_reading::agreement::records_agree` meets its contract. The loop's invariant: the records passed all stand. Assumes nothing.
use mathlib.Core.Path.{◌≡◌}
use mathlib.Core.Bool.{true}
use Rattle.basics.specs.Tests.{all_below}
use Rattle.listing_format.specs.Format.{stands}
use Rattle.listing_reading.specs.Cells.{record_in}
use Rattle.listing_reading.proofs.agreement.records_agree.Given as goal

abbrev pub invariant-loop-place : goal.invariant-loop-place
invariant-loop-place l = all_below l.place (stands (record_in l.cells)) ≡ true
