-- `overlay_reading::list_reads` meets its contract. The loop's invariant: all before have passed. Assumes nothing.
use mathlib.Core.Path.{◌≡◌}
use mathlib.Core.Bool.{true}
use Rattle.basics.specs.Tests.{all_below}
use Rattle.overlay_reading.specs.Reading.{entry_reads}
use Rattle.overlay_reading.proofs.list_reads.Given as goal

abbrev pub invariant-loop-i : goal.invariant-loop-i
invariant-loop-i l = all_below l.i (entry_reads l.last l.tables.shape l.tables.marks.now l.list_rows l.list_values) ≡ true
