-- `overlay_pairs::between::new_lefts_pass` meets its contract. The loop's invariant: all before have passed. Assumes nothing.
use mathlib.Core.Path.{◌≡◌}
use mathlib.Core.Bool.{true}
use lib.ListN.{length}
use Rattle.basics.specs.Tests.{all_below}
use Rattle.assignment_tables.specs.Tables.{sequence_at}
use Rattle.overlay_pairs.specs.Pairs.{arrival_passes, beside_there, Recalled}
use Rattle.overlay_pairs.proofs.between.new_lefts_pass.Given as goal

abbrev pub invariant-loop-i : goal.invariant-loop-i
invariant-loop-i l = (all_below l.i (arrival_passes (sequence_at l.tables.shape l.tables.marks.now l.tables.keys.now) l.list_rows l.list_values l.value l.low (beside_there l.tables.shape l.tables.marks.now l.tables.keys.now l.list_rows l.list_values l.rights true l.value l.high)) ≡ true) × (Recalled l.tables.shape l.tables.marks.now l.judged × (length l.judged ≡ length l.initial.judged))
