-- `overlay_pairs::between::lefts_pass` meets its contract. The loop's invariant: all before have passed. Assumes nothing.
use Prim.Native.Nat.{◌≤◌}
use mathlib.Core.Path.{◌≡◌}
use mathlib.Core.Bool.{true}
use lib.ListN.{length}
use Rattle.basics.specs.Tests.{all_below}
use Rattle.overlay_pairs.specs.Pairs.{stayer_passes, beside_there, Recalled}
use Rattle.overlay_pairs.proofs.between.lefts_pass.Given as goal

abbrev pub invariant-loop-left : goal.invariant-loop-left
invariant-loop-left l = (l.left-index ≤ length l.others) × ((all_below l.left-index (stayer_passes l.list_rows l.others (beside_there l.tables.shape l.tables.marks.now l.tables.keys.now l.list_rows l.list_values l.rights true l.value l.sequence)) ≡ true) × (Recalled l.tables.shape l.tables.marks.now l.judged × (length l.judged ≡ length l.initial.judged)))
