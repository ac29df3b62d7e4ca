-- `edit_records::gather` meets its contract. The loop's invariant: as many records are gathered as were passed, and the others, gathered behind them, come to what is asked. Assumes nothing.
use Rattle.std.proofs.Common.{◌≡◌, ◌-◌, length, drop}
use Rattle.edit_records.specs.Records.{all_more, gathered}
use Rattle.edit_records.proofs.gather.Given as goal

abbrev pub invariant-loop-i : goal.invariant-loop-i
invariant-loop-i l = (l.lists.count ≡ l.i) × (all_more l.lists (drop l.i l.edits) ≡ gathered l.edits)

abbrev pub decreases-loop-i : goal.decreases-loop-i
decreases-loop-i l = length l.edits - l.i
