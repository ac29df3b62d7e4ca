-- `assignment_updates::refresh::list_refusal` meets its contract. The loop's invariant: the refusal of the whole is that of the entries that are left. Assumes nothing.
use Prim.Native.Nat.{◌-◌}
use mathlib.Core.Path.{◌≡◌}
use lib.ListN.{length}
use Rattle.assignment_updates.specs.Refresh.{entry_refusal, first_refusal, list_refusal}
use Rattle.assignment_updates.proofs.refresh.list_refusal.Given as goal

abbrev pub invariant-loop-i : goal.invariant-loop-i
invariant-loop-i l = list_refusal l.shape l.list_rows l.list_values ≡ first_refusal (entry_refusal l.shape l.list_rows l.list_values) l.i (length l.list_rows - l.i)
