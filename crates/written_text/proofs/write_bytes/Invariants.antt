-- `written_text::write_bytes` meets its contract. The loop's invariant: writing what is left of the text comes to what is asked. Assumes nothing.
use Prim.Native.Nat.{◌≤◌, ◌+◌}
use lib.ListN.{length, drop}
use Rattle.outputs.proofs.Writing.{Writing}
use Rattle.written_text.proofs.write_bytes.Given as goal

abbrev pub invariant-loop-i : goal.invariant-loop-i
invariant-loop-i l = (l.i ≤ length l.text) × Writing l.out (l.at + l.i) (drop l.i l.text) l.initial.out l.at l.text
