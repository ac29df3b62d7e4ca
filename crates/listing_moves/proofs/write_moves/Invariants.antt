-- `listing_moves::write_moves` meets its contract. The loop's invariant: the lines of the moves that are left come to what is asked. Assumes nothing.
use Prim.Native.Nat.{◌-◌}
use lib.ListN.{length}
use Rattle.listing_moves.proofs.CutLaws.{Cutting}
use Rattle.listing_moves.proofs.write_moves.Given as goal

abbrev pub invariant-loop-i : goal.invariant-loop-i
invariant-loop-i l = Cutting l.initial.out l.from l.first l.lengths l.rows l.values l.out l.at l.place l.i
