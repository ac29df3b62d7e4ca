-- `decimals::writing::write_before` meets its contract. The loop's invariant: the digits of the rest are still to be written, the last at this place. Assumes nothing.
use Prim.Native.Nat.{◌-◌}
use lib.ListN.{length}
use Rattle.decimals.specs.Decimals.{digits}
use Rattle.decimals.proofs.WritingLaws.{Filling}
use Rattle.decimals.proofs.writing.write_before.Given as goal

abbrev pub invariant-loop-rest : goal.invariant-loop-rest
invariant-loop-rest l = Filling l.out l.rest l.place l.initial.out (l.end - length (digits l.number)) l.number

abbrev pub decreases-loop-rest : goal.decreases-loop-rest
decreases-loop-rest l = l.rest
