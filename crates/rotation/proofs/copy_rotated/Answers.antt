-- `rotation::copy_rotated` meets its contract. Assumes nothing.
use native.Mathlib.Omega.{arith}
use Rattle.rotation.proofs.Rotating.{none_written, halves_written}
use Rattle.rotation.proofs.copy_rotated.Goals as goal

pub returns-then-n-eq0 : goal.returns-then-n-eq0
returns-then-n-eq0 c = none_written _ _ _ c.if-n-eq0.true

pub returns : goal.returns
returns c = halves_written c.args.offset c.args.list.now c.args.out.now _ _ c.requires.1 (omega arith) c.copy_from_slice.ensures.after c.copy_from_slice-2.ensures.after
