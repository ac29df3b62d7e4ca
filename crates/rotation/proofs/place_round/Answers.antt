-- `rotation::place_round` meets its contract: the sum is below twice the number of places. Assumes nothing.
use native.Mathlib.Nat.{mod-lt}
use native.Mathlib.Omega.{arith}
use mathlib.Core.Path.{refl}
use Rattle.rotation.specs.Rotation.{place_round}
use Rattle.rotation.proofs.place_round.Goals as goal

pub overflow_add-result : goal.overflow_add-result
overflow_add-result c = omega (arith, mod-lt c.args.from {m = c.args.n} (omega arith))

pub returns : goal.returns
unfolding place_round
returns c = (refl, mod-lt _ (omega arith))
