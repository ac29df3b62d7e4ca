-- `ejection_turns::candidate_round` meets its contract: the place of the j-th element of the rotated list. Assumes nothing.
use mathlib.Core.Path.{sym}
use native.Mathlib.Omega.{arith}
use Rattle.rotation.proofs.Rotating.{rotated_at}
use Rattle.ejection_turns.proofs.candidate_round.Goals as goal

pub overflow_cast-result : goal.overflow_cast-result
overflow_cast-result c = omega (arith, c.type_inv.offered c.place_round-at.result)

pub returns : goal.returns
returns c = rw c.place_round-at.ensures.0 (sym (rotated_at c.args.attempt c.args.offered.now 0 c.args.j c.requires.0))
