-- `key_places::net_change` meets its contract. Assumes nothing.
use native.Mathlib.Omega.{arith}
use Rattle.key_places.proofs.Signed.{net_fits, net_is}
use Rattle.key_places.proofs.net_change.Goals as goal

pub overflow_sub-result : goal.overflow_sub-result
overflow_sub-result c = net_fits c.args.arrived c.args.left (omega arith) (omega arith)

pub returns : goal.returns
returns c = net_is c.args.arrived c.args.left (omega arith) (omega arith)
