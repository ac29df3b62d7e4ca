-- `key_places::fits_places` meets its contract. Assumes nothing.
use native.Mathlib.Omega.{arith}
use Rattle.key_places.proofs.Signed.{after-fits, after_is}
use Rattle.key_places.proofs.fits_places.Goals as goal

pub overflow_add-total : goal.overflow_add-total
overflow_add-total c = let a = c.args in after-fits a.arrived a.left (omega arith) (omega arith) a.held (omega arith) c.net_change.result c.net_change.ensures

pub returns : goal.returns
returns c = let a = c.args in after_is a.arrived a.left (omega arith) (omega arith) a.held (omega arith) c.net_change.result c.net_change.ensures
