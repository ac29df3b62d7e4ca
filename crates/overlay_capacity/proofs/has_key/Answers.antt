-- `overlay_capacity::has_key` meets its contract. Assumes nothing.
use Rattle.assignment_tables.proofs.KeyLaws.{key-is}
use Rattle.overlay_capacity.proofs.has_key.Goals as goal

pub returns : goal.returns
returns c = key-is _ _ _ _ c.capacity_key.ensures c.eq.ensures
