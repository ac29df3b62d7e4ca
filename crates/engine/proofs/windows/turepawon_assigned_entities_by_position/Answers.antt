-- `engine::windows::turepawon_assigned_entities_by_position` meets its contract. Assumes nothing.
use Rattle.engine.proofs.CodeLaws.{order-told}
use Rattle.engine.proofs.windows.turepawon_assigned_entities_by_position.Goals as goal

pub returns : goal.returns
returns c = order-told _ _ _ _ _ _ c.assigned_entities_by_position-order.ensures c.code.ensures c.unwrap_or.ensures
