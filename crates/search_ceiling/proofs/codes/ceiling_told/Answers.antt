-- `search_ceiling::codes::ceiling_told` meets its contract. Assumes nothing.
use Rattle.search_ceiling.proofs.CodeLaws.{ceiling_told_lem}
use Rattle.search_ceiling.proofs.codes.ceiling_told.Goals as goal

pub returns : goal.returns
returns c = ceiling_told_lem _ _ _ _ _ c.ask_ceiling-asks.ensures c.code.ensures c.unwrap_or.ensures
