-- `engine::search::turepawon_ask_ceiling` meets its contract. Assumes nothing.
use Rattle.engine.proofs.search.turepawon_ask_ceiling.Goals as goal

pub returns : goal.returns
returns c = c.ceiling_told.ensures
