-- `engine::conflicts::turepawon_capacity_conflicts` meets its contract. Assumes nothing.
use Rattle.engine.proofs.CodeLaws.{conflicts_told}
use Rattle.engine.proofs.conflicts.turepawon_capacity_conflicts.Goals as goal

pub returns : goal.returns
returns c = let both = conflicts_told _ _ _ _ _ _ _ c.capacity_conflicts-conflicts.ensures c.code.ensures c.unwrap_or.ensures in record { value = both.0; count_value = both.1.0; out_keys_value = both.1.1.0; out_rows_value = both.1.1.1 }
