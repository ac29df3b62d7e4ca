-- `overlay_pairs::pairs::has_sequence` meets its contract. Assumes nothing.
use Rattle.assignment_tables.proofs.KeyLaws.{key-is}
use Rattle.overlay_pairs.proofs.pairs.has_sequence.Goals as goal

pub returns : goal.returns
returns c = key-is _ _ _ _ c.sequence_key.ensures c.eq.ensures
