-- `search_ceiling::level_ceiling` calls itself, the depth falling. Assumes nothing.
use Rattle.search_ceiling.proofs.+level_ceiling.Given as goal

abbrev pub decreases-level_ceiling : goal.decreases-level_ceiling
decreases-level_ceiling l = l.depth
