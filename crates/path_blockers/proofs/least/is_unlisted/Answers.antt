-- `path_blockers::least::is_unlisted` meets its contract. Assumes nothing.
use mathlib.Core.Path.{ap}
use mathlib.Core.Bool.{not}
use Rattle.path_blockers.proofs.least.is_unlisted.Goals as goal

pub returns : goal.returns
returns c = ap not c.is_listed.ensures
