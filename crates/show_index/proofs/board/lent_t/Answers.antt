-- `show_index::board::lent_t` meets its contract. Assumes nothing.
use mathlib.Core.Path.{refl}
use Rattle.blackboard.specs.BoardT.{tables_t}
use Rattle.show_index.proofs.board.lent_t.Goals as goal

pub returns : goal.returns
unfolding tables_t
returns c = (refl, refl, refl, refl)
