-- `walk_answers::move_fits` meets its contract. Assumes nothing.
use Rattle.walk_answers.proofs.FitLaws.{all_made, so_many}
use Rattle.walk_answers.proofs.move_fits.Goals as goal

pub returns-then-moves-most : goal.returns-then-moves-most
returns-then-moves-most c = all_made _ _ _ _ _ c.if-moves-most.true

pub returns : goal.returns
returns c = so_many _ _ _ _ _ c.if-moves-most.false
