-- `vector_cells::output` meets its contract. Assumes nothing.
use Rattle.vector_cells.specs.Cells.{output_before}
use Rattle.vector_cells.proofs.output.Goals as goal

pub returns : goal.returns
unfolding output_before
returns c = c.fill_before.ensures
