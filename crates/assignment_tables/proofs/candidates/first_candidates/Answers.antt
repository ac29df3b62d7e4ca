-- `assignment_tables::candidates::first_candidates` meets its contract. Assumes nothing.
use Prim.Native.Nat.{◌*◌}
use Rattle.assignment_tables.specs.Layout.{candidates_start}
use Rattle.assignment_tables.proofs.LookupLaws.{part-from}
use Rattle.assignment_tables.proofs.candidates.first_candidates.Goals as goal

pub returns : goal.returns
returns c = let a = c.args in part-from a.tables.now.marks.now c.candidates_start.result (candidates_start a.tables.now.shape) (a.row * 64) a.count c.candidates_start.ensures
