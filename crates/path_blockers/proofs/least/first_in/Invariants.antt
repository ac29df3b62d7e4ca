-- `path_blockers::least::first_in` meets its contract. The loop's invariant: the best so far is the least of those that were looked at. Assumes nothing.
use Prim.Native.Nat.{ℕ, ◌≤◌}
use mathlib.Core.Bool.{not, ◌&&◌}
use lib.ListN.{length}
use lib.Dec.{eqb}
use Rattle.assignment_tables.specs.Tables.{required_at}
use Rattle.path_blockers.specs.Seeking.{Least, is_sought}
use Rattle.path_blockers.proofs.LeastLaws.{seen}
use Rattle.path_blockers.proofs.least.first_in.Given as goal

abbrev pub invariant-loop-other : goal.invariant-loop-other
invariant-loop-other l = (l.other-index ≤ length l.others) × Least (seen (λ (o : ℕ). is_sought (required_at l.tables.shape l.tables.marks.now) l.list_rows l.optional o && not (eqb o l.row)) l.from l.tables.shape.rows l.others l.other-index) l.from l.tables.shape.rows l.best
