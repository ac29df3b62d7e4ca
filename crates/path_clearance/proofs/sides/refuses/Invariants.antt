-- `path_clearance::sides::refuses` meets its contract: the first row that refuses ends the loop. Assumes nothing.
use Prim.Native.Nat.{ℕ, ◌≤◌}
use mathlib.Core.Path.{◌≡◌}
use mathlib.Core.List.{List}
use mathlib.Core.Bool.{Bool, true, not, cond, ◌||◌}
use lib.ListN.{length, get_or}
use Rattle.basics.specs.Tests.{all_below}
use Rattle.assignment_tables.specs.declared.Shape.{Shape}
use Rattle.assignment_tables.specs.Tables.{edge_at, required_at}
use Rattle.path_clearance.specs.Clearance.{stays}
use Rattle.path_clearance.proofs.sides.refuses.Given as goal

-- the row is not there, or the pair with it is allowed
abbrev allowing : Shape → List ℕ → Bool → Bool → ℕ → ℕ → Bool
allowing S m on right row o = not (stays (required_at S m) on o) || cond right (edge_at S m row o) (edge_at S m o row)

abbrev pub invariant-loop-other : goal.invariant-loop-other
invariant-loop-other l = (l.other-index ≤ length l.others) × (all_below l.other-index (λ (j : ℕ). allowing l.tables.shape l.tables.marks.now l.displace l.right l.row (get_or l.others j 0)) ≡ true)
