-- `path_blockers::least::all_allow` meets its contract. The loop's invariant: all before have passed. Assumes nothing.
use Prim.Native.Nat.{ℕ, ◌≤◌}
use mathlib.Core.Path.{◌≡◌}
use mathlib.Core.List.{List}
use mathlib.Core.Bool.{Bool, true, not, cond, ◌||◌}
use lib.ListN.{length, get_or}
use Rattle.basics.specs.Tests.{all_below}
use Rattle.assignment_tables.specs.declared.Shape.{Shape}
use Rattle.assignment_tables.specs.Tables.{edge_at}
use Rattle.path_blockers.specs.Seeking.{unlisted}
use Rattle.path_blockers.proofs.least.all_allow.Given as goal

-- the pair with the row is allowed, or the list names the row
abbrev allowing : Shape → List ℕ → List ℕ → Bool → ℕ → ℕ → Bool
allowing S m rs right row o = not (unlisted rs o) || cond right (edge_at S m row o) (edge_at S m o row)

abbrev pub invariant-loop-other : goal.invariant-loop-other
invariant-loop-other l = (l.other-index ≤ length l.others) × (all_below l.other-index (λ (j : ℕ). allowing l.tables.shape l.tables.marks.now l.list_rows l.right l.row (get_or l.others j 0)) ≡ true)
