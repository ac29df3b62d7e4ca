-- `path_steps::displace::displace_blockers` meets its contract. The loop's invariant: the optional blockers below `other` are written behind the list. Assumes nothing.
use Prim.Native.Nat.{ℕ, ◌-◌}
use mathlib.Core.Path.{◌≡◌}
use mathlib.Core.Bool.{Bool, true}
use mathlib.Core.List.{List}
use lib.ListN.{take}
use Rattle.assignment_tables.specs.declared.Shape.{Shape}
use Rattle.assignment_tables.specs.Tables.{board, required_at}
use Rattle.assignment_index.specs.Index.{roster_in}
use Rattle.path_blockers.specs.Seeking.{unlisted, is_sought, blocks_seen}
use Rattle.path_steps.proofs.DisplaceLaws.{Emptying}
use Rattle.path_steps.proofs.displace.displace_blockers.Given as goal

-- whom the loop empties
abbrev next : Shape → List ℕ → List ℕ → List ℕ → List ℕ → ℕ → ℕ → ℕ → ℕ → Bool
next S m k R rs listed row value =
    blocks_seen (board S m k) (roster_in S.rows R) (unlisted (take listed rs)) (is_sought (required_at S m) (take listed rs) true) row value

abbrev pub invariant-loop-other : goal.invariant-loop-other
invariant-loop-other l =
    (take l.listed l.list_rows ≡ take l.listed l.initial.list_rows)
    × (Emptying l.tables.shape.rows (next l.tables.shape l.tables.marks.now l.tables.keys.now l.index.records.now l.initial.list_rows l.listed l.row l.value) l.listed l.initial.list_rows l.initial.list_values l.list_rows l.list_values l.end l.other)

abbrev pub decreases-loop-other : goal.decreases-loop-other
decreases-loop-other l = l.tables.shape.rows - l.other
