-- Trying a row and walking its blocker's alternatives meet their contracts: the depth falls from a row to its blocker. Assumes nothing.
use Prim.Native.Nat.{◌+◌, ◌-◌, ◌*◌}
use mathlib.Core.Path.{◌≡◌}
use Rattle.std.specs.Prelude.{Some}
use lib.ListN.{length}
use Rattle.assignment_tables.specs.Tables.{the_board}
use Rattle.assignment_index.specs.Index.{the_roster}
use Rattle.path_memory.specs.Memory.{Recalls}
use Rattle.word_bits.specs.Marks.{marked}
use Rattle.path_entry.specs.Trails.{terms}
use Rattle.path_walk.proofs.WalkLaws.{Walking}
use Rattle.path_walk.proofs.walk.+try_row_walk_alternatives.Given as goal

abbrev pub decreases-try_row : goal.decreases-try_row
decreases-try_row l = 2 * l.depth

abbrev pub decreases-walk_alternatives : goal.decreases-walk_alternatives
decreases-walk_alternatives l = 2 * l.depth + 1

abbrev pub invariant-walk_alternatives-loop-i : goal.invariant-walk_alternatives-loop-i
invariant-walk_alternatives-loop-i l =
    Walking (the_board l.tables) (the_roster l.tables l.index) (terms l.displace (Some l.limit) l.budget) l.depth (marked l.visiting) l.row l.value l.blocker l.held l.alternatives l.initial.asked l.listed l.initial.list_rows l.initial.list_values l.list_rows l.list_values l.asked l.i
    × (length l.memo ≡ length l.initial.memo)
    × Recalls l.tables.shape l.tables.marks.now l.tables.keys.now l.index.records.now l.displace l.memo

abbrev pub decreases-walk_alternatives-loop-i : goal.decreases-walk_alternatives-loop-i
decreases-walk_alternatives-loop-i l =
    length l.alternatives - l.i
