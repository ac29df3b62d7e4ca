-- `assignment_walk::onward::walk_within` meets its contract: what is left of the walk, written behind what is there, is the whole. Assumes nothing.
use Prim.Native.Nat.{◌-◌}
use mathlib.Core.Path.{◌≡◌}
use lib.ListN.{length}
use Rattle.assignment_tables.specs.Tables.{the_board}
use Rattle.assignment_index.specs.Index.{the_roster}
use Rattle.window_kinds.specs.Kinds.{rematching, Fitting}
use Rattle.assignment_walk.proofs.WalkingLaws.{Underway, Rest}
use Rattle.assignment_walk.proofs.onward.walk_within.Given as goal

abbrev pub invariant-loop-found : goal.invariant-loop-found
invariant-loop-found l =
    (length l.rows ≡ length l.initial.rows)
    × (length l.values ≡ length l.initial.values)
    × Fitting rematching (length l.order) l.cursor
    × Underway l.initial.out_rows l.initial.out_values l.initial.out_lengths l.out_rows l.out_values l.out_lengths l.room l.moves l.edits
    × (Rest (the_board l.tables) (the_roster l.tables l.index) l.order l.initial.cursor l.initial.out_rows l.initial.out_values l.initial.out_lengths l.out_rows l.out_values l.out_lengths l.room l.moves l.edits l.cursor)

abbrev pub decreases-loop-found : goal.decreases-loop-found
decreases-loop-found l =
    length l.initial.out_lengths - l.moves
