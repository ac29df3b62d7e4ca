-- `ejection_cycle::reinsert::next_move` meets its contract. The loop's invariant: the step from the cursor where it stands is the one that is asked for, and nothing is written yet. Assumes nothing.
use mathlib.Core.Path.{◌≡◌}
use lib.ListN.{length}
use Rattle.assignment_tables.specs.Tables.{the_board}
use Rattle.assignment_index.specs.Index.{the_roster}
use Rattle.window_kinds.specs.Kinds.{reinserting, Walking}
use Rattle.window_kinds.proofs.CursorLaws.{left}
use Rattle.ejection_cycle.specs.Reinserting.{reinsert_step}
use Rattle.ejection_cycle.proofs.reinsert.next_move.Given as goal

abbrev pub invariant-loop-at : goal.invariant-loop-at
invariant-loop-at l =
    Walking reinserting (length l.order) l.at × (l.out_rows ≡ l.initial.out_rows) × (l.out_values ≡ l.initial.out_values) × (reinsert_step (the_board l.tables) (the_roster l.tables l.index) l.limit l.order l.initial.at ≡ reinsert_step (the_board l.tables) (the_roster l.tables l.index) l.limit l.order l.at)

abbrev pub decreases-loop-at : goal.decreases-loop-at
decreases-loop-at l = left (length l.order) l.at
