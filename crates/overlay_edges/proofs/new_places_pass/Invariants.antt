-- `overlay_edges::new_places_pass` meets its contract. The loop's invariant: all before have passed. Assumes nothing.
use mathlib.Core.Path.{◌≡◌}
use mathlib.Core.Bool.{true}
use lib.ListN.{length}
use Rattle.basics.specs.Tests.{all_below}
use Rattle.assignment_tables.specs.Tables.{the_board}
use Rattle.overlay_pairs.specs.Pairs.{after_list, Recalled}
use Rattle.overlay_edges.specs.Edges.{new_place}
use Rattle.overlay_edges.proofs.new_places_pass.Given as goal

abbrev pub invariant-loop-i : goal.invariant-loop-i
invariant-loop-i l = (all_below l.i (new_place (the_board l.tables) (after_list l.tables.shape l.index.records.now l.list_rows l.list_values) l.list_rows l.list_values) ≡ true) × (Recalled l.tables.shape l.tables.marks.now l.judged × (length l.judged ≡ length l.initial.judged))
