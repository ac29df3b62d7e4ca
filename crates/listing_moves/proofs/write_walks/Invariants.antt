-- `listing_moves::write_walks` meets its contract. The loop's invariant: the lines of the moves left, under the next number, come to what is asked. Assumes nothing.
use lib.ListN.{length}
use Rattle.assignment_tables.specs.Tables.{the_board}
use Rattle.assignment_index.specs.Index.{the_roster}
use Rattle.listing_moves.specs.WalkText.{moves_ahead, Wide}
use Rattle.listing_moves.proofs.WalkTextLaws.{Going}
use Rattle.listing_moves.proofs.write_walks.Given as goal

abbrev pub invariant-loop-progress : goal.invariant-loop-progress
invariant-loop-progress l = Wide l.all_rows l.all_values l.lengths × Going (the_board l.tables) (the_roster l.tables l.index) l.order l.initial.cursor l.initial.out l.from l.out l.at l.number l.cursor

abbrev pub decreases-loop-progress : goal.decreases-loop-progress
decreases-loop-progress l = length (moves_ahead (the_board l.tables) (the_roster l.tables l.index) l.order l.cursor)
