-- `listing_text::moves::write_move` meets its contract. The loop's invariant: writing the lines of the edits that are left comes to what is asked. Assumes nothing.
use lib.ListN.{drop}
use Rattle.basics.specs.Edits.{edits}
use Rattle.outputs.proofs.Writing.{Writing}
use Rattle.listing_text.specs.Output.{move_lines}
use Rattle.listing_text.proofs.moves.write_move.Given as goal

abbrev pub invariant-loop-i : goal.invariant-loop-i
invariant-loop-i l = Writing l.out l.next (move_lines l.number (edits (drop l.i l.rows) (drop l.i l.values))) l.initial.out l.at (move_lines l.number (edits l.rows l.values))
