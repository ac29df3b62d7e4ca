-- `listing_moves::write_walk` meets its contract: it has room for the moves of a walk. Assumes nothing.
use mathlib.Core.Path.{ap, ◌∙◌}
use lib.ListN.{length}
use Rattle.outputs.proofs.CellLaws.{length-cells}
use Rattle.listing_moves.proofs.write_walk.Goals as goal

pub write_walks-requires : goal.write_walks-requires
write_walks-requires c = record { indexed = c.requires.indexed; order_len_bound = c.requires.order_len_bound; wide = record { rows = ap length c.scratch-all_rows.ensures ∙ length-cells 0; values = ap length c.scratch-all_values.ensures ∙ length-cells 0; lengths = ap length c.scratch-lengths.ensures ∙ length-cells 0 }; room = c.requires.room }
