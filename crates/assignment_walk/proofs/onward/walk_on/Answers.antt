-- `assignment_walk::onward::walk_on` meets its contract: it lends the room for one move. Assumes nothing.
use Rattle.outputs.proofs.CellLaws.{room_in_cells}
use Rattle.assignment_walk.proofs.onward.walk_on.Goals as goal

pub walk_within-requires : goal.walk_within-requires
walk_within-requires c = let pre = c.requires in
    let few = pre.indexed.marked.small.few_rows in record {
      indexed = pre.indexed;
      order_len_bound = pre.order_len_bound;
      roomy = record {
        rows = room_in_cells _ 0 _ few c.scratch-rows.ensures;
        values = room_in_cells _ 0 _ few c.scratch-values.ensures;
      };
    }
