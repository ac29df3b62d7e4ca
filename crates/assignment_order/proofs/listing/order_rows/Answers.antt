-- `assignment_order::listing::order_rows` meets its contract: the rows are put in order in scratch cells and written from there, rotated. Assumes nothing.
use Rattle.assignment_order.proofs.OrderedLaws.{ordered, held_read, room_to_sort, sorted_within, sorted_long, rotation_asks, all_listed}
use Rattle.assignment_order.proofs.listing.order_rows.Goals as goal

pub sorted_rows-n-requires : goal.sorted_rows-n-requires
sorted_rows-n-requires c = record { ordering = ordered _ _ _ _ _ _ c.requires.ready; rows_in_bounds = (held_read _ _ _ _ _ _ c.requires.ready, room_to_sort _ _ _ _ _ _ c.requires.ready _ c.scratch-sorted.ensures) }

pub slice_bounds-sorted-end : goal.slice_bounds-sorted-end
slice_bounds-sorted-end c = sorted_within _ _ _ _ _ _ c.requires.ready c.args.out_rows.now c.requires.rows_in_bounds _ _ _ c.scratch-sorted.ensures c.sorted_rows-n.ensures

pub slice_bounds-copy_rotated-end : goal.slice_bounds-copy_rotated-end
slice_bounds-copy_rotated-end c = sorted_long _ _ _ _ _ _ c.requires.ready c.args.out_rows.now c.requires.rows_in_bounds _ _ _ c.scratch-sorted.ensures c.sorted_rows-n.ensures

pub copy_rotated-requires : goal.copy_rotated-requires
copy_rotated-requires c = rotation_asks _ _ _ _ _ _ c.requires.ready c.args.out_rows.now c.requires.rows_in_bounds _ _ _ c.scratch-sorted.ensures c.sorted_rows-n.ensures

pub returns : goal.returns
returns c = all_listed _ _ _ _ _ _ c.requires.ready c.args.out_rows.now c.requires.rows_in_bounds _ _ _ c.scratch-sorted.ensures c.sorted_rows-n.ensures _ _ c.copy_rotated.ensures
