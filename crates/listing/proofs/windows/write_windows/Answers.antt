-- `listing::windows::write_windows` meets its contract: no row has a rank, the rows are put in order, and their windows are walked. Assumes nothing.
use Rattle.outputs.proofs.CellLaws.{room_in_cells}
use Rattle.listing.proofs.WindowLaws.{ranks-small, ranks-within, ranks_long, ready_so, order-within, order_long, order_few, windows_listed}
use Rattle.listing.proofs.windows.write_windows.Goals as goal

pub ranks_length-given-requires : goal.ranks_length-given-requires
ranks_length-given-requires c = ranks-small _ _ _ _ _ c.requires.listable

pub slice_bounds-ranks-end : goal.slice_bounds-ranks-end
slice_bounds-ranks-end c = ranks-within _ _ _ _ _ c.requires.listable _ _ c.no_ranks-ranks.ensures c.ranks_length-given.ensures

pub slice_bounds-ranked-end : goal.slice_bounds-ranked-end
slice_bounds-ranked-end c = ranks_long _ _ _ _ _ c.requires.listable _ _ c.no_ranks-ranks.ensures c.ranks_length-given.ensures

pub order_rows-count-requires : goal.order_rows-count-requires
order_rows-count-requires c = record { ready = ready_so _ _ _ _ _ c.requires.listable _ _ c.no_ranks-ranks.ensures c.ranks_length-given.ensures; rows_in_bounds = room_in_cells _ 0 _ c.requires.listable.small c.scratch-order.ensures }

pub slice_bounds-order-end : goal.slice_bounds-order-end
slice_bounds-order-end c = order-within _ _ _ _ _ c.requires.listable _ _ c.no_ranks-ranks.ensures c.ranks_length-given.ensures _ _ _ c.scratch-order.ensures c.order_rows-count.ensures c.order_rows-count.auto.out_rows

pub slice_bounds-write_listing-end : goal.slice_bounds-write_listing-end
slice_bounds-write_listing-end c = order_long _ _ _ _ _ c.requires.listable _ _ c.no_ranks-ranks.ensures c.ranks_length-given.ensures _ _ _ c.scratch-order.ensures c.order_rows-count.ensures c.order_rows-count.auto.out_rows

pub write_listing-requires : goal.write_listing-requires
write_listing-requires c = record { indexed = (ready_so _ _ _ _ _ c.requires.listable _ _ c.no_ranks-ranks.ensures c.ranks_length-given.ensures).index; order_len_bound = order_few _ _ _ _ _ c.requires.listable _ _ c.no_ranks-ranks.ensures c.ranks_length-given.ensures _ _ _ c.scratch-order.ensures c.order_rows-count.ensures c.order_rows-count.auto.out_rows; bounded = c.requires.listable.bounded; in_bounds = c.requires.in_bounds }

pub returns : goal.returns
returns c = windows_listed _ _ _ _ _ c.requires.listable _ _ c.no_ranks-ranks.ensures c.ranks_length-given.ensures _ _ _ c.scratch-order.ensures c.order_rows-count.ensures c.order_rows-count.auto.out_rows _ _ _ c.write_listing.ensures
