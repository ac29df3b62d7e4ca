-- `assignment_conflicts::listing::list_conflicts` meets its contract: the first row of each key stands in the front of `out_keys`, the rows are brought together in `out_rows`, and then their keys are written over the first ones. Assumes nothing.
use Rattle.assignment_conflicts.proofs.ListingLaws.{ordering, counting, sorted_within, sorted_long, gather_asks, listed-within, listed_long, write_asks, all_listed}
use Rattle.assignment_conflicts.proofs.listing.list_conflicts.Goals as goal

pub sorted_leaders-keys_shared-requires : goal.sorted_leaders-keys_shared-requires
sorted_leaders-keys_shared-requires c = record { ordering = ordering _ _ _ _ _ _ c.requires.ready; counting = counting _ _ _ _ _ _ c.requires.ready; rows_in_bounds = c.requires.rows_in_bounds.0 }

pub slice_bounds-gather-end : goal.slice_bounds-gather-end
slice_bounds-gather-end c = sorted_within _ _ _ _ _ _ c.requires.ready c.args.out_keys.now c.args.out_rows.now c.requires.rows_in_bounds _ _ c.sorted_leaders-keys_shared.ensures

pub slice_bounds-gather-end-2 : goal.slice_bounds-gather-end-2
slice_bounds-gather-end-2 c = sorted_long _ _ _ _ _ _ c.requires.ready c.args.out_keys.now c.args.out_rows.now c.requires.rows_in_bounds _ _ c.sorted_leaders-keys_shared.ensures

pub gather-n-requires : goal.gather-n-requires
gather-n-requires c = let asks = gather_asks _ _ _ _ _ _ c.requires.ready c.args.out_keys.now c.args.out_rows.now c.requires.rows_in_bounds _ _ c.sorted_leaders-keys_shared.ensures in record { ordering = asks.0; counting = asks.1; reading = asks.2; listed_in_bounds = asks.3 }

pub slice_bounds-write_keys-end : goal.slice_bounds-write_keys-end
slice_bounds-write_keys-end c = listed-within _ _ _ _ _ _ c.requires.ready c.args.out_keys.now c.args.out_rows.now c.requires.rows_in_bounds _ _ c.sorted_leaders-keys_shared.ensures _ _ c.gather-n.ensures

pub slice_bounds-write_keys-end-2 : goal.slice_bounds-write_keys-end-2
slice_bounds-write_keys-end-2 c = listed_long _ _ _ _ _ _ c.requires.ready c.args.out_keys.now c.args.out_rows.now c.requires.rows_in_bounds _ _ c.sorted_leaders-keys_shared.ensures _ _ c.gather-n.ensures

pub write_keys-requires : goal.write_keys-requires
write_keys-requires c = let both = write_asks _ _ _ _ _ _ c.requires.ready c.args.out_keys.now c.args.out_rows.now c.requires.rows_in_bounds _ _ c.sorted_leaders-keys_shared.ensures _ _ c.gather-n.ensures in record { reading = both.0; listed_in_bounds = both.1 }

pub returns : goal.returns
returns c = all_listed _ _ _ _ _ _ c.requires.ready c.args.out_keys.now c.args.out_rows.now c.requires.rows_in_bounds _ _ c.sorted_leaders-keys_shared.ensures _ _ c.gather-n.ensures _ c.write_keys.ensures
