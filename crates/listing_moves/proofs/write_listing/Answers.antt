-- `listing_moves::write_listing` meets its contract: the header, and then the walk from a new cursor, for which there is room. Assumes nothing.
use Rattle.assignment_tables.specs.Tables.{the_board}
use Rattle.assignment_index.specs.Index.{the_roster}
use Rattle.listing_moves.proofs.RoomLaws.{new_is, new_refused, begins_so, roomy_so, listed}
use Rattle.listing_moves.proofs.write_listing.Goals as goal

pub returns-in_default : goal.returns-in_default
returns-in_default c = absurd (new_refused _ _ _ c.requires.order_len_bound c.new_cursor.ensures c.in_default.is)

pub write_walk-requires : goal.write_walk-requires
write_walk-requires c = let f = new_is _ _ c.in-Ok.first c.requires.order_len_bound c.new_cursor.ensures c.in-Ok.is in record { indexed = c.requires.indexed; order_len_bound = (c.requires.order_len_bound, begins_so (the_board c.args.tables.now) (the_roster c.args.tables.now c.args.index.now) c.args.order.now _ f); room = roomy_so (the_board c.args.tables.now) (the_roster c.args.tables.now c.args.index.now) c.args.order.now _ f c.requires.order_len_bound c.requires.bounded _ _ _ c.write_header-from.ensures c.requires.in_bounds }

pub returns : goal.returns
returns c = let f = new_is _ _ c.in-Ok.first c.requires.order_len_bound c.new_cursor.ensures c.in-Ok.is in
    listed (the_board c.args.tables.now) (the_roster c.args.tables.now c.args.index.now) c.args.order.now _ f _ _ _ _ _ c.write_header-from.ensures c.write_walk.ensures
