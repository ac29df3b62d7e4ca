-- `assignment_conflicts::listing::capacity_conflicts` meets its contract: the refusals come first, and the slices that are left are ready. Assumes nothing.
use Rattle.refusals.proofs.AnswerLaws.{passed_on}
use Rattle.assignment_conflicts.proofs.ListingLaws.{admitted, not_admitted, short_keys, short_rows, answered}
use Rattle.assignment_conflicts.proofs.listing.capacity_conflicts.Goals as goal

pub returns-in_err-admit : goal.returns-in_err-admit
returns-in_err-admit c = rw (passed_on c.from_residual.result c.in_err-admit.field-0.0 c.from_residual.ensures) (not_admitted _ _ _ _ _ _ _ _ _ c.admit.ensures _ c.in_err-admit.was)

pub returns-then-out_keys-tables : goal.returns-then-out_keys-tables
returns-then-out_keys-tables c = short_keys _ _ _ _ _ _ _ _ _ c.admit.ensures c.in_ok-admit.was c.if-out_keys-tables.true

pub returns-then-rows_room-tables : goal.returns-then-rows_room-tables
returns-then-rows_room-tables c = short_rows _ _ _ _ _ _ _ _ _ c.admit.ensures c.in_ok-admit.was c.if-rows_room-tables.true

pub list_conflicts-requires : goal.list_conflicts-requires
list_conflicts-requires c = record { ready = admitted _ _ _ _ _ _ c.args.out_keys.now c.args.out_rows.now _ c.admit.ensures c.in_ok-admit.was; rows_in_bounds = (c.if-out_keys-tables.false, c.if-rows_room-tables.false) }

pub returns : goal.returns
returns c = answered _ _ _ _ _ _ _ _ _ c.admit.ensures c.in_ok-admit.was c.if-out_keys-tables.false c.if-rows_room-tables.false _ _ _ c.list_conflicts.ensures
