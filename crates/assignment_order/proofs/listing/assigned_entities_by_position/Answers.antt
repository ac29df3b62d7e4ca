-- `assignment_order::listing::assigned_entities_by_position` meets its contract: the refusals come first, and the slices that are left are ready. Assumes nothing.
use Rattle.refusals.proofs.AnswerLaws.{passed_on}
use Rattle.assignment_order.proofs.OrderedLaws.{not_admitted, admitted, too_short, answered}
use Rattle.assignment_order.proofs.listing.assigned_entities_by_position.Goals as goal

pub returns-in_err-admit : goal.returns-in_err-admit
returns-in_err-admit c = rw (passed_on c.from_residual.result c.in_err-admit.field-0.0 c.from_residual.ensures) (not_admitted _ _ _ _ _ _ _ _ _ c.admit.ensures _ c.in_err-admit.was)

pub returns-then-rows_room-tables : goal.returns-then-rows_room-tables
returns-then-rows_room-tables c = too_short _ _ _ _ _ _ _ _ _ c.admit.ensures c.in_ok-admit.was c.if-rows_room-tables.true

pub order_rows-requires : goal.order_rows-requires
order_rows-requires c = record { ready = admitted _ _ _ _ _ _ c.args.offset c.args.out_rows.now _ c.admit.ensures c.in_ok-admit.was; rows_in_bounds = c.if-rows_room-tables.false }

pub returns : goal.returns
returns c = answered _ _ _ _ _ _ _ _ _ c.admit.ensures c.in_ok-admit.was c.if-rows_room-tables.false _ _ c.order_rows.ensures
