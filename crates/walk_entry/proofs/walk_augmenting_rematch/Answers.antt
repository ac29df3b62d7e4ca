-- `walk_entry::walk_augmenting_rematch` meets its contract: the refusals in their order, then the walk. Assumes nothing.
use mathlib.Core.Path.{ap}
use mathlib.Core.Bool.{not}
use Rattle.refusals.proofs.AnswerLaws.{is_accepted}
use Rattle.walk_entry.proofs.EntryLaws.{refusal_is, not_admitted, not_fitting, too_short, asked, answered}
use Rattle.walk_entry.proofs.walk_augmenting_rematch.Goals as goal

pub returns-in-Err : goal.returns-in-Err
returns-in-Err c = refusal_is _ _ _ _ _ _ _ c.refuse.ensures (not_admitted _ _ _ _ _ _ c.args.order.now _ _ _ _ _ c.admit.ensures _ c.in-Err.is)

pub returns-then-not-cursor_fits : goal.returns-then-not-cursor_fits
returns-then-not-cursor_fits c = refusal_is _ _ _ _ _ _ _ c.refuse-then-not-cursor_fits.ensures (not_fitting _ _ _ _ _ _ c.args.order.now _ _ _ _ _ c.admit.ensures (is_accepted _ c.in_default.not-Err) _ c.cursor_fits.ensures (ap not c.if-not-cursor_fits.true))

pub returns-then-not-has_room : goal.returns-then-not-has_room
returns-then-not-has_room c = refusal_is _ _ _ _ _ _ _ c.refuse-then-not-has_room.ensures (too_short _ _ _ _ _ _ c.args.order.now _ _ _ _ _ c.admit.ensures (is_accepted _ c.in_default.not-Err) _ c.cursor_fits.ensures (ap not c.if-not-cursor_fits.false) _ c.has_room.ensures (ap not c.if-not-has_room.true))

pub walk_on-requires : goal.walk_on-requires
walk_on-requires c = let a = asked _ _ _ _ _ _ c.args.order.now _ c.args.out_rows.now c.args.out_values.now c.args.out_lengths.now
    _ c.admit.ensures (is_accepted _ c.in_default.not-Err)
    _ c.cursor_fits.ensures (ap not c.if-not-cursor_fits.false) _ c.has_room.ensures in record { indexed = a.0; order_len_bound = a.1 }

pub returns : goal.returns
returns c = answered _ _ _ _ _ _ c.args.order.now _ _ _ _
    _ c.admit.ensures (is_accepted _ c.in_default.not-Err)
    _ c.cursor_fits.ensures (ap not c.if-not-cursor_fits.false)
    _ c.has_room.ensures (ap not c.if-not-has_room.false) _ _ _ _ c.walk_on.ensures
