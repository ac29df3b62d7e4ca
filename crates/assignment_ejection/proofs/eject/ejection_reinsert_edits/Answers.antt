-- `assignment_ejection::eject::ejection_reinsert_edits` meets its contract: the refusals come first, and the slices that are left are ready. Assumes nothing.
use mathlib.Core.Path.{ap, refl}
use mathlib.Core.Bool.{not}
use Rattle.refusals.proofs.AnswerLaws.{passed_on}
use Rattle.assignment_ejection.proofs.EjectedLaws.{not_admitted, admitted, short_window, too_short, long_enough, answered}
use Rattle.assignment_ejection.proofs.eject.ejection_reinsert_edits.Goals as goal

pub returns-in_err-admit : goal.returns-in_err-admit
returns-in_err-admit c = rw (passed_on c.from_residual.result c.in_err-admit.field-0.0 c.from_residual.ensures) (not_admitted _ _ _ _ _ _ _ _ _ _ _ _ refl _ c.admit.ensures _ c.in_err-admit.was)

pub returns-then-not-room : goal.returns-then-not-room
returns-then-not-room c = too_short _ _ _ _ _ _ _ _ _ _ _ _ refl _ c.admit.ensures c.in_ok-admit.was (ap not c.if-not-room.true)

pub eject-requires : goal.eject-requires
eject-requires c = let e = c.admit.ensures in
    let z = c.in_ok-admit.was in
    let window = c.args.window.now in
    let long = long_enough _ _ _ _ _ _ window c.args.attempt c.args.limit c.args.out_rows.now c.args.out_values.now _ refl _ e z (ap not c.if-not-room.false) in record { returning = admitted _ _ _ _ _ _ window c.args.attempt c.args.limit c.args.out_rows.now c.args.out_values.now _ refl _ e z; window_len_bound = (short_window _ _ _ _ _ _ window c.args.attempt c.args.limit c.args.out_rows.now c.args.out_values.now _ refl _ e z, long.0, long.1) }

pub returns : goal.returns
returns c = answered _ _ _ _ _ _ _ _ _ _ _ _ refl _ c.admit.ensures c.in_ok-admit.was (ap not c.if-not-room.false) _ _ _ c.eject.ensures
