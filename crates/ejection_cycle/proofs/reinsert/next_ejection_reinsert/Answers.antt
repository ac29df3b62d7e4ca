-- `ejection_cycle::reinsert::next_ejection_reinsert` meets its contract: the refusals in their order, then the step. Assumes nothing.
use mathlib.Core.Path.{ap}
use mathlib.Core.Bool.{not}
use Rattle.refusals.proofs.AnswerLaws.{is_accepted}
use Rattle.assignment_tables.specs.Tables.{the_board}
use Rattle.assignment_index.specs.Index.{the_roster}
use Rattle.window_kinds.specs.Kinds.{reinserting}
use Rattle.assignment_cycle.proofs.SteppingLaws.{refusal_is, not_admitted, not_fitting, short_rows, short_values, asked, answered}
use Rattle.assignment_ejection.proofs.EjectedLaws.{returning}
use Rattle.ejection_cycle.specs.Reinserting.{reinsert_at}
use Rattle.ejection_cycle.proofs.reinsert.next_ejection_reinsert.Goals as goal

pub returns-in-Err : goal.returns-in-Err
returns-in-Err c = refusal_is _ _ _ _ _ _ c.refuse.ensures
    (not_admitted reinserting _ _ _ _ _ _ _ _ _ _ _ _ c.admit.ensures _ c.in-Err.is)

pub returns-then-not-cursor_fits : goal.returns-then-not-cursor_fits
returns-then-not-cursor_fits c = refusal_is _ _ _ _ _ _ c.refuse-then-not-cursor_fits.ensures
    (not_fitting reinserting _ _ _ _ _ _ _ _ _ _ _ _ c.admit.ensures (is_accepted _ c.in_default.not-Err) _ c.cursor_fits.ensures (ap not c.if-not-cursor_fits.true))

pub returns-then-out_rows-tables : goal.returns-then-out_rows-tables
returns-then-out_rows-tables c = refusal_is _ _ _ _ _ _ c.refuse-then-out_rows-tables.ensures
    (short_rows reinserting _ _ _ _ _ _ _ _ _ _ _ _ c.admit.ensures (is_accepted _ c.in_default.not-Err) _ c.cursor_fits.ensures (ap not c.if-not-cursor_fits.false) c.if-out_rows-tables.true)

pub returns-then-out_values-tables : goal.returns-then-out_values-tables
returns-then-out_values-tables c = refusal_is _ _ _ _ _ _ c.refuse-then-out_values-tables.ensures
    (short_values reinserting _ _ _ _ _ _ _ _ _ _ _ _ c.admit.ensures (is_accepted _ c.in_default.not-Err) _ c.cursor_fits.ensures (ap not c.if-not-cursor_fits.false) c.if-out_values-tables.true)

pub next_move-requires : goal.next_move-requires
next_move-requires c = let a = asked reinserting (reinsert_at (the_board c.args.tables.now) (the_roster c.args.tables.now c.args.index.now) c.args.limit c.args.order.now) _ _ _ _ _ _ c.args.order.now _ _ _ _ c.admit.ensures (is_accepted _ c.in_default.not-Err) _ c.cursor_fits.ensures (ap not c.if-not-cursor_fits.false) c.if-out_rows-tables.false c.if-out_values-tables.false in record { returning = returning _ _ _ _ _ _ a.0; order_len_bound = a.1.0; roomy = a.1.1 }

pub returns : goal.returns
returns c = answered reinserting _ _ _ _ _ _ _ _ _ _ _ _ c.admit.ensures (is_accepted _ c.in_default.not-Err) _ c.cursor_fits.ensures (ap not c.if-not-cursor_fits.false) c.if-out_rows-tables.false c.if-out_values-tables.false _ _ _ c.next_move.ensures
