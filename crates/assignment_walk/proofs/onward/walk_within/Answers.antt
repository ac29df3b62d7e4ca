use mathlib.Core.Path.{ap, refl, sym, ◌∙◌}
use mathlib.Core.Bool.{not}
use native.Mathlib.Omega.{arith}
use borrow.Author.Rules.{rules}
use lib.ListN.{length, take}
use lib.Seq.{length-take-le}
use Rattle.std.specs.Prelude.{Some, None}
use Rattle.refusals.proofs.AnswerLaws.{ok_as}
use Rattle.assignment_tables.specs.Tables.{the_board}
use Rattle.assignment_index.specs.Index.{the_roster}
use Rattle.window_kinds.specs.Kinds.{rematching}
use Rattle.assignment_cycle.specs.Windows.{move_at, rematch_step}
use Rattle.window_kinds.proofs.WalkLaws.{next_fits}
use Rattle.window_kinds.proofs.Walked.{rematching_walks}
use Rattle.walk_answers.proofs.FitLaws.{fits_moves, fits-room}
use Rattle.assignment_walk.proofs.StepReading.{next_is, moved, finished, unrefused}
use Rattle.assignment_walk.proofs.WalkingLaws.{begins, rest-begins, rows_room, values-room, goes_on, lengths_room, all_done, no_more, step_on, count-is}
use Rattle.assignment_walk.proofs.onward.walk_within.Goals as goal

pub loop-found-init : goal.loop-found-init
loop-found-init c = (refl, refl, c.requires.order_len_bound.1, begins _ _ _ _ c.lesser-room.ensures, rest-begins (the_board c.args.tables.now) (the_roster c.args.tables.now c.args.index.now) c.args.order.now c.args.first c.args.out_rows.now c.args.out_values.now c.args.out_lengths.now _ c.lesser-room.ensures)

pub next_move-step-requires : goal.next_move-step-requires
next_move-step-requires c = let l = c.loop-found in record { indexed = c.requires.indexed; order_len_bound = (c.requires.order_len_bound.0, l.invariant.2); roomy = record { rows = omega (arith, l.invariant.0, c.requires.roomy.rows); values = omega (arith, l.invariant.1, c.requires.roomy.values) } }

pub returns-in-Err : goal.returns-in-Err
returns-in-Err c = let l = c.loop-found in absurd (unrefused (rematch_step (the_board c.args.tables.now) (the_roster c.args.tables.now c.args.index.now) c.args.order.now l.cursor) c.next_move-step.result _ _ _ _ c.next_move-step.ensures _ c.in-Err.is)

pub returns-in-None : goal.returns-in-None
returns-in-None c = let l = c.loop-found in all_done (the_board c.args.tables.now) (the_roster c.args.tables.now c.args.index.now) c.args.order.now c.args.first c.args.out_rows.now c.args.out_values.now c.args.out_lengths.now l.out_rows l.out_values l.out_lengths _ l.moves l.edits l.cursor l.invariant.4 (finished (rematch_step (the_board c.args.tables.now) (the_roster c.args.tables.now c.args.index.now) c.args.order.now l.cursor) c.next_move-step.result _ _ _ _ c.next_move-step.ensures (ok_as c.next_move-step.result.answer c.in-Ok.found None c.in-Ok.is c.in-None.is)) _ (next_is (rematch_step (the_board c.args.tables.now) (the_roster c.args.tables.now c.args.index.now) c.args.order.now l.cursor) c.next_move-step.result _ _ _ _ c.next_move-step.ensures) _ c.finish.ensures

pub move_fits-requires : goal.move_fits-requires
move_fits-requires c = let l = c.loop-found in l.invariant.3.within

pub returns-then-not-move_fits : goal.returns-then-not-move_fits
returns-then-not-move_fits c = let l = c.loop-found in no_more (the_board c.args.tables.now) (the_roster c.args.tables.now c.args.index.now) c.args.order.now c.args.first c.args.out_rows.now c.args.out_values.now c.args.out_lengths.now l.out_rows l.out_values l.out_lengths _ l.moves l.edits l.cursor l.invariant.4 _ (moved (rematch_step (the_board c.args.tables.now) (the_roster c.args.tables.now c.args.index.now) c.args.order.now l.cursor) c.next_move-step.result _ _ _ _ c.next_move-step.ensures _ (ok_as c.next_move-step.result.answer c.in-Ok.found (Some c.in-Some.count) c.in-Ok.is c.in-Some.is)).move _ (count-is _ _ _ (length-take-le _ _ (moved (rematch_step (the_board c.args.tables.now) (the_roster c.args.tables.now c.args.index.now) c.args.order.now l.cursor) c.next_move-step.result _ _ _ _ c.next_move-step.ensures _ (ok_as c.next_move-step.result.answer c.in-Ok.found (Some c.in-Some.count) c.in-Ok.is c.in-Some.is)).rows) (length-take-le _ _ (moved (rematch_step (the_board c.args.tables.now) (the_roster c.args.tables.now c.args.index.now) c.args.order.now l.cursor) c.next_move-step.result _ _ _ _ c.next_move-step.ensures _ (ok_as c.next_move-step.result.answer c.in-Ok.found (Some c.in-Some.count) c.in-Ok.is c.in-Some.is)).values)) _ c.move_fits.ensures (ap not c.if-not-move_fits.true) l.invariant.3.lengths_long _ c.stop-then-not-move_fits.ensures

pub slice_bounds-copy_at-end : goal.slice_bounds-copy_at-end
slice_bounds-copy_at-end c = let l = c.loop-found in (moved (rematch_step (the_board c.args.tables.now) (the_roster c.args.tables.now c.args.index.now) c.args.order.now l.cursor) c.next_move-step.result _ _ _ _ c.next_move-step.ensures _ (ok_as c.next_move-step.result.answer c.in-Ok.found (Some c.in-Some.count) c.in-Ok.is c.in-Some.is)).rows

pub slice_bounds-copy_at-end-in-Some : goal.slice_bounds-copy_at-end-in-Some
slice_bounds-copy_at-end-in-Some c = let l = c.loop-found in sym (length-take-le _ _ (moved (rematch_step (the_board c.args.tables.now) (the_roster c.args.tables.now c.args.index.now) c.args.order.now l.cursor) c.next_move-step.result _ _ _ _ c.next_move-step.ensures _ (ok_as c.next_move-step.result.answer c.in-Ok.found (Some c.in-Some.count) c.in-Ok.is c.in-Some.is)).rows)

pub copy_at-requires : goal.copy_at-requires
copy_at-requires c = let l = c.loop-found in rw (length-take-le _ _ (moved (rematch_step (the_board c.args.tables.now) (the_roster c.args.tables.now c.args.index.now) c.args.order.now l.cursor) c.next_move-step.result _ _ _ _ c.next_move-step.ensures _ (ok_as c.next_move-step.result.answer c.in-Ok.found (Some c.in-Some.count) c.in-Ok.is c.in-Some.is)).rows) (rows_room _ _ _ _ _ _ _ _ _ l.invariant.3 _ (fits-room _ _ _ _ _ _ c.move_fits.ensures (ap not c.if-not-move_fits.false)))

pub slice_bounds-copy_at-end-in-Some-2 : goal.slice_bounds-copy_at-end-in-Some-2
slice_bounds-copy_at-end-in-Some-2 c = let l = c.loop-found in (moved (rematch_step (the_board c.args.tables.now) (the_roster c.args.tables.now c.args.index.now) c.args.order.now l.cursor) c.next_move-step.result _ _ _ _ c.next_move-step.ensures _ (ok_as c.next_move-step.result.answer c.in-Ok.found (Some c.in-Some.count) c.in-Ok.is c.in-Some.is)).values

pub slice_bounds-copy_at-end-in-Some-3 : goal.slice_bounds-copy_at-end-in-Some-3
slice_bounds-copy_at-end-in-Some-3 c = let l = c.loop-found in sym (length-take-le _ _ (moved (rematch_step (the_board c.args.tables.now) (the_roster c.args.tables.now c.args.index.now) c.args.order.now l.cursor) c.next_move-step.result _ _ _ _ c.next_move-step.ensures _ (ok_as c.next_move-step.result.answer c.in-Ok.found (Some c.in-Some.count) c.in-Ok.is c.in-Some.is)).values)

pub copy_at-requires-in-Some : goal.copy_at-requires-in-Some
copy_at-requires-in-Some c = let l = c.loop-found in rw (length-take-le _ _ (moved (rematch_step (the_board c.args.tables.now) (the_roster c.args.tables.now c.args.index.now) c.args.order.now l.cursor) c.next_move-step.result _ _ _ _ c.next_move-step.ensures _ (ok_as c.next_move-step.result.answer c.in-Ok.found (Some c.in-Some.count) c.in-Ok.is c.in-Some.is)).values) (values-room _ _ _ _ _ _ _ _ _ l.invariant.3 _ (fits-room _ _ _ _ _ _ c.move_fits.ensures (ap not c.if-not-move_fits.false)))

pub offset_bounds-out_lengths-moves : goal.offset_bounds-out_lengths-moves
offset_bounds-out_lengths-moves c = let g = c.well_formed.1.1.1.1.1.1.1.1 in let l = c.loop-found in let n = l.invariant.3.lengths_long in let m = lengths_room _ _ _ _ _ _ _ _ _ l.invariant.3 _ (fits-room _ _ _ _ _ _ c.move_fits.ensures (ap not c.if-not-move_fits.false)) (fits_moves _ _ _ _ _ _ c.move_fits.ensures (ap not c.if-not-move_fits.false)) in search rules

pub bounds-out_lengths-moves : goal.bounds-out_lengths-moves
bounds-out_lengths-moves c = let l = c.loop-found in lengths_room _ _ _ _ _ _ _ _ _ l.invariant.3 _ (fits-room _ _ _ _ _ _ c.move_fits.ensures (ap not c.if-not-move_fits.false)) (fits_moves _ _ _ _ _ _ c.move_fits.ensures (ap not c.if-not-move_fits.false))

pub overflow_add-edits : goal.overflow_add-edits
overflow_add-edits c = let l = c.loop-found in let k = fits-room _ _ _ _ _ _ c.move_fits.ensures (ap not c.if-not-move_fits.false) in let w = l.invariant.3.within in search rules

pub overflow_add-moves : goal.overflow_add-moves
overflow_add-moves c = let g = c.well_formed.1.1.1.1.1.1.1.1 in let l = c.loop-found in let n = l.invariant.3.lengths_long in let m = lengths_room _ _ _ _ _ _ _ _ _ l.invariant.3 _ (fits-room _ _ _ _ _ _ c.move_fits.ensures (ap not c.if-not-move_fits.false)) (fits_moves _ _ _ _ _ _ c.move_fits.ensures (ap not c.if-not-move_fits.false)) in search rules

pub loop-found-smaller : goal.loop-found-smaller
loop-found-smaller c = let l = c.loop-found in omega (arith, lengths_room _ _ _ _ _ _ _ _ _ l.invariant.3 _ (fits-room _ _ _ _ _ _ c.move_fits.ensures (ap not c.if-not-move_fits.false)) (fits_moves _ _ _ _ _ _ c.move_fits.ensures (ap not c.if-not-move_fits.false)), l.invariant.3.lengths_long)

pub loop-found-preserved : goal.loop-found-preserved
loop-found-preserved c = let l = c.loop-found in (c.next_move-step.auto.out_rows ∙ l.invariant.0, c.next_move-step.auto.out_values ∙ l.invariant.1, rw (next_is (rematch_step (the_board c.args.tables.now) (the_roster c.args.tables.now c.args.index.now) c.args.order.now l.cursor) c.next_move-step.result _ _ _ _ c.next_move-step.ensures) (next_fits rematching rematching_walks (move_at (the_board c.args.tables.now) (the_roster c.args.tables.now c.args.index.now) c.args.order.now) (length c.args.order.now) c.requires.order_len_bound.0 l.cursor l.invariant.2), goes_on c.args.out_rows.now c.args.out_values.now c.args.out_lengths.now l.out_rows l.out_values l.out_lengths _ l.moves l.edits l.invariant.3 _ (fits-room _ _ _ _ _ _ c.move_fits.ensures (ap not c.if-not-move_fits.false)) (fits_moves _ _ _ _ _ _ c.move_fits.ensures (ap not c.if-not-move_fits.false)) _ _ (take c.in-Some.count c.next_move-step.new.out_rows) (take c.in-Some.count c.next_move-step.new.out_values) c.copy_at.ensures c.copy_at-in-Some.ensures, step_on (the_board c.args.tables.now) (the_roster c.args.tables.now c.args.index.now) c.args.order.now c.args.first c.args.out_rows.now c.args.out_values.now c.args.out_lengths.now l.out_rows l.out_values l.out_lengths _ l.moves l.edits l.cursor l.invariant.4 _ _ _ (length-take-le _ _ (moved (rematch_step (the_board c.args.tables.now) (the_roster c.args.tables.now c.args.index.now) c.args.order.now l.cursor) c.next_move-step.result _ _ _ _ c.next_move-step.ensures _ (ok_as c.next_move-step.result.answer c.in-Ok.found (Some c.in-Some.count) c.in-Ok.is c.in-Some.is)).rows) (length-take-le _ _ (moved (rematch_step (the_board c.args.tables.now) (the_roster c.args.tables.now c.args.index.now) c.args.order.now l.cursor) c.next_move-step.result _ _ _ _ c.next_move-step.ensures _ (ok_as c.next_move-step.result.answer c.in-Ok.found (Some c.in-Some.count) c.in-Ok.is c.in-Some.is)).values) (moved (rematch_step (the_board c.args.tables.now) (the_roster c.args.tables.now c.args.index.now) c.args.order.now l.cursor) c.next_move-step.result _ _ _ _ c.next_move-step.ensures _ (ok_as c.next_move-step.result.answer c.in-Ok.found (Some c.in-Some.count) c.in-Ok.is c.in-Some.is)).move (omega (arith, lengths_room _ _ _ _ _ _ _ _ _ l.invariant.3 _ (fits-room _ _ _ _ _ _ c.move_fits.ensures (ap not c.if-not-move_fits.false)) (fits_moves _ _ _ _ _ _ c.move_fits.ensures (ap not c.if-not-move_fits.false)), l.invariant.3.lengths_long)) (fits-room _ _ _ _ _ _ c.move_fits.ensures (ap not c.if-not-move_fits.false)) _ _ c.copy_at.ensures c.copy_at-in-Some.ensures _ (next_is (rematch_step (the_board c.args.tables.now) (the_roster c.args.tables.now c.args.index.now) c.args.order.now l.cursor) c.next_move-step.result _ _ _ _ c.next_move-step.ensures))
