use mathlib.Core.Path.{sym, ◌∙◌}
use lib.Seq.{length-take-le}
use Rattle.assignment_tables.specs.Tables.{the_board}
use Rattle.assignment_index.specs.Index.{the_roster}
use Rattle.listing_moves.proofs.WalkTextLaws.{going}
use Rattle.listing_moves.proofs.WalkReading.{unrefused}
use Rattle.listing_moves.proofs.WalksLaws.{stop_front, stop_asked, stop_number, stop_goes, stop_nearer, end_front, end_asked, end_written}
use borrow.Author.Rules.{Fits-under}
use native.Mathlib.Omega.{arith}
use Rattle.refusals.proofs.AnswerLaws.{ok_as}
use Rattle.listing_moves.proofs.write_walks.Goals as goal

pub loop-progress-init : goal.loop-progress-init
loop-progress-init c = (c.requires.wide, going (the_board c.args.tables.now) (the_roster c.args.tables.now c.args.index.now) c.args.order.now _ _ _ c.requires.order_len_bound.1)

pub walk_on-walk-requires : goal.walk_on-walk-requires
walk_on-walk-requires c = let l = c.loop-progress in record { indexed = c.requires.indexed; order_len_bound = (c.requires.order_len_bound.0, l.invariant.1.fits) }

pub returns-in-Err : goal.returns-in-Err
returns-in-Err c = absurd (unrefused _ _ _ _ _ _ _ _ c.walk_on-walk.ensures _ c.in-Err.is)

pub slice_bounds-write_moves-end : goal.slice_bounds-write_moves-end
slice_bounds-write_moves-end c = let l = c.loop-progress in end_front (the_board c.args.tables.now) (the_roster c.args.tables.now c.args.index.now) c.args.order.now c.requires.order_len_bound.0 _ _ _ c.requires.room _ _ _ _ l.invariant.1 _ _ _ _ _ _ l.invariant.0 _ c.walk_on-walk.ensures _ _ (ok_as c.walk_on-walk.result.answer c.in-Ok.progress _ c.in-Ok.is c.in-Done.is)

pub slice_bounds-write_moves-end-in-Done : goal.slice_bounds-write_moves-end-in-Done
slice_bounds-write_moves-end-in-Done c = sym (length-take-le _ _ (let l = c.loop-progress in end_front (the_board c.args.tables.now) (the_roster c.args.tables.now c.args.index.now) c.args.order.now c.requires.order_len_bound.0 _ _ _ c.requires.room _ _ _ _ l.invariant.1 _ _ _ _ _ _ l.invariant.0 _ c.walk_on-walk.ensures _ _ (ok_as c.walk_on-walk.result.answer c.in-Ok.progress _ c.in-Ok.is c.in-Done.is)))

pub write_moves-requires : goal.write_moves-requires
write_moves-requires c = let l = c.loop-progress in let both = end_asked (the_board c.args.tables.now) (the_roster c.args.tables.now c.args.index.now) c.args.order.now c.requires.order_len_bound.0 _ _ _ c.requires.room _ _ _ _ l.invariant.1 _ _ _ _ _ _ l.invariant.0 _ c.walk_on-walk.ensures _ _ (ok_as c.walk_on-walk.result.answer c.in-Ok.progress _ c.in-Ok.is c.in-Done.is) in record { laid = both.0; values_in_bounds = both.1.0; lengths_bound = both.1.1 }

pub returns-in-Done : goal.returns-in-Done
returns-in-Done c = let l = c.loop-progress in end_written (the_board c.args.tables.now) (the_roster c.args.tables.now c.args.index.now) c.args.order.now c.requires.order_len_bound.0 _ _ _ c.requires.room _ _ _ _ l.invariant.1 _ _ _ _ _ _ l.invariant.0 _ c.walk_on-walk.ensures _ _ (ok_as c.walk_on-walk.result.answer c.in-Ok.progress _ c.in-Ok.is c.in-Done.is) _ _ c.write_moves.ensures

pub slice_bounds-write_moves-end-in-Moves : goal.slice_bounds-write_moves-end-in-Moves
slice_bounds-write_moves-end-in-Moves c = let l = c.loop-progress in stop_front (the_board c.args.tables.now) (the_roster c.args.tables.now c.args.index.now) c.args.order.now c.requires.order_len_bound.0 _ _ _ c.requires.room _ _ _ _ l.invariant.1 _ _ _ _ _ _ l.invariant.0 _ c.walk_on-walk.ensures _ _ (ok_as c.walk_on-walk.result.answer c.in-Ok.progress _ c.in-Ok.is c.in-Moves.is)

pub slice_bounds-write_moves-end-in-Moves-2 : goal.slice_bounds-write_moves-end-in-Moves-2
slice_bounds-write_moves-end-in-Moves-2 c = sym (length-take-le _ _ (let l = c.loop-progress in stop_front (the_board c.args.tables.now) (the_roster c.args.tables.now c.args.index.now) c.args.order.now c.requires.order_len_bound.0 _ _ _ c.requires.room _ _ _ _ l.invariant.1 _ _ _ _ _ _ l.invariant.0 _ c.walk_on-walk.ensures _ _ (ok_as c.walk_on-walk.result.answer c.in-Ok.progress _ c.in-Ok.is c.in-Moves.is)))

pub write_moves-at-requires : goal.write_moves-at-requires
write_moves-at-requires c = let l = c.loop-progress in let both = stop_asked (the_board c.args.tables.now) (the_roster c.args.tables.now c.args.index.now) c.args.order.now c.requires.order_len_bound.0 _ _ _ c.requires.room _ _ _ _ l.invariant.1 _ _ _ _ _ _ l.invariant.0 _ c.walk_on-walk.ensures _ _ (ok_as c.walk_on-walk.result.answer c.in-Ok.progress _ c.in-Ok.is c.in-Moves.is) in record { laid = both.0; values_in_bounds = both.1.0; lengths_bound = both.1.1 }

pub overflow_add-number : goal.overflow_add-number
overflow_add-number c = Fits-under _ _ 65538 (let k = (let l = c.loop-progress in stop_number (the_board c.args.tables.now) (the_roster c.args.tables.now c.args.index.now) c.args.order.now c.requires.order_len_bound.0 _ _ _ c.requires.room _ _ _ _ l.invariant.1 _ _ _ _ _ _ l.invariant.0 _ c.walk_on-walk.ensures _ _ (ok_as c.walk_on-walk.result.answer c.in-Ok.progress _ c.in-Ok.is c.in-Moves.is)) in omega (arith, k)) tt

pub loop-progress-smaller : goal.loop-progress-smaller
loop-progress-smaller c = let l = c.loop-progress in stop_nearer (the_board c.args.tables.now) (the_roster c.args.tables.now c.args.index.now) c.args.order.now c.requires.order_len_bound.0 _ _ _ c.requires.room _ _ _ _ l.invariant.1 _ _ _ _ _ _ l.invariant.0 _ c.walk_on-walk.ensures _ _ (ok_as c.walk_on-walk.result.answer c.in-Ok.progress _ c.in-Ok.is c.in-Moves.is)

pub loop-progress-preserved : goal.loop-progress-preserved
loop-progress-preserved c = (record { rows = c.walk_on-walk.auto.out_rows ∙ c.loop-progress.invariant.0.rows; values = c.walk_on-walk.auto.out_values ∙ c.loop-progress.invariant.0.values; lengths = c.walk_on-walk.auto.out_lengths ∙ c.loop-progress.invariant.0.lengths }, let l = c.loop-progress in stop_goes (the_board c.args.tables.now) (the_roster c.args.tables.now c.args.index.now) c.args.order.now c.requires.order_len_bound.0 _ _ _ c.requires.room _ _ _ _ l.invariant.1 _ _ _ _ _ _ l.invariant.0 _ c.walk_on-walk.ensures _ _ (ok_as c.walk_on-walk.result.answer c.in-Ok.progress _ c.in-Ok.is c.in-Moves.is) _ _ c.write_moves-at.ensures)
