use mathlib.Core.Path.{refl, ◌∙◌}
use native.Mathlib.Omega.{arith}
use Rattle.assignment_tables.specs.Tables.{the_board}
use Rattle.assignment_index.specs.Index.{the_roster}
use Rattle.window_kinds.specs.Kinds.{rematching}
use Rattle.window_kinds.proofs.CursorLaws.{walks, walks_on_to, nearer_to}
use Rattle.window_kinds.proofs.StepLaws.{nothing_there, move_there, nothing_left, turned, from_start}
use Rattle.window_kinds.proofs.Walked.{rematching_walks}
use Rattle.assignment_cycle.specs.Windows.{move_at}
use Rattle.assignment_cycle.proofs.MoveLaws.{some_edits}
use Rattle.assignment_cycle.proofs.rematch.next_move.Goals as goal

pub loop-at-init : goal.loop-at-init
loop-at-init c = (walks rematching _ _ rematching_walks c.requires.order_len_bound.0 c.requires.order_len_bound.1, refl, refl, refl)

pub move_here-edits-requires : goal.move_here-edits-requires
move_here-edits-requires c = let l = c.loop-at in record { indexed = c.requires.indexed; walking = l.invariant.0; roomy = record { rows = rw l.invariant.1 c.requires.roomy.rows; values = rw l.invariant.2 c.requires.roomy.values } }

pub advance-at-requires : goal.advance-at-requires
advance-at-requires c = let w = c.loop-at.invariant.0 in
    (omega (arith, w.starts, w.few), w.short, omega (arith, w.tried))

pub returns-then-edits-ne0 : goal.returns-then-edits-ne0
returns-then-edits-ne0 c = let l = c.loop-at in
    from_start _ _ _ _ _ _ _ l.invariant.3 l.invariant.1 l.invariant.2
    (move_there rematching rematching_walks (move_at (the_board c.args.tables.now) (the_roster c.args.tables.now c.args.index.now) c.args.order.now) _ l.at l.out_rows l.out_values _ _ _ c.move_here-edits.ensures (omega (arith, l.invariant.0.least)) c.loop-at-test.true _ c.advance-at.ensures c.if-edits-ne0.true)

pub loop-at-smaller : goal.loop-at-smaller
loop-at-smaller c = nearer_to rematching rematching_walks _ _ c.loop-at.invariant.0 c.loop-at-test.true _ c.advance-at.ensures

pub loop-at-preserved : goal.loop-at-preserved
loop-at-preserved c = let l = c.loop-at in
    let still = nothing_there rematching rematching_walks (move_at (the_board c.args.tables.now) (the_roster c.args.tables.now c.args.index.now) c.args.order.now) _ l.at l.out_rows l.out_values _ _ _ c.move_here-edits.ensures (some_edits (the_board c.args.tables.now) (the_roster c.args.tables.now c.args.index.now) c.args.order.now l.at) c.if-edits-ne0.false in
    (walks_on_to rematching rematching_walks _ _ l.invariant.0 c.loop-at-test.true _ c.advance-at.ensures, still.1 ∙ l.invariant.1, still.2 ∙ l.invariant.2, turned rematching rematching_walks (move_at (the_board c.args.tables.now) (the_roster c.args.tables.now c.args.index.now) c.args.order.now) _ l.at l.out_rows l.out_values _ _ _ c.move_here-edits.ensures (omega (arith, l.invariant.0.least)) c.loop-at-test.true _ c.advance-at.ensures (some_edits (the_board c.args.tables.now) (the_roster c.args.tables.now c.args.index.now) c.args.order.now l.at) c.if-edits-ne0.false _ l.invariant.3)

pub returns : goal.returns
returns c = let l = c.loop-at in
    from_start _ _ _ _ _ _ _ l.invariant.3 l.invariant.1 l.invariant.2
    (nothing_left rematching rematching_walks (move_at (the_board c.args.tables.now) (the_roster c.args.tables.now c.args.index.now) c.args.order.now) _ l.at l.out_rows l.out_values (omega (arith, l.invariant.0.least)) c.loop-at-test.false)
