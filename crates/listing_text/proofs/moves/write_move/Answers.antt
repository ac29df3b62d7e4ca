use Rattle.outputs.proofs.Writing.{begun}
use Rattle.written_text.proofs.WroteLaws.{written}
use Rattle.listing_text.proofs.TextLaws.{edit-room, edit-written, edit_end}
use native.Mathlib.Omega.{arith}
use Rattle.listing_text.proofs.moves.write_move.Goals as goal

pub loop-i-init : goal.loop-i-init
loop-i-init c = begun _ _ _

pub bounds-values-i : goal.bounds-values-i
bounds-values-i c = omega (arith, c.requires.rows_len)

pub write_edit-next-requires : goal.write_edit-next-requires
write_edit-next-requires c = let l = c.loop-i in
    edit-room _ _ _ _ _ c.args.rows.now c.args.values.now l.i l.invariant c.requires.rows_len c.loop-i-test.true c.requires.values_in_bounds

pub loop-i-preserved : goal.loop-i-preserved
loop-i-preserved c = let l = c.loop-i in
    edit-written _ _ _ _ _ c.args.rows.now c.args.values.now l.i l.invariant c.requires.rows_len c.loop-i-test.true _ _ c.write_edit-next.ensures

pub returns : goal.returns
returns c = let l = c.loop-i in
    written _ _ _ _ _ _ l.invariant (edit_end _ _ _ _ c.loop-i-test.false)
