use Rattle.outputs.proofs.Writing.{begun}
use Rattle.calendar_format.specs.Format.{closing}
use Rattle.calendar_format.proofs.SliceLaws.{datable_at}
use Rattle.calendar_writing.proofs.PieceLaws.{event-room, event-written, closing-room, closing-written}
use native.Mathlib.Omega.{arith}
use Rattle.calendar_writing.proofs.object.write_events.Goals as goal

pub loop-i-init : goal.loop-i-init
loop-i-init c = begun _ _ _

pub bounds-days-i : goal.bounds-days-i
bounds-days-i c = omega (arith, c.requires.rows_len.0, c.loop-i-test.true)

pub write_event-next-requires : goal.write_event-next-requires
write_event-next-requires c = let l = c.loop-i in (event-room _ _ _ l.i _ _ _ _ l.invariant c.requires.rows_len.0 c.loop-i-test.true c.requires.days_in_bounds, datable_at c.args.days.now l.i c.requires.rows_len.1 (omega (arith, c.requires.rows_len.0, c.loop-i-test.true)))

pub loop-i-preserved : goal.loop-i-preserved
loop-i-preserved c = let l = c.loop-i in event-written c.args.stamp.now c.args.rows.now c.args.days.now l.i _ _ _ _ l.invariant c.requires.rows_len.0 c.loop-i-test.true _ _ c.write_event-next.ensures

pub write_bytes-requires : goal.write_bytes-requires
unfolding closing
write_bytes-requires c = let l = c.loop-i in closing-room _ _ _ l.i _ _ _ _ l.invariant c.loop-i-test.false c.requires.days_in_bounds

pub returns : goal.returns
unfolding closing
returns c = let l = c.loop-i in closing-written _ _ _ l.i _ _ _ _ l.invariant c.loop-i-test.false _ _ c.write_bytes.ensures
