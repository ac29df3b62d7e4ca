use Rattle.std.proofs.lemmas.Option.{MatchOption-at_none, MatchOption-at_some}
use Rattle.basics.proofs.Options.{none_so}
use Rattle.listing_reading.proofs.CellLaws.{begun, room, moved_on, turned, ended, failed}
use native.Mathlib.Omega.{arith}
use Rattle.listing_reading.proofs.cells.read_lines.Goals as goal

pub loop-at-init : goal.loop-at-init
loop-at-init c = begun _ _ _ c.requires.from_in_bounds

pub read_line-requires : goal.read_line-requires
read_line-requires c = c.loop-at.invariant.within

pub returns-in_err-line : goal.returns-in_err-line
returns-in_err-line c = none_so _ _ c.from_residual.ensures (failed _ _ _ _ _ _ c.loop-at.invariant c.loop-at-test.true (MatchOption-at_none _ _ c.in_err-line.was c.read_line.ensures))

pub overflow_mul-count : goal.overflow_mul-count
overflow_mul-count c = let r = room _ _ _ _ _ _ c.loop-at.invariant c.requires.ready c.loop-at-test.true in
    omega (arith, c.loop-at.invariant.few)

pub write_record-requires : goal.write_record-requires
write_record-requires c = room _ _ _ _ _ _ c.loop-at.invariant c.requires.ready c.loop-at-test.true

pub overflow_add-count : goal.overflow_add-count
overflow_add-count c = omega (arith, c.loop-at.invariant.few)

pub loop-at-smaller : goal.loop-at-smaller
loop-at-smaller c = let m = moved_on c.args.bytes.now c.loop-at.at _ c.in_ok-line.line.next (MatchOption-at_some _ _ _ c.in_ok-line.was c.read_line.ensures) in
    omega (arith, m.0 c.loop-at-test.true, m.1)

pub loop-at-preserved : goal.loop-at-preserved
loop-at-preserved c = turned _ _ _ _ _ _ c.loop-at.invariant c.requires.ready c.loop-at-test.true _ _ (MatchOption-at_some _ _ _ c.in_ok-line.was c.read_line.ensures) _ c.write_record.ensures

pub returns : goal.returns
returns c = ended _ _ _ _ _ _ c.loop-at.invariant c.requires.ready c.loop-at-test.false
