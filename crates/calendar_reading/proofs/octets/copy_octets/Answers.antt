use Rattle.std.proofs.lemmas.Option.{MatchOption-at_none, MatchOption-at_some}
use Rattle.basics.proofs.Options.{none_so}
use Rattle.calendar_reading.proofs.TextLaws.{none_copied, one_copied, too_few, all_copied}
use Rattle.calendar_reading.proofs.octets.copy_octets.Goals as goal

pub loop-i-init : goal.loop-i-init
loop-i-init c = (c.requires, none_copied _ _)

pub next_octet-requires : goal.next_octet-requires
next_octet-requires c = c.loop-i.invariant.0

pub returns-in_err-there : goal.returns-in_err-there
returns-in_err-there c = let l = c.loop-i in none_so _ _ c.from_residual.ensures (too_few _ _ _ _ _ l.invariant.1 c.loop-i-test.true (MatchOption-at_none _ _ c.in_err-there.was c.next_octet.ensures))

pub loop-i-preserved : goal.loop-i-preserved
loop-i-preserved c = let l = c.loop-i in let t = MatchOption-at_some _ _ _ c.in_ok-there.was c.next_octet.ensures in (t.0, one_copied _ _ _ _ _ l.invariant.1 c.loop-i-test.true _ _ t.1)

pub returns : goal.returns
returns c = let l = c.loop-i in let t = all_copied _ _ _ _ _ l.invariant.1 c.loop-i-test.false in (l.invariant.0, t.0, t.1, t.2)
