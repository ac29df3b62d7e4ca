use mathlib.Core.Path.{refl, ◌∙◌}
use Rattle.std.proofs.lemmas.Option.{MatchOption-at_none, MatchOption-at_some}
use Rattle.basics.proofs.Options.{none_so}
use Rattle.calendar_reading.proofs.TextLaws.{looked_for_in_vain, something_else, one_of_it, all_of_it}
use Rattle.calendar_reading.proofs.octets.after_text.Goals as goal

pub loop-sought-init : goal.loop-sought-init
loop-sought-init c = (c.requires, refl)

pub next_octet-requires : goal.next_octet-requires
next_octet-requires c = c.loop-sought.invariant.0

pub returns-in_err-there : goal.returns-in_err-there
returns-in_err-there c = let l = c.loop-sought in none_so _ _ c.from_residual.ensures (l.invariant.1 ∙ looked_for_in_vain c.args.text.now _ l.sought-index c.loop-sought-test.true (MatchOption-at_none _ _ c.in_err-there.was c.next_octet.ensures))

pub returns-then-there-sought : goal.returns-then-there-sought
returns-then-there-sought c = let l = c.loop-sought in let t = MatchOption-at_some _ _ _ c.in_ok-there.was c.next_octet.ensures in l.invariant.1 ∙ something_else c.args.text.now _ l.sought-index _ _ c.loop-sought-test.true t.1 c.if-there-sought.true

pub loop-sought-preserved : goal.loop-sought-preserved
loop-sought-preserved c = let l = c.loop-sought in let t = MatchOption-at_some _ _ _ c.in_ok-there.was c.next_octet.ensures in (t.0, l.invariant.1 ∙ one_of_it c.args.text.now _ l.sought-index _ _ c.loop-sought-test.true t.1 c.if-there-sought.false)

pub returns : goal.returns
returns c = let l = c.loop-sought in (l.invariant.0, l.invariant.1 ∙ all_of_it c.args.text.now _ l.sought-index c.loop-sought-test.false)
