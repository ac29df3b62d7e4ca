use Prim.Native.Nat.{ℕ}
use mathlib.Core.Path.{refl, sym, ap, ◌∙◌}
use mathlib.Core.Bool.{true, false, not}
use Rattle.basics.proofs.Loops.{all_none, turn_fails, turn_more, turn_end}
use Rattle.listing_format.specs.Format.{clash}
use Rattle.listing_reading.specs.Cells.{record_in}
use Rattle.listing_reading.proofs.agreement.apart_before.Goals as goal

pub loop-i-init : goal.loop-i-init
loop-i-init c = all_none _

pub returns-then-records_clash : goal.returns-then-records_clash
returns-then-records_clash c = turn_fails _ _ (λ (i : ℕ). not (clash (record_in c.args.cells.now i) (record_in c.args.cells.now c.args.place))) false c.loop-i-test.true (sym (ap not (sym c.records_clash.ensures ∙ c.if-records_clash.true))) refl

pub loop-i-preserved : goal.loop-i-preserved
loop-i-preserved c = turn_more _ (λ (i : ℕ). not (clash (record_in c.args.cells.now i) (record_in c.args.cells.now c.args.place))) true c.loop-i.invariant (sym (ap not (sym c.records_clash.ensures ∙ c.if-records_clash.false))) refl

pub returns : goal.returns
returns c = let l = c.loop-i in
    turn_end _ _ _ l.auto.i-end c.loop-i-test.false l.invariant
