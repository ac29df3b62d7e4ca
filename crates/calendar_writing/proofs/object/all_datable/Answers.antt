use Prim.Native.Nat.{ℕ}
use mathlib.Core.Path.{refl, sym, ◌∙◌}
use lib.Dec.{leb}
use lib.ListN.{get_or}
use borrow.Author.Tests.{le-leb, lt-leb}
use Rattle.basics.proofs.Loops.{all_none, turn_fails, all_more, turn_end}
use Rattle.civil_dates.specs.Dates.{last_day}
use Rattle.calendar_format.proofs.SliceLaws.{datable-below}
use Rattle.calendar_writing.proofs.object.all_datable.Goals as goal

pub loop-day-init : goal.loop-day-init
loop-day-init c = all_none _

pub returns-then-day-gt2932896 : goal.returns-then-day-gt2932896
returns-then-day-gt2932896 c = let l = c.loop-day in turn_fails _ l.day-index (λ (j : ℕ). leb (get_or c.args.days.now j 0) last_day) _ c.loop-day-test.true (sym (lt-leb _ _ c.if-day-gt2932896.true)) refl ∙ sym (datable-below _)

pub loop-day-preserved : goal.loop-day-preserved
loop-day-preserved c = let l = c.loop-day in all_more l.day-index _ l.invariant (le-leb _ _ c.if-day-gt2932896.false)

pub returns : goal.returns
returns c = let l = c.loop-day in turn_end _ l.day-index (λ (j : ℕ). leb (get_or c.args.days.now j 0) last_day) l.auto.day-index-end c.loop-day-test.false l.invariant ∙ sym (datable-below _)
