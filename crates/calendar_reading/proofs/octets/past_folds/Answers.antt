use mathlib.Core.Path.{refl, sym, ◌∙◌}
use Rattle.calendar_reading.proofs.OctetLaws.{fold_room, past_one, past_yet}
use borrow.Author.Rules.{rules}
use native.Mathlib.Omega.{arith}
use Rattle.calendar_reading.proofs.octets.past_folds.Goals as goal

pub loop-place-init : goal.loop-place-init
loop-place-init c = (c.requires, refl)

pub fold_at-requires : goal.fold_at-requires
fold_at-requires c = c.loop-place.invariant.0

pub overflow_add-place : goal.overflow_add-place
overflow_add-place c = let l = c.loop-place in let k = fold_room c.args.bytes.now l.place l.invariant.0 (sym c.fold_at.ensures ∙ c.loop-place-test.true) in search rules

pub loop-place-smaller : goal.loop-place-smaller
loop-place-smaller c = let l = c.loop-place in let k = fold_room c.args.bytes.now l.place l.invariant.0 (sym c.fold_at.ensures ∙ c.loop-place-test.true) in omega arith

pub loop-place-preserved : goal.loop-place-preserved
loop-place-preserved c = let l = c.loop-place in let t = sym c.fold_at.ensures ∙ c.loop-place-test.true in (fold_room c.args.bytes.now l.place l.invariant.0 t, l.invariant.1 ∙ past_one c.args.bytes.now l.place l.invariant.0 t)

pub returns : goal.returns
returns c = let l = c.loop-place in past_yet _ _ _ l.invariant.0 l.invariant.1 (sym c.fold_at.ensures ∙ c.loop-place-test.false)
