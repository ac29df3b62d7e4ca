use Rattle.std.proofs.Common.{◌+◌, ◌<◌, ℕ, suc, length, drop, ap, sym, ◌∙◌, add-one, arith, drop-cons}
use lib.Dec.{ltb}
use borrow.Author.Tests.{ltb-true}
use Rattle.basics.proofs.Bools.{and_left, and_right}
use Rattle.edit_records.specs.declared.Gathered.{Gathered}
use Rattle.edit_records.specs.Records.{all_more, gathered, none_gathered}
use Rattle.edit_records.proofs.GatherLaws.{more_counts, all-gathered}
use Rattle.edit_records.proofs.gather.Goals as goal

pub loop-i-init : goal.loop-i-init
unfolding gathered none_gathered
loop-i-init c =
    let e = c.none_gathered-lists.ensures in
    (ap (λ (g : Gathered). g.count) e, ap (λ (g : Gathered). all_more g c.args.edits.now) e)

-- a turn with the record at i
pub loop-i-preserved : goal.loop-i-preserved
loop-i-preserved c =
    let ys = c.args.edits.now in
    let i = c.loop-i.i in
    let g = c.loop-i.lists in
    let r = c.one_more-lists.result in
    let e = c.one_more-lists.ensures in
    let less : i < length ys = ltb-true i (length ys) (and_left (ltb i (length ys)) (ltb i 129) c.loop-i-test.true) in
    let room : i < 129 = ltb-true i 129 (and_right (ltb i (length ys)) (ltb i 129) c.loop-i-test.true) in (
      ap (λ (h : Gathered). h.count) e ∙ more_counts g _ (omega arith) ∙ ap (λ (k : ℕ). k + 1) c.loop-i.invariant.0,
      ap (λ (k : ℕ). all_more r (drop k ys)) (add-one i)
          ∙ (ap (λ (h : Gathered). all_more h (drop (suc i) ys)) e
          ∙ (ap (all_more g) (sym (drop-cons ys i _ less)) ∙ c.loop-i.invariant.1)),
    )

pub returns : goal.returns
returns c = all-gathered c.args.edits.now c.loop-i.i c.loop-i.lists c.loop-i.invariant.0 c.loop-i.invariant.1 c.loop-i-test.false
