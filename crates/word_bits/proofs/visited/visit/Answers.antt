-- `word_bits::visited::visit` meets its contract: a bit that is not set leaves room for its power. Assumes nothing.
use mathlib.Core.Path.{◌∙◌}
use native.Mathlib.Omega.{arith}
use Rattle.word_bits.proofs.Bits.{room}
use Rattle.word_bits.proofs.VisitingLaws.{low-marked, high-marked, low-more, high-more}
use Rattle.word_bits.proofs.visited.visit.Goals as goal

pub overflow_add-result : goal.overflow_add-result
overflow_add-result c = let l = c.if-row-lt64.true in
    rw c.power.ensures
    (record { fits = room 64 _ _ l c.struct_known-1.given.0.fits (low-marked _ _ l ∙ c.requires.1) })

pub returns-then-row-lt64 : goal.returns-then-row-lt64
returns-then-row-lt64 c = let l = c.if-row-lt64.true in
    rw c.power.ensures (low-more _ _ _ l (low-marked _ _ l ∙ c.requires.1))

pub overflow_add-result-2 : goal.overflow_add-result-2
overflow_add-result-2 c = let l = c.if-row-lt64.false in
    rw c.power-2.ensures
    (record { fits = room 64 _ _ (omega arith) c.struct_known-2-1.given.1.0.fits (high-marked _ _ l ∙ c.requires.1) })

pub returns : goal.returns
returns c = let l = c.if-row-lt64.false in
    rw c.power-2.ensures (high-more _ _ _ l (high-marked _ _ l ∙ c.requires.1))
