-- `judged_pairs::remember` meets its contract: a bit that is not set leaves room for its power. Assumes nothing.
use native.Mathlib.Omega.{arith}
use Rattle.judged_pairs.specs.Judged.{is_judged, judged_with}
use Rattle.word_bits.proofs.Bits.{room}
use Rattle.judged_pairs.proofs.remember.Goals as goal

pub overflow_add-judged : goal.overflow_add-judged
unfolding is_judged
overflow_add-judged c = rw (c.power.ensures, c.word_of-word.ensures)
    (record { fits = room 64 _ _ (omega arith) (c.slice_known-2-1.given _).fits c.requires.3 })

pub returns : goal.returns
unfolding judged_with
returns c = rw (c.power.ensures, c.word_of-word.ensures)
