-- What is read at a place in a line's words. Assumes nothing.
use Prim.Native.Nat.{ℕ, ◌+◌, ◌-◌, ◌≤◌, ◌<◌}
use mathlib.Core.Path.{◌≡◌}
use mathlib.Core.List.{List, []}
use lib.ListN.{length, get_or, take, drop}
use borrow.Author.Tests.{lt-ltb, le-ltb}
use Rattle.vector_words.specs.declared.Part.{Part}
use Rattle.vector_words.specs.Words.{ahead, part_of, counted}

pub ahead_last : (at more : ℕ) → 18446744073709551615 - at < more → 18446744073709551615 ≡ ahead at more
unfolding ahead
ahead_last at more h = rw (lt-ltb (18446744073709551615 - at) more h)

pub ahead_sum : (at more : ℕ) → more ≤ 18446744073709551615 - at → at + more ≡ ahead at more
unfolding ahead
ahead_sum at more h = rw (le-ltb (18446744073709551615 - at) more h)

module _ (words : List ℕ) (part : Part) where
  pub part_turned : part.to < part.from → [] ≡ part_of words part
  unfolding part_of
  part_turned h = rw (lt-ltb part.to part.from h)

  pub part-over : part.from ≤ part.to → length words < part.to → [] ≡ part_of words part
  unfolding part_of
  part-over h l = rw (le-ltb part.to part.from h, lt-ltb (length words) part.to l)

  pub part_there : part.from ≤ part.to → part.to ≤ length words → take (part.to - part.from) (drop part.from words) ≡ part_of words part
  unfolding part_of
  part_there h l = rw (le-ltb part.to part.from h, le-ltb (length words) part.to l)

pub counted_words : (words : List ℕ) (at f w t : ℕ) → f ≡ ahead at 1 → w ≡ get_or words at 0 → t ≡ ahead f w
    → ◌≡◌ {A = Part} (record { from = f; to = t }) (counted words at)
unfolding counted
counted_words words at f w t p q s = rw (s, q, p)
