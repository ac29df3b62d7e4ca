-- What an answer comes to once a part of it was compared. Assumes nothing.
use Prim.Native.Nat.{ℕ, ◌≤◌, ◌<◌}
use mathlib.Core.Path.{◌≡◌, sym, ◌∙◌}
use mathlib.Core.Bool.{Bool, true, false, ◌&&◌}
use mathlib.Core.List.{List}
use lib.Dec.{eqb}
use lib.ListN.{length, get_or}
use borrow.Author.Tests.{lt-ltb, le-ltb}
use Rattle.vector_answers.specs.declared.Question.{Question}
use Rattle.vector_words.specs.Words.{part_of}
use Rattle.vector_answers.specs.Questions.{code_of, flag_of}
use Rattle.vector_cells.specs.Cells.{before_at}
use Rattle.vector_answers.specs.Answers.{told_at, left_at, same_told, same_answer, same_output, same_outputs}

pub told-front : (expected : List ℕ) (i : ℕ) → i < length expected → get_or expected i 0 ≡ told_at expected i
unfolding told_at
told-front expected i h = rw (lt-ltb i (length expected) h)

pub told-behind : (expected : List ℕ) (i : ℕ) → length expected ≤ i → 7777777 ≡ told_at expected i
unfolding told_at
told-behind expected i h = rw (le-ltb i (length expected) h)

pub left-front : (front : List ℕ) (i : ℕ) → i < length front → get_or front i 0 ≡ left_at front i
unfolding left_at
left-front front i h = rw (lt-ltb i (length front) h)

pub left_behind : (front : List ℕ) (i r : ℕ) → length front ≤ i → r ≡ before_at i → r ≡ left_at front i
unfolding left_at
left_behind front i r h e = rw (le-ltb i (length front) h) e

-- of two comparisons the first decides, or the second
pub first_fails : (b x y : Bool) → b ≡ x → b ≡ false → false ≡ x && y
first_fails b x y e f = let t : x ≡ false = sym e ∙ f in rw t

pub then-second : (b r x y : Bool) → b ≡ x → b ≡ true → r ≡ y → r ≡ x && y
then-second b r x y e t s = let u : x ≡ true = sym e ∙ t in rw u s

module _ (line : List ℕ) (asked : Question) (code flag : ℕ) (told : List ℕ) (b : Bool) (k : ℕ) (e : k ≡ code_of line asked) (p : b ≡ eqb k code) where
  pub other-code : b ≡ false → false ≡ same_answer line asked code flag told
  unfolding same_answer
  other-code f = first_fails b (eqb (code_of line asked) code) _ (rw e at p) f

  module _ (t : b ≡ true) (d : Bool) (l : ℕ) (g : l ≡ flag_of line asked) (q : d ≡ eqb l flag) where
    pub other-flag : d ≡ false → false ≡ same_answer line asked code flag told
    unfolding same_answer
    other-flag f = then-second b false (eqb (code_of line asked) code) _ (rw e at p) t (first_fails d (eqb (flag_of line asked) flag) _ (rw g at q) f)

    pub told_decides : (part : List ℕ) (r : Bool) → d ≡ true → part ≡ part_of line asked.told → r ≡ same_told part told → r ≡ same_answer line asked code flag told
    unfolding same_answer
    told_decides part r u h s =
        then-second b r (eqb (code_of line asked) code) _ (rw e at p) t
        (then-second d r (eqb (flag_of line asked) flag) _ (rw g at q) u (rw h at s))

module _ (line : List ℕ) (asked : Question) (first second : List ℕ) (b : Bool) (part : List ℕ) (e : part ≡ part_of line asked.first_front) (p : b ≡ same_output part first) where
  pub other-first : b ≡ false → false ≡ same_outputs line asked first second
  unfolding same_outputs
  other-first f = first_fails b (same_output (part_of line asked.first_front) first) _ (rw e at p) f

  pub second_decides : (last : List ℕ) (r : Bool) → b ≡ true → last ≡ part_of line asked.second_front → r ≡ same_output last second → r ≡ same_outputs line asked first second
  unfolding same_outputs
  second_decides last r t h s = then-second b r (same_output (part_of line asked.first_front) first) _ (rw e at p) t (rw h at s)
