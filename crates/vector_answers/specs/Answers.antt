-- An answer that is the one expected.
use Rattle.std.specs.Prelude.{ℕ, Bool, cond, ◌&&◌, List, eqb, ltb, length, get_or}
use Rattle.basics.specs.Tests.{all_below}
use Rattle.vector_answers.specs.declared.Question.{Question}
use Rattle.vector_words.specs.Words.{part_of}
use Rattle.vector_cells.specs.Cells.{before_at}
use Rattle.vector_answers.specs.Questions.{code_of, flag_of}

-- number i that a call told: of the list, and behind it what stood there before
unfoldable pub told_at : List ℕ → ℕ → ℕ
told_at expected i = cond (ltb i (length expected)) (get_or expected i 0) 7777777

unfoldable pub same_told_at : List ℕ → List ℕ → ℕ → Bool
same_told_at expected told i = eqb (told_at expected i) (get_or told i 0)

abbrev pub same_told : List ℕ → List ℕ → Bool
same_told expected told = all_below (length told) (same_told_at expected told)

-- code, flag and numbers
unfoldable pub same_answer : List ℕ → Question → ℕ → ℕ → List ℕ → Bool
same_answer line asked code flag told =
    eqb (code_of line asked) code && (eqb (flag_of line asked) flag && same_told (part_of line asked.told) told)

-- what stands in cell i of an output after a call: the front that was written, and behind it what stood there before
unfoldable pub left_at : List ℕ → ℕ → ℕ
left_at front i = let behind = before_at i in cond (ltb i (length front)) (get_or front i 0) behind

-- cell i of an output of which this front was written
unfoldable pub same_left : List ℕ → List ℕ → ℕ → Bool
same_left front seen i = eqb (left_at front i) (get_or seen i 0)

-- an output of which this front was written
abbrev pub same_output : List ℕ → List ℕ → Bool
same_output front seen = all_below (length seen) (same_left front seen)

unfoldable pub same_outputs : List ℕ → Question → List ℕ → List ℕ → Bool
same_outputs line asked first second =
    same_output (part_of line asked.first_front) first && same_output (part_of line asked.second_front) second
