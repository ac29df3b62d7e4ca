-- A line's words, read at any place. What is not there is 0, which is `get_or words at 0`.
use Rattle.std.specs.Prelude.{ℕ, ◌+◌, ◌-◌, cond, ◌||◌, List, [], ltb, length, get_or, take, drop}
use Rattle.vector_words.specs.declared.Part.{Part}

-- a place so many words on; the last number where there is none
unfoldable pub ahead : ℕ → ℕ → ℕ
ahead at more = cond (ltb (18446744073709551615 - at) more) 18446744073709551615 (at + more)

-- a part of the words; none where they are not all there
unfoldable pub part_of : List ℕ → Part → List ℕ
part_of words part =
    cond (ltb part.to part.from || ltb (length words) part.to) [] (take (part.to - part.from) (drop part.from words))

-- the words behind their number
unfoldable pub counted : List ℕ → ℕ → Part
counted words at = record { from = ahead at 1; to = ahead (ahead at 1) (get_or words at 0) }
