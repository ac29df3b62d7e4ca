-- Lines of bare decimals with a comma between two and CR LF at the end. docs/RULES.md, 12.1.
use Rattle.std.specs.Prelude.{ℕ, zero, suc, ◌+◌, cond, List, eqb, ltb, length, get_or, drop, set, Option, None, Some}
use Rattle.decimals.specs.Fields.{front}
use Rattle.decimals.specs.Reading.{decimal}
use Rattle.vector_words.specs.declared.lines.Field.{Field}
use Rattle.vector_words.specs.declared.lines.Line.{Line}
use Rattle.vector_words.specs.Words.{ahead}

-- the decimal that begins at a place, and the place behind it
unfoldable pub field_at : List ℕ → ℕ → Field
field_at text from =
    let there = front (drop from text) in
    cond (ltb (length text) from) (record { number = None; end = from }) (record { number = decimal there; end = from + length there })

-- what a number leads to, or what follows if there is none
unfoldable pub taken : {A : Type 0} → Option ℕ → A → (ℕ → A) → A
taken (Some n) none follow = follow n
taken None none follow = none

-- the line from a place on, n words of it in front of `words`, k more at most: how many words it has, none where it is no line, where the next one begins; and the words
unfoldable pub read_words : List ℕ → ℕ → ℕ → ℕ → List ℕ → Line × List ℕ
read_words text zero at n words = (record { words = None; next = at }, words)
read_words text (suc k) at n words =
    let field = field_at text at in
    taken field.number (record { words = None; next = field.end }, words) (λ (word : ℕ).
    let more = set words n word in
    let goes_on = read_words text k (ahead field.end 1) (n + 1) more in
    cond (eqb (get_or text field.end 0) 13) (record { words = Some (n + 1); next = ahead field.end 2 }, more) goes_on)

unfoldable pub read_line : List ℕ → ℕ → List ℕ → Line × List ℕ
read_line text from words = read_words text 32768 from 0 words
