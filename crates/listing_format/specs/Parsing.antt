-- Reading a roster file from the front on, field by field. proofs/ReadBack.antt says that what is read is what the text renders.
use Rattle.std.specs.Prelude.{ℕ, zero, suc, cond, ◌&&◌, List, [], ◌∷◌, ◌++◌, eqb, length, take, drop, Option, None, Some, option_map, option_and_then}
use Rattle.basics.specs.Tests.{same_numbers}
use Rattle.decimals.specs.Reading.{decimal}
use Rattle.decimals.specs.Fields.{front}
use Rattle.listing_format.specs.Format.{Record, header}

-- what was read, and the bytes behind it
abbrev pub Read : Type 0 → Type 0
Read A = Option (A × List ℕ)

-- ---- a field

-- what a field's bytes are: a key, absent or not; or neither
unfoldable pub content : List ℕ → Option (Option ℕ)
content [] = Some None
content (b ∷ l) = option_map Some (decimal (b ∷ l))

-- the bytes behind a comma
unfoldable pub after_comma : List ℕ → Option (List ℕ)
after_comma [] = None
after_comma (b ∷ l) = cond (eqb b 44) (Some l) None

-- the bytes behind a line end; none stand behind the last line, which may lack it
unfoldable pub after_line : List ℕ → Option (List ℕ)
after_line [] = Some []
after_line (b ∷ []) = None
after_line (b ∷ c ∷ l) = cond (eqb b 13 && eqb c 10) (Some l) None

unfoldable pub both : Option (Option ℕ) → Option (List ℕ) → Read (Option ℕ)
both None rest = None
both (Some o) None = None
both (Some o) (Some l) = Some (o, l)

abbrev pub behind : List ℕ → List ℕ
behind l = drop (length (front l)) l

-- a field before a comma, and the last one of a line
unfoldable pub field_of : List ℕ → Read (Option ℕ)
field_of l = both (content (front l)) (after_comma (behind l))

unfoldable pub last_of : List ℕ → Read (Option ℕ)
last_of l = both (content (front l)) (after_line (behind l))

-- ---- a line

-- what is read, and then f of it and the bytes behind
unfoldable pub and_then : {A B : Type 0} → Read A → (A → List ℕ → Option B) → Option B
and_then o f = option_and_then (λ p. f p.0 p.1) o

-- a number, where none may be absent
unfoldable pub given : Option ℕ → List ℕ → Read ℕ
given None l = None
given (Some n) l = Some (n, l)

unfoldable pub needed : List ℕ → Read ℕ
needed l = and_then (field_of l) given

unfoldable pub line_of : List ℕ → Read Record
line_of l =
    and_then (needed l)
    (λ row a. and_then (needed a)
    (λ value b. and_then (needed b)
    (λ now c. and_then (field_of c)
    (λ capacity d. and_then (last_of d)
    (λ sequence e. Some (record { row = row; value = value; now = now; capacity = capacity; sequence = sequence }, e))))))

-- ---- the file

-- records, and then those that are read behind them
unfoldable pub prepend : List Record → Option (List Record) → Option (List Record)
prepend rs o = option_map (λ (more : List Record). rs ++ more) o

-- the lines, of which there are at most k
unfoldable pub lines_by : ℕ → List ℕ → Option (List Record)
lines_by zero l = cond (eqb (length l) 0) (Some []) None
lines_by (suc k) l = let read = and_then (line_of l) (λ r rest. prepend (r ∷ []) (lines_by k rest)) in cond (eqb (length l) 0) (Some []) read

unfoldable pub lines_of : List ℕ → Option (List Record)
lines_of l = lines_by (length l) l

unfoldable pub after_header : List ℕ → Option (List ℕ)
after_header l = cond (same_numbers (take 31 l) header) (after_line (drop 31 l)) None

unfoldable pub lines_after : Option (List ℕ) → Option (List Record)
lines_after o = option_and_then lines_of o

unfoldable pub records_of : List ℕ → Option (List Record)
records_of l = lines_after (after_header l)
