-- Which bytes are a roster file, and of which records. docs/RULES.md, 12.1 and 12.2.
use Rattle.std.specs.Prelude.{ℕ, ◌≤◌, ◌≡◌, ◌⊎◌, Bool, true, not, ◌&&◌, ◌||◌, List, [], ◌∷◌, ◌++◌, eqb, leb, ltb, length, get_or, Option, None, Some}
use Rattle.basics.specs.Tests.{all, all_below}
use Rattle.decimals.specs.Decimals.{digits}

-- 12.2: a row and a value that is legal for it, whether the row holds it, and the keys
pub record Record : Type 0 where
  pub row : ℕ
  pub value : ℕ
  pub now : ℕ
  pub capacity : Option ℕ
  pub sequence : Option ℕ

-- ---- the text

abbrev pub comma : ℕ
comma = 44

-- a carriage return and a line feed
abbrev pub line_end : List ℕ
line_end = 13 ∷ 10 ∷ []

-- row,value,now,capacity,sequence
unfoldable pub header : List ℕ
header =
    114 ∷ 111 ∷ 119 ∷ 44 ∷ 118 ∷ 97 ∷ 108 ∷ 117 ∷ 101 ∷ 44 ∷ 110 ∷ 111 ∷ 119 ∷ 44
    ∷ 99 ∷ 97 ∷ 112 ∷ 97 ∷ 99 ∷ 105 ∷ 116 ∷ 121 ∷ 44 ∷ 115 ∷ 101 ∷ 113 ∷ 117 ∷ 101 ∷ 110 ∷ 99 ∷ 101 ∷ []

-- 12.1: a key that is absent is blank
unfoldable pub key : Option ℕ → List ℕ
key None = []
key (Some n) = digits n

-- 12.1: a record's five fields
unfoldable pub fields : Record → List ℕ
fields r =
    digits r.row ++ (comma ∷ (digits r.value ++ (comma ∷ (digits r.now ++ (comma ∷ (key r.capacity ++ (comma ∷ key r.sequence)))))))

-- 12.1: a line for each record
unfoldable pub lines : List Record → List ℕ
lines [] = []
lines (r ∷ rs) = fields r ++ line_end ++ lines rs

-- 12.1: the header and the records
unfoldable pub render : List Record → List ℕ
render rs = header ++ line_end ++ lines rs

-- 12.1: the last line end is optional
abbrev pub Renders : List ℕ → List Record → Type 0
Renders input rs = (input ≡ render rs) ⊎ (input ++ line_end ≡ render rs)

-- ---- the rules

-- 12.1: a number below 2^64
abbrev pub small : ℕ → Bool
small n = ltb n 18446744073709551616

abbrev pub small_key : Option ℕ → Bool
small_key None = true
small_key (Some n) = small n

unfoldable pub small_record : Record → Bool
small_record r = small r.row && (small r.value && (small r.now && (small_key r.capacity && small_key r.sequence)))

-- 12.2: two records of one row that name the same value, or both say that the row holds theirs
unfoldable pub clash : Record → Record → Bool
clash a b = eqb a.row b.row && (eqb a.value b.value || (eqb a.now 1 && eqb b.now 1))

-- the record at a place; past the end it does not matter which
abbrev pub record_at : List Record → ℕ → Record
record_at rs i = get_or rs i (record { row = 0; value = 0; now = 0; capacity = None; sequence = None })

-- 12.2: a record says 0 or 1, and clashes with none before it
unfoldable pub stands : (ℕ → Record) → ℕ → Bool
stands at j = leb (at j).now 1 && all_below j (λ (i : ℕ). not (clash (at i) (at j)))

unfoldable pub agree : List Record → Bool
agree rs = all_below (length rs) (stands (record_at rs))

-- 12.1, 12.2: the input is a roster file of these records
pub record Accepted (input : List ℕ) (rs : List Record) : Type 0 where
  pub short : length input ≤ 65536
  pub text : Renders input rs
  pub numbers : all small_record rs ≡ true
  pub agreed : agree rs ≡ true
