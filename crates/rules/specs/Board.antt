-- What the tests and the search ask about duties (rows) and drivers (values): the hooks, as functions. What only the two orders of rows
-- ask is in Ranks. docs/RULES.md, 1.
use Rattle.std.specs.Prelude.{ℕ, ◌^◌, ◌-◌, Bool, cond, List, take, eqb, Option, None, Some}

pub record Board : Type 0 where
  -- 1.1: how many rows and values there are
  pub rows : ℕ
  pub values : ℕ
  -- 1.2: flags of a row
  pub required : ℕ → Bool
  pub may_empty : ℕ → Bool
  -- 1.4: a row's candidates, in order
  pub candidates : ℕ → List ℕ
  -- 1.5, 1.6: of a row and a value
  pub legal : ℕ → ℕ → Bool
  pub capacity : ℕ → ℕ → Option ℕ
  pub sequence : ℕ → ℕ → Option ℕ
  -- 1.7: whether the edge rule is in force, and which ordered pairs of rows it allows
  pub rule : Bool
  pub edge : ℕ → ℕ → Bool

-- 1.8: what stands for "no value"
abbrev pub empty : ℕ
empty = 2 ^ 64 - 1

-- 1.4: the candidates that a limit leaves: all where there is none, else the first n
unfoldable pub limited : Option ℕ → List ℕ → List ℕ
limited None xs = xs
limited (Some n) xs = take n xs

-- 1.5: a value, `empty` included, is legal for a row
unfoldable pub legal_or_empty : (ℕ → Bool) → (ℕ → ℕ → Bool) → ℕ → ℕ → Bool
legal_or_empty may_empty legal r v = cond (eqb v empty) (may_empty r) (legal r v)

abbrev pub value_legal : Board → ℕ → ℕ → Bool
value_legal B = legal_or_empty B.may_empty B.legal

-- 3.4: how many rows may hold a key
unfoldable pub places : Board → ℕ → ℕ
places B k = 1
