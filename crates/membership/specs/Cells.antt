-- A membership as the caller lends it: the number of members, then their rows in the order of their keys and then of the rows, then zeros.
use Rattle.std.specs.Prelude.{ℕ, ◌+◌, ◌-◌, ◌<◌, ◌≡◌, Bool, true, cond, ◌&&◌, List, [], ◌∷◌, ◌++◌, map, ltb, eqb, length, get_or, take, drop, replicate}
use Rattle.basics.specs.Sorting.{rising}
use Rattle.sorted_cells.specs.Codes.{code, row_of}

-- the code of the row r, its key read from the tables hs and ls
abbrev pub code_at : List ℕ → List ℕ → ℕ → ℕ
code_at hs ls r = code (get_or hs r 0) (get_or ls r 0) r

-- the membership of the codes cs, in n cells behind the count
unfoldable pub cells : ℕ → List ℕ → List ℕ
cells n cs = length cs ∷ (map row_of cs ++ replicate (n - length cs) 0)

-- the rows of a lent membership
abbrev pub rows_in : List ℕ → List ℕ
rows_in m = take (get_or m 0 0) (drop 1 m)

-- their codes
abbrev pub codes_in : List ℕ → List ℕ → List ℕ → List ℕ
codes_in hs ls m = map (code_at hs ls) (rows_in m)

-- m is a membership of rows of the tables hs and ls
pub record Membership (hs ls m : List ℕ) : Type 0 where
  pub form : m ≡ cells (length m - 1) (codes_in hs ls m)
  pub count : get_or m 0 0 < length m
  pub tables : length ls ≡ length hs
  pub small : length hs < 129
  pub rows : (k : ℕ) → k < get_or m 0 0 → get_or m (k + 1) 0 < length hs
  pub order : rising ltb (codes_in hs ls m) ≡ true

-- the list without the first c in it
unfoldable pub remove : ℕ → List ℕ → List ℕ
remove c [] = []
remove c (x ∷ xs) = cond (eqb x c) xs (x ∷ remove c xs)

-- the row r has the key (h, l)
abbrev pub has_key : List ℕ → List ℕ → ℕ → ℕ → ℕ → Bool
has_key hs ls h l r = eqb (get_or hs r 0) h && eqb (get_or ls r 0) l

-- those of the rows that have the key (h, l)
unfoldable pub rows_under : List ℕ → List ℕ → ℕ → ℕ → List ℕ → List ℕ
rows_under hs ls h l [] = []
rows_under hs ls h l (r ∷ rs) = cond (has_key hs ls h l r) (r ∷ rows_under hs ls h l rs) (rows_under hs ls h l rs)
