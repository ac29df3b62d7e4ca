-- What a list that is given back leaves in a lent slice. docs/RULES.md, 11.13.
use Rattle.std.specs.Prelude.{ℕ, ◌≡◌, List, ◌++◌, length, drop, replicate}
use Rattle.basics.specs.Edits.{Edit, rows_of, values_of}

-- 11.13: a slice whose front is xs, and whose rest is as it was
abbrev pub fronted : List ℕ → List ℕ → List ℕ
fronted xs s = xs ++ drop (length xs) s

-- cells to work in, all with one number: as many as a list may need
unfoldable pub cells : ℕ → List ℕ
cells x = replicate 128 x

-- 11.13: an edit list's rows and values stand in the fronts of two slices, whose rests are as they were; n is its length
pub record InFront (L : List Edit) (rs vs rs' vs' : List ℕ) (n : ℕ) : Type 0 where
  pub number : n ≡ length L
  pub rows : rs' ≡ fronted (rows_of L) rs
  pub values : vs' ≡ fronted (values_of L) vs
