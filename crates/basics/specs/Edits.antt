-- An edit list, and how two lent slices of one length are read as one: the i-th row gets the i-th value.
use Rattle.std.specs.Prelude.{ℕ, ◌≡◌, Bool, true, not, List, [], ◌∷◌, map, length, get_or, eqb, ltb}
use Rattle.basics.specs.Tests.{all, all_below, distinct}

pub record Edit : Type 0 where
  pub row : ℕ
  pub value : ℕ

unfoldable pub rows_of : List Edit → List ℕ
rows_of [] = []
rows_of (e ∷ L) = e.row ∷ rows_of L

abbrev pub values_of : List Edit → List ℕ
values_of L = map (λ (e : Edit). e.value) L

-- the list that a slice of rows and a slice of values are
unfoldable pub edits : List ℕ → List ℕ → List Edit
edits [] vs = []
edits (r ∷ rs) [] = []
edits (r ∷ rs) (v ∷ vs) = record { row = r; value = v } ∷ edits rs vs

-- the edit at a place of the two slices
abbrev pub edit_at : List ℕ → List ℕ → ℕ → Edit
edit_at rs vs i = record { row = get_or rs i 0; value = get_or vs i 0 }

-- the i-th number stands at no place before
unfoldable pub fresh : List ℕ → ℕ → Bool
fresh xs i = all_below i (λ (j : ℕ). not (eqb (get_or xs j 0) (get_or xs i 0)))

-- every listed row is a row, of n
abbrev pub all_rows : ℕ → List ℕ → Bool
all_rows n rs = all (λ (r : ℕ). ltb r n) rs

-- the listed rows are rows, none is listed twice, and there are as many values
pub record Listed (n : ℕ) (rs vs : List ℕ) : Type 0 where
  pub in_range : all_rows n rs ≡ true
  pub once : distinct rs ≡ true
  pub as_many : length rs ≡ length vs
