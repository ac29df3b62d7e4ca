-- The search's list in the front of two lent slices.
use Rattle.std.specs.Prelude.{ℕ, ◌≤◌, ◌≡◌, List, length, take}
use Rattle.basics.specs.Edits.{Edit, edits}

-- the first n edits
abbrev pub front : ℕ → List ℕ → List ℕ → List Edit
front n rs vs = edits (take n rs) (take n vs)

-- the list L stands in the first n cells of rs' and vs', and of what stood in rs and vs the first `kept` cells are as they were
pub record Standing (kept : ℕ) (rs vs rs' vs' : List ℕ) (n : ℕ) (L : List Edit) : Type 0 where
  pub list : front n rs' vs' ≡ L
  pub count : n ≡ length L
  pub longer : kept ≤ n
  pub rows_kept : take kept rs' ≡ take kept rs
  pub values_kept : take kept vs' ≡ take kept vs
