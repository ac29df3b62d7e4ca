-- Flags, keys and ranks in a list that holds several tables, one behind the other. docs/RULES.md, 1.10: a flag is no where it is 0,
-- and what is asked of a row or a column out of range is no, or absent.
use Rattle.std.specs.Prelude.{ℕ, ◌+◌, ◌*◌, ◌≤◌, Bool, not, cond, ◌&&◌, List, get_or, eqb, ltb, ℤ, pos, Option, None, Some}

abbrev pub is_set : ℕ → Bool
is_set n = not (eqb n 0)

-- the flag of a row, in the table that starts at `from`
unfoldable pub row_flag : ℕ → ℕ → List ℕ → ℕ → Bool
row_flag rows from m r = ltb r rows && is_set (get_or m (from + r) 0)

-- the flag of a row and a column, in the table that starts at `from` and goes row by row
unfoldable pub cell_flag : ℕ → ℕ → ℕ → List ℕ → ℕ → ℕ → Bool
cell_flag rows columns from m r c =
    ltb r rows && (ltb c columns && is_set (get_or m (from + (r * columns + c)) 0))

-- the key of a row and a column: its flag stands among the marks, and the key, in the table that starts at `start`, among the keys
unfoldable pub cell_key : ℕ → ℕ → ℕ → ℕ → List ℕ → List ℕ → ℕ → ℕ → Option ℕ
cell_key rows columns from start m k r c =
    cond (cell_flag rows columns from m r c) (Some (get_or k (start + (r * columns + c)) 0)) None

-- the rank of a row, likewise
unfoldable pub row_rank : ℕ → ℕ → ℕ → List ℕ → List ℤ → ℕ → Option ℤ
row_rank rows from start m p r = cond (row_flag rows from m r) (Some (get_or p (start + r) (pos 0))) None

-- a table of rows times columns lies in a list of that size, and is small enough that an index is a number of the machine
pub record Grid (rows columns from size : ℕ) : Type 0 where
  pub few_rows : rows ≤ 128
  pub few_columns : columns ≤ 128
  pub near : from ≤ 65536
  pub within : from + rows * columns ≤ size
