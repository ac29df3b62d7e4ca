-- Columns of one length, one behind the other in a list. docs/RULES.md, 2.5: which column of the lent index is which.
use Rattle.std.specs.Prelude.{ℕ, ◌+◌, ◌*◌, ◌≤◌, ◌<◌, ◌≡◌, false, List, eqb, length, take, drop}
use Rattle.assignment_index.specs.declared.columns.Part.{Part}

-- the j-th column of n numbers
unfoldable pub column : ℕ → ℕ → List ℕ → List ℕ
column n j l = take n (drop (j * n) l)

-- `records`: five columns of a cell a row: value, capacity given, capacity, sequence given, sequence
abbrev pub value_column : ℕ → List ℕ → List ℕ
value_column n R = column n 0 R

abbrev pub records_length : ℕ → ℕ
records_length n = 5 * n

-- `members`: three columns of a count and a cell a row
abbrev pub members_length : ℕ → ℕ
members_length n = 3 * (n + 1)

-- the numbers of a part name columns, for n rows
pub record Named (n : ℕ) (P : Part) : Type 0 where
  pub few : n ≤ 128
  pub column_named : P.column < 3
  pub flags_named : P.flags < 5
  pub high_named : P.high < 5
  pub low_named : P.low < 5

-- the second list is the first one with ys for the j-th of its three columns
pub record Placed (n j : ℕ) (l l' ys : List ℕ) : Type 0 where
  pub long : length l' ≡ length l
  pub here : column n j l' ≡ ys
  pub rest : (i : ℕ) → eqb i j ≡ false → i < 3 → column n i l' ≡ column n i l
