-- Where each table starts in its slice, and how long each slice is: each table stands right behind the one before it.
-- docs/RULES.md, 1.9. Nothing else in the project says these numbers.
use Rattle.std.specs.Prelude.{ℕ, ◌+◌, ◌*◌, ◌≤◌, ◌≡◌, List, length}
use Rattle.assignment_tables.specs.declared.Shape.{Shape}

-- the sizes of a table of rows and values, and of one of ordered pairs of rows
abbrev pub cell_count : Shape → ℕ
cell_count S = S.rows * S.values

abbrev pub pair_count : Shape → ℕ
pair_count S = S.rows * S.rows

-- `marks`
abbrev pub required_start : Shape → ℕ
required_start S = 0

abbrev pub may_empty_start : Shape → ℕ
may_empty_start S = required_start S + S.rows

abbrev pub position_given_start : Shape → ℕ
position_given_start S = may_empty_start S + S.rows

abbrev pub order_given_start : Shape → ℕ
order_given_start S = position_given_start S + S.rows

abbrev pub counts_start : Shape → ℕ
counts_start S = order_given_start S + S.rows

abbrev pub candidates_start : Shape → ℕ
candidates_start S = counts_start S + S.rows

abbrev pub legal_start : Shape → ℕ
legal_start S = candidates_start S + S.rows * 64

abbrev pub capacity_given_start : Shape → ℕ
capacity_given_start S = legal_start S + cell_count S

abbrev pub sequence_given_start : Shape → ℕ
sequence_given_start S = capacity_given_start S + cell_count S

abbrev pub edges_start : Shape → ℕ
edges_start S = sequence_given_start S + cell_count S

abbrev pub marks_length : Shape → ℕ
marks_length S = edges_start S + pair_count S

-- `keys`
abbrev pub capacity_start : Shape → ℕ
capacity_start S = 0

abbrev pub sequence_start : Shape → ℕ
sequence_start S = capacity_start S + cell_count S

abbrev pub keys_length : Shape → ℕ
keys_length S = sequence_start S + cell_count S

-- `ranks`
abbrev pub position_start : Shape → ℕ
position_start S = 0

abbrev pub order_start : Shape → ℕ
order_start S = position_start S + S.rows

abbrev pub ranks_length : Shape → ℕ
ranks_length S = order_start S + S.rows

-- the shape is within 1.1's bounds; the bounds on products follow, and stand here so that sums of them are seen to fit
pub record Small (S : Shape) : Type 0 where
  pub few_rows : S.rows ≤ 128
  pub few_values : S.values ≤ 64
  pub few_cells : cell_count S ≤ 8192
  pub few_pairs : pair_count S ≤ 16384

-- the marks have the length that the shape asks
pub record Marked (S : Shape) (m : List ℕ) : Type 0 where
  pub small : Small S
  pub marks_long : length m ≡ marks_length S
