-- The board and the ranks that the lent tables make, in this one place: what each hook says of a shape, the marks, the keys and the
-- ranks.
-- docs/RULES.md, 1.
use Rattle.std.specs.Prelude.{ℕ, ◌+◌, ◌*◌, min, Bool, cond, List, [], get_or, take, drop, ltb, ℤ, Option, None, Some}
use Rattle.rules.specs.Board.{Board}
use Rattle.rules.specs.Ranks.{Ranks}
use Rattle.assignment_tables.specs.declared.Shape.{Shape}
use Rattle.assignment_tables.specs.declared.Tables.{Tables}
use Rattle.assignment_tables.specs.Layout.{required_start, may_empty_start, position_given_start, order_given_start, counts_start, candidates_start, legal_start, capacity_given_start, sequence_given_start, edges_start, capacity_start, sequence_start, position_start, order_start}
use Rattle.assignment_tables.specs.Cells.{is_set, row_flag, cell_flag, cell_key, row_rank}

-- 1.2
abbrev pub required_at : Shape → List ℕ → ℕ → Bool
required_at S m = row_flag S.rows (required_start S) m

abbrev pub may_empty_at : Shape → List ℕ → ℕ → Bool
may_empty_at S m = row_flag S.rows (may_empty_start S) m

-- 1.3
abbrev pub position_at : Shape → List ℕ → List ℤ → ℕ → Option ℤ
position_at S m p = row_rank S.rows (position_given_start S) (position_start S) m p

abbrev pub order_at : Shape → List ℕ → List ℤ → ℕ → Option ℤ
order_at S m p = row_rank S.rows (order_given_start S) (order_start S) m p

-- 1.4
abbrev pub count_at : Shape → List ℕ → ℕ → ℕ
count_at S m r = get_or m (counts_start S + r) 0

unfoldable pub candidates_at : Shape → List ℕ → ℕ → List ℕ
candidates_at S m r = cond (ltb r S.rows) (take (count_at S m r) (drop (candidates_start S + r * 64) m)) []

-- 1.5
abbrev pub legal_at : Shape → List ℕ → ℕ → ℕ → Bool
legal_at S m = cell_flag S.rows S.values (legal_start S) m

-- 1.6
abbrev pub capacity_at : Shape → List ℕ → List ℕ → ℕ → ℕ → Option ℕ
capacity_at S m k = cell_key S.rows S.values (capacity_given_start S) (capacity_start S) m k

abbrev pub sequence_at : Shape → List ℕ → List ℕ → ℕ → ℕ → Option ℕ
sequence_at S m k = cell_key S.rows S.values (sequence_given_start S) (sequence_start S) m k

-- 1.7
abbrev pub rule_of : Shape → Bool
rule_of S = is_set S.edge_rule

abbrev pub edge_at : Shape → List ℕ → ℕ → ℕ → Bool
edge_at S m = cell_flag S.rows S.rows (edges_start S) m

abbrev pub board : Shape → List ℕ → List ℕ → Board
board S m k = record {
  rows = S.rows;
  values = S.values;
  required = required_at S m;
  may_empty = may_empty_at S m;
  candidates = candidates_at S m;
  legal = legal_at S m;
  capacity = capacity_at S m k;
  sequence = sequence_at S m k;
  rule = rule_of S;
  edge = edge_at S m;
}

-- 1.3
abbrev pub ranks_of : Shape → List ℕ → List ℤ → Ranks
ranks_of S m p = record { position = position_at S m p; order = order_at S m p }

-- what a definition over a shape and slices comes to for the tables that are lent: the marks and the keys
abbrev pub of_tables {ℓ} : {A : Type ℓ} → (Shape → List ℕ → List ℕ → A) → Tables → A
of_tables f t = f t.shape t.marks.now t.keys.now

-- and the ranks
abbrev pub of_ranked {ℓ} : {A : Type ℓ} → (Shape → List ℕ → List ℕ → List ℤ → A) → Tables → A
of_ranked f t = f t.shape t.marks.now t.keys.now t.ranks.now

-- the board and the ranks that the tables are
abbrev pub the_board : Tables → Board
the_board = of_tables board

abbrev pub the_ranks : Tables → Ranks
the_ranks t = ranks_of t.shape t.marks.now t.ranks.now

-- 1.4: how many of a number of candidates a limit leaves
abbrev pub offered : Option ℕ → ℕ → ℕ
offered None n = n
offered (Some l) n = min l n
