-- What is lent: read from words, or changed in a cell.
use Rattle.std.specs.Prelude.{ℕ, ◌%◌, Bool, cond, List, ℤ, get_or, set}
use Rattle.vector_boards.specs.declared.Lent.{Lent}
use Rattle.vector_words.specs.Words.{ahead}
use Rattle.vector_boards.specs.Tables.{behind_table, table_in, to_marks, to_ranks}

-- before the first board
abbrev pub nothing : Lent
nothing = record { rows = 0; values = 0; edge_rule = 0; marks = 0; keys = 0; ranks = 0; records = 0; members = 0; roster = 0 }

-- the shape and the lengths, one word each
unfoldable pub read_lent : List ℕ → ℕ → Lent
read_lent words at = record {
  rows = get_or words at 0;
  values = get_or words (ahead at 1) 0;
  edge_rule = get_or words (ahead at 2) 0 % 256;
  marks = get_or words (ahead at 3) 0;
  keys = get_or words (ahead at 4) 0;
  ranks = get_or words (ahead at 5) 0;
  records = get_or words (ahead at 6) 0;
  members = get_or words (ahead at 7) 0;
  roster = get_or words (ahead at 8) 0;
}

-- where the table behind the one at a place begins, and the one behind that
unfoldable pub next_table : List ℕ → ℕ → ℕ
next_table words at = (behind_table words at).at

unfoldable pub third_table : List ℕ → ℕ → ℕ
third_table words at = next_table words (next_table words at)

-- a table that becomes marks or ranks is read into the room first
unfoldable pub marks_read : List ℕ → ℕ → List ℕ → List ℕ → List ℕ
marks_read words at room marks = to_marks (table_in words at room) (behind_table words at).cells marks

unfoldable pub ranks_read : List ℕ → ℕ → List ℕ → List ℤ → List ℤ
ranks_read words at room ranks = to_ranks (table_in words at room) (behind_table words at).cells ranks

-- a cell of this table, or of another one
unfoldable pub changed : {A : Type 0} → Bool → List A → ℕ → A → List A
changed this cells at cell = let after = set cells at cell in cond this after cells
