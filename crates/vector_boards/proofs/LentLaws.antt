-- Tables read one behind the other; a cell of one table changed. Assumes nothing.
use Prim.Native.Nat.{ℕ, ◌%◌}
use mathlib.Core.Path.{◌≡◌}
use mathlib.Core.List.{List}
use lib.Dec.{eqb}
use lib.IntN.{ℤ}
use lib.ListN.{get_or, set}
use borrow.Author.Tests.{eq-eqb, ne_eqb}
use Rattle.vector_boards.specs.declared.Lent.{Lent}
use Rattle.vector_boards.specs.declared.tables.Filled.{Filled}
use Rattle.vector_words.specs.Words.{ahead}
use Rattle.vector_boards.specs.Tables.{behind_table, table_in, to_marks, to_ranks}
use Rattle.vector_boards.specs.Lent.{read_lent, next_table, third_table, marks_read, ranks_read, changed}

pub index_read : (words : List ℕ) (at : ℕ) (first second : Filled) (records₀ records members₀ members roster₀ roster : List ℕ)
    → (first ≡ behind_table words at) × (records ≡ table_in words at records₀)
    → (second ≡ behind_table words first.at) × (members ≡ table_in words first.at members₀)
    → roster ≡ table_in words second.at roster₀
    → (records ≡ table_in words at records₀) × (members ≡ table_in words (next_table words at) members₀) × (roster ≡ table_in words (third_table words at) roster₀)
unfolding next_table third_table
index_read words at first second records₀ records members₀ members roster₀ roster f s r =
    let g = f.0 in let h = s.0 in (f.1, rw g at s.1, rw (h, g) at r)

pub tables_read : (words : List ℕ) (at : ℕ) (marked keyed ranked : Filled) (room₀ room room₂ marks₀ marks keys₀ keys : List ℕ) (ranks₀ ranks : List ℤ)
    → (marked ≡ behind_table words at) × (room ≡ table_in words at room₀) → marks ≡ to_marks room marked.cells marks₀
    → (keyed ≡ behind_table words marked.at) × (keys ≡ table_in words marked.at keys₀)
    → (ranked ≡ behind_table words keyed.at) × (room₂ ≡ table_in words keyed.at room) → ranks ≡ to_ranks room₂ ranked.cells ranks₀
    → (ranked.at ≡ next_table words (third_table words at)) × (room₂ ≡ table_in words (third_table words at) (table_in words at room₀))
    × (marks ≡ marks_read words at room₀ marks₀) × (keys ≡ table_in words (next_table words at) keys₀)
    × (ranks ≡ ranks_read words (third_table words at) (table_in words at room₀) ranks₀)
unfolding next_table third_table marks_read ranks_read
tables_read words at marked keyed ranked room₀ room room₂ marks₀ marks keys₀ keys ranks₀ ranks f b s t h =
    let m = f.0 in let a = f.1 in let k = s.0 in let r = t.0 in let g = t.1 in
    (rw (r, k, m), rw (k, m, a) at g, rw (m, a) at b, rw m at s.1, rw (g, r, k, m, a) at h)

-- ---- the shape and the lengths

pub word_ahead : (words : List ℕ) (at n place word : ℕ) → place ≡ ahead at n → word ≡ get_or words place 0 → word ≡ get_or words (ahead at n) 0
word_ahead words at n place word e w = rw e at w

pub byte_ahead : (words : List ℕ) (at n place word byte : ℕ) → place ≡ ahead at n → word ≡ get_or words place 0 → byte ≡ word % 256 → byte ≡ get_or words (ahead at n) 0 % 256
byte_ahead words at n place word byte e w b = rw (w, e) at b

pub lent_read : (words : List ℕ) (at rows values rule marks keys ranks records members roster : ℕ) → rows ≡ get_or words at 0
    → values ≡ get_or words (ahead at 1) 0 → rule ≡ get_or words (ahead at 2) 0 % 256 → marks ≡ get_or words (ahead at 3) 0 → keys ≡ get_or words (ahead at 4) 0
    → ranks ≡ get_or words (ahead at 5) 0 → records ≡ get_or words (ahead at 6) 0 → members ≡ get_or words (ahead at 7) 0 → roster ≡ get_or words (ahead at 8) 0
    → ◌≡◌ {A = Lent} (record { rows = rows; values = values; edge_rule = rule; marks = marks; keys = keys; ranks = ranks; records = records; members = members; roster = roster }) (read_lent words at)
unfolding read_lent
lent_read words at rows values rule marks keys ranks records members roster a b c d e f g h i = rw (a, b, c, d, e, f, g, h, i)

-- ---- a cell of the table that is meant, which is x, and of another

module _ {A : Type 0} (x k : ℕ) (cells : List A) (at : ℕ) (cell : A) where
  pub this-changed : x ≡ k → (after : List A) → after ≡ set cells at cell → after ≡ changed (eqb x k) cells at cell
  unfolding changed
  this-changed e after s = rw (eq-eqb x k e) s

  pub other_kept : (x ≡ k → ⊥) → cells ≡ changed (eqb x k) cells at cell
  unfolding changed
  other_kept f = rw (ne_eqb x k f)
