-- A sound roster, and a proper list. docs/RULES.md, 4.
use Rattle.std.specs.Prelude.{ℕ, ◌≤◌, ◌<◌, ◌≡◌, Bool, true, ◌&&◌, ◌||◌, eqb}
use mathlib.Core.List.{List, Memᴰ}
use Rattle.basics.specs.Tests.{all_below, distinct}
use Rattle.basics.specs.Edits.{Edit, rows_of}
use Rattle.rules.specs.Board.{Board, empty, value_legal, places}
use Rattle.rules.specs.Roster.{Roster, holders}
use Rattle.rules.specs.Neighbours.{neighbours}
use Rattle.rules.specs.FinalTest.{key_at, place_at}

-- 4.1: no key has more holders than places and, under the edge rule, every two neighbours are allowed
pub record Clear (B : Board) (h : Roster) : Type 0 where
  pub keys : (k : ℕ) → holders B h k ≤ places B k
  pub edges : B.rule ≡ true → (l r : ℕ) → l < B.rows → r < B.rows → neighbours B h l r ≡ true → B.edge l r ≡ true

-- 4.1: clear, and every held value is legal for its row; a row that is empty holds none, whether it may be empty or not
pub record Sound (B : Board) (h : Roster) : Type 0 where
  pub clear : Clear B h
  pub holdings : (r : ℕ) → r < B.rows → (h r ≡ empty → ⊥) → B.legal r (h r) ≡ true

-- 4.1: what the row holds, if it holds a value, is legal for it
unfoldable pub held_legal : Board → Roster → ℕ → Bool
held_legal B h r = eqb (h r) empty || B.legal r (h r)

-- 4.1 as a test of one row: what it touches by its own holding passes, and that holding is legal
abbrev pub clear_at : Board → Roster → ℕ → Bool
clear_at B h r = key_at B h r (h r) && place_at B h r (h r)

abbrev pub sound_at : Board → Roster → ℕ → Bool
sound_at B h r = held_legal B h r && clear_at B h r

-- 4.1 as a test: of every row
unfoldable pub sound_test : Board → Roster → Bool
sound_test B h = all_below B.rows (sound_at B h)

-- 4.2: one edit: its row in range, its value, empty included, legal, and no required row set to empty
pub record Fit (B : Board) (h : Roster) (e : Edit) : Type 0 where
  pub within : e.row < B.rows
  pub legal : value_legal B e.row e.value ≡ true
  pub required : B.required e.row ≡ true → e.value ≡ empty → ⊥

-- 4.2: a list: distinct rows, and each edit fits
pub record Proper (B : Board) (h : Roster) (L : List Edit) : Type 0 where
  pub apart : distinct (rows_of L) ≡ true
  pub each : (e : Edit) → Memᴰ e L → Fit B h e
