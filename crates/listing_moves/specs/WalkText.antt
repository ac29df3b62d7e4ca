-- The moves from a cursor on, the room that their lines need, and moves that stand one behind the other. docs/RULES.md, 8.5, 8.8 and 12.4.
use Rattle.std.specs.Prelude.{ℕ, ◌+◌, ◌≤◌, ◌<◌, ◌≡◌, true, List, [], ◌∷◌, length, take, drop}
use Rattle.basics.specs.Edits.{Edit, edits}
use Rattle.rules.specs.Board.{Board, value_legal}
use Rattle.rules.specs.Roster.{Roster}
use Rattle.window_kinds.specs.declared.CycleWindowCursor.{CycleWindowCursor}
use Rattle.window_kinds.specs.Kinds.{rematching, ahead, moves_of}
use Rattle.assignment_cycle.specs.Windows.{move_at}
use Rattle.listing_text.specs.Output.{moves_from}

-- 8.5: the move of each variant ahead that is one, in order
abbrev pub moves_ahead : Board → Roster → List ℕ → CycleWindowCursor → List (List Edit)
moves_ahead B h order c = moves_of (move_at B h order) (ahead rematching (length order) c)

-- the sum of numbers
unfoldable pub total : List ℕ → ℕ
total [] = 0
total (n ∷ N) = n + total N

-- 8.8: lists that stand one behind the other, each with its number of edits
unfoldable pub cut : List ℕ → List ℕ → List ℕ → List (List Edit)
cut [] rs vs = []
cut (n ∷ N) rs vs = edits (take n rs) (take n vs) ∷ cut N (drop n rs) (drop n vs)

-- both slices have them all
pub record Laid (N rs vs : List ℕ) : Type 0 where
  pub rows : total N ≤ length rs
  pub values : total N ≤ length vs

-- room for 128 edits, and as many moves
pub record Wide (rs vs N : List ℕ) : Type 0 where
  pub rows : length rs ≡ 128
  pub values : length vs ≡ 128
  pub lengths : length N ≡ 128

-- their lines have room from a place on
pub record Room (moves : List (List Edit)) (from : ℕ) (out : List ℕ) : Type 0 where
  pub few : length moves ≤ 65536
  pub lines : from + length (moves_from 1 moves) ≤ length out

-- what is legal has a row and a value of three digits at most
pub record Bounded (B : Board) : Type 0 where
  pub small : (r v : ℕ) → value_legal B r v ≡ true → (r < 1000) × (v < 1000)
