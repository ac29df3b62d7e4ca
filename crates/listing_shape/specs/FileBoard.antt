-- The board and the roster that records make. docs/RULES.md, 12.2 and 12.3.
use Rattle.std.specs.Prelude.{ℕ, zero, suc, ◌+◌, max, Bool, false, cond, ◌&&◌, List, [], eqb, length, Option, None, Some, is_some, option_and_then}
use Rattle.rules.specs.Board.{Board, empty}
use Rattle.rules.specs.Roster.{Roster}
use Rattle.rules.specs.Ranks.{Ranks}
use Rattle.listing_format.specs.Format.{Record, record_at}

-- 12.3: one more than the largest of n numbers; none: 0
unfoldable pub count_over : ℕ → (ℕ → ℕ) → ℕ
count_over zero f = 0
count_over (suc n) f = max (count_over n f) (f n + 1)

-- the last number below n that passes
unfoldable pub last_below : ℕ → (ℕ → Bool) → Option ℕ
last_below zero p = None
last_below (suc n) p = let before = last_below n p in cond (p n) (Some n) before

-- ---- n records, of which no two name one row and value (12.2), so that the last that does is the only one

abbrev pub names : (ℕ → Record) → ℕ → ℕ → ℕ → Bool
names at r v i = eqb (at i).row r && eqb (at i).value v

abbrev pub holds : (ℕ → Record) → ℕ → ℕ → Bool
holds at r i = eqb (at i).row r && eqb (at i).now 1

abbrev pub value_there : (ℕ → ℕ) → Option ℕ → ℕ
value_there f None = empty
value_there f (Some i) = f i

-- 12.2, 12.3: a record makes its row and value legal, with its keys; everything else is no or absent
abbrev pub file_board : ℕ → (ℕ → Record) → Board
file_board n at = record {
  rows = count_over n (λ (i : ℕ). (at i).row);
  values = count_over n (λ (i : ℕ). (at i).value);
  required = λ (r : ℕ). false;
  may_empty = λ (r : ℕ). false;
  candidates = λ (r : ℕ). [];
  legal = λ (r v : ℕ). is_some (last_below n (names at r v));
  capacity = λ (r v : ℕ). option_and_then (λ (i : ℕ). (at i).capacity) (last_below n (names at r v));
  sequence = λ (r v : ℕ). option_and_then (λ (i : ℕ). (at i).sequence) (last_below n (names at r v));
  rule = false;
  edge = λ (a b : ℕ). false;
}

-- 12.2: no row of a file has a rank
abbrev pub file_ranks : Ranks
file_ranks = record { position = λ (r : ℕ). None; order = λ (r : ℕ). None }

-- 12.2: a row holds the value beside which it says 1
abbrev pub file_roster : ℕ → (ℕ → Record) → Roster
file_roster n at r = value_there (λ (i : ℕ). (at i).value) (last_below n (holds at r))

-- 12.2, 12.3: the board and the roster of a file's records
abbrev pub board_of : List Record → Board
board_of rs = file_board (length rs) (record_at rs)

abbrev pub roster_from : List Record → Roster
roster_from rs = file_roster (length rs) (record_at rs)
