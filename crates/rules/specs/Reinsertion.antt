-- The reinsertion test: may this row take this value, once a list is applied? docs/RULES.md, 5.
use Rattle.std.specs.Prelude.{ℕ, ◌≤◌, ◌<◌, ◌≡◌, Bool, true, not, ◌&&◌, ◌||◌, Some}
use mathlib.Core.List.{List, Memᴰ}
use Rattle.basics.specs.Tests.{all_below, distinct}
use Rattle.basics.specs.Edits.{Edit, rows_of}
use Rattle.rules.specs.Board.{Board, value_legal, places}
use Rattle.rules.specs.Roster.{Roster, after, holders}
use Rattle.rules.specs.Neighbours.{beside, beside_allowed}
use Rattle.rules.specs.FinalTest.{reads, key_at}

-- 5.3: the row, holding v, and every other row as the roster has it are an allowed pair, on either side
unfoldable pub beside_passes : Board → Roster → ℕ → ℕ → Bool
beside_passes B h r v = all_below B.rows (λ (o : ℕ). beside_allowed B o (h o) r v && beside_allowed B r v o (h o))

-- 5: the list reads, a required row left empty or not; then the named row and value alone are judged, as the roster is after the list
unfoldable pub reinserts : Board → Roster → List Edit → ℕ → ℕ → Bool
reinserts B h L r v = reads B L && (key_at B (after h L) r v && (not B.rule || beside_passes B (after h L) r v))

-- 5, said of each thing that is judged: what holds exactly where the test says yes
pub record Reinsertable (B : Board) (h : Roster) (L : List Edit) (r v : ℕ) : Type 0 where
  -- 5.1
  pub apart : distinct (rows_of L) ≡ true
  pub each : (e : Edit) → Memᴰ e L → (e.row < B.rows) × (value_legal B e.row e.value ≡ true)
  -- 5.2
  pub key : (k : ℕ) → B.capacity r v ≡ Some k → holders B (after h L) k ≤ places B k
  -- 5.3: each other row that stands right before the named one, and each that stands right behind it
  pub before : B.rule ≡ true → (o : ℕ) → o < B.rows → beside B o (after h L o) r v ≡ true → B.edge o r ≡ true
  pub behind : B.rule ≡ true → (o : ℕ) → o < B.rows → beside B r v o (after h L o) ≡ true → B.edge r o ≡ true
