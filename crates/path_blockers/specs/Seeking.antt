-- The least row with a property, and whom the search looks for among the blockers of a row. docs/RULES.md, 6.3.
use Rattle.std.specs.Prelude.{ℕ, ◌≤◌, ◌<◌, ◌≡◌, Bool, true, false, not, cond, ◌&&◌, ◌||◌, List, eqb, ltb, leb, Option, None, Some}
use Rattle.basics.specs.Tests.{all, all_below, all_of_below, among, is}
use Rattle.rules.specs.Board.{Board}
use Rattle.rules.specs.Roster.{Roster}
use Rattle.rules.specs.Neighbours.{beside}
use Rattle.assignment_tables.specs.declared.Shape.{Shape}
use Rattle.assignment_tables.specs.Tables.{board, capacity_at, sequence_at, edge_at, rule_of}
use Rattle.assignment_index.specs.Index.{roster_in}
use Rattle.search_rules.specs.Blockers.{shares, at_side, fits}

-- x is the least number from i on and below n that passes; n where there is none
pub record Least (p : ℕ → Bool) (i n x : ℕ) : Type 0 where
  pub upto : x ≤ n
  pub begun : x < n → i ≤ x
  pub here : x < n → p x ≡ true
  pub before : (y : ℕ) → i ≤ y → y < x → p y ≡ false

-- of a number and the best so far, the one that serves better
unfoldable pub nearer : (ℕ → Bool) → ℕ → ℕ → ℕ → ℕ
nearer p i x best = cond (p x && (leb i x && ltb x best)) x best

-- the search's list does not name o
abbrev pub unlisted : List ℕ → ℕ → Bool
unlisted rs o = not (among o rs)

-- whom the search looks for: the rows that its list does not name, all of them or the optional ones only
unfoldable pub is_sought : (ℕ → Bool) → List ℕ → Bool → ℕ → Bool
is_sought required rs optional o = not (optional && required o) && unlisted rs o

-- 6.3: the pairs that r, holding v, would form with those that are seen are allowed
unfoldable pub seen_allowed : Board → Roster → (ℕ → Bool) → ℕ → ℕ → Bool
seen_allowed B h seen r v = all_below B.rows (λ (o : ℕ). not (seen o) || fits B r v o (h o))

-- 6.3: o is picked and blocks r from v, those that are seen deciding whether the edge rule refuses
unfoldable pub blocks_seen : Board → Roster → (ℕ → Bool) → (ℕ → Bool) → ℕ → ℕ → ℕ → Bool
blocks_seen B h seen pick r v o =
    pick o && (not (eqb o r) && (shares (B.capacity r v) (B.capacity o (h o)) || ((B.rule && not (seen_allowed B h seen r v)) && at_side B r v o (h o))))

-- 2.4: the row stands at a sequence of v, if there is one
unfoldable pub standing_at : Shape → List ℕ → List ℕ → List ℕ → ℕ → Option ℕ → ℕ → Bool
standing_at S m k R v None r = false
standing_at S m k R v (Some s) r = eqb (roster_in S.rows R r) v && is s (sequence_at S m k r (roster_in S.rows R r))

-- ---- the same of lists of rows: the holders of r's key at v, and those that stand right below and right above it

-- the pairs that r would form with those at its sides that are seen are allowed
unfoldable pub sides_allow : Shape → List ℕ → (ℕ → Bool) → ℕ → List ℕ → List ℕ → Bool
sides_allow S m seen r below above = all (λ (o : ℕ). not (seen o) || edge_at S m o r) below && all (λ (o : ℕ). not (seen o) || edge_at S m r o) above

-- o is picked, and stands at a side of r
abbrev pub side_listed : (ℕ → Bool) → ℕ → List ℕ → List ℕ → ℕ → Bool
side_listed pick r below above o = (among o below || among o above) && (pick o && not (eqb o r))

-- 6.3: o is picked and blocks r, those that are seen deciding whether the edge rule refuses
unfoldable pub blocks_listed : Shape → List ℕ → (ℕ → Bool) → (ℕ → Bool) → ℕ → List ℕ → List ℕ → List ℕ → ℕ → Bool
blocks_listed S m seen pick r holders below above o =
    pick o && (not (eqb o r) && (among o holders || ((rule_of S && not (sides_allow S m seen r below above)) && (among o below || among o above))))

-- the lists are those of r and v in the index; without the edge rule those at the sides may be any
pub record Around (S : Shape) (m k R : List ℕ) (r v : ℕ) (holders below above : List ℕ) : Type 0 where
  pub holding : holders ≡ all_of_below S.rows (λ (o : ℕ). shares (capacity_at S m k r v) (capacity_at S m k o (roster_in S.rows R o)))
  pub before : rule_of S ≡ true → below ≡ all_of_below S.rows (λ (o : ℕ). beside (board S m k) o (roster_in S.rows R o) r v)
  pub behind : rule_of S ≡ true → above ≡ all_of_below S.rows (λ (o : ℕ). beside (board S m k) r v o (roster_in S.rows R o))
