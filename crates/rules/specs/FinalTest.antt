-- The final test of an edit list. docs/RULES.md, 3.
use Rattle.std.specs.Prelude.{ℕ, Bool, true, not, ◌&&◌, ◌||◌, List, eqb, ltb, leb, Option, None, Some}
use Rattle.basics.specs.Tests.{all, all_below, distinct}
use Rattle.basics.specs.Edits.{Edit, rows_of}
use Rattle.rules.specs.Board.{Board, empty, value_legal, places}
use Rattle.rules.specs.Roster.{Roster, after, holders, stands}
use Rattle.rules.specs.Neighbours.{pair_allowed}

-- 3.2: the list reads: its rows are distinct and in range, and its values legal
unfoldable pub edit_reads : Board → Edit → Bool
edit_reads B e = ltb e.row B.rows && value_legal B e.row e.value

unfoldable pub reads : Board → List Edit → Bool
reads B L = distinct (rows_of L) && all (edit_reads B) L

-- 3.3: the row may become what the edit makes it: no required row is set to empty, not even one that is empty already.
-- (The roster is named because later rules on what may change will read it.)
unfoldable pub may_become : Board → Roster → Edit → Bool
may_become B h e = not (eqb e.value empty && B.required e.row)

-- 3.4: a key, if there is one, has no more holders than places
unfoldable pub key_passes : Board → Roster → Option ℕ → Bool
key_passes B h None = true
key_passes B h (Some k) = leb (holders B h k) (places B k)

-- 3.8: around a place, if it is one, every two neighbours of which one stands there are an allowed pair
unfoldable pub place_passes : Board → Roster → ℕ → Option ℕ → Bool
place_passes B h v None = true
place_passes B h v (Some s) =
    all_below B.rows
    (λ (l : ℕ). all_below B.rows
    (λ (r : ℕ). not (stands B h v s l || stands B h v s r) || pair_allowed B h l r))

-- in the roster h, what the row r touches by holding v passes: its key, and under the edge rule its place
unfoldable pub key_at : Board → Roster → ℕ → ℕ → Bool
key_at B h r v = key_passes B h (B.capacity r v)

unfoldable pub place_at : Board → Roster → ℕ → ℕ → Bool
place_at B h r v = not B.rule || place_passes B h v (B.sequence r v)

-- a test of holdings passes at the old holding of every edit, in h, and at the new one, also where the two are the same
unfoldable pub at_edits : (ℕ → ℕ → Bool) → Roster → List Edit → Bool
at_edits t h L = all (λ (e : Edit). t e.row (h e.row) && t e.row e.value) L

-- 3.4: each touched key has no more holders than places afterwards
unfoldable pub capacity_passes : Board → Roster → List Edit → Bool
capacity_passes B h L = at_edits (key_at B (after h L)) h L

-- 3.8: under the edge rule, the pairs around each touched place are allowed afterwards
unfoldable pub edges_pass : Board → Roster → List Edit → Bool
edges_pass B h L = at_edits (place_at B (after h L)) h L

-- 3: the final test
unfoldable pub passes : Board → Roster → List Edit → Bool
passes B h L = reads B L && (all (may_become B h) L && (capacity_passes B h L && edges_pass B h L))
