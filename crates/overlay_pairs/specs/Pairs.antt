-- Who stands at a place after a list, and the tests of the pairs that a row, or every row there, forms with those at another. docs/RULES.md, 3.5 to 3.8 and 5.3.
use Rattle.std.specs.Prelude.{ℕ, ◌<◌, ◌≡◌, Bool, true, not, cond, ◌&&◌, ◌||◌, List, length, get_or, eqb, Option, None, Some}
use Rattle.std.specs.Borrow.{Bor}
use denote.Triple.Both.{Both}
use Rattle.basics.specs.Lent.{was}
use Rattle.basics.specs.Tests.{all_below, among, is}
use Rattle.basics.specs.Edits.{edits}
use Rattle.rules.specs.Roster.{Roster, after}
use Rattle.judged_pairs.specs.Judged.{is_judged}
use Rattle.membership.specs.Canonical.{key_rows}
use Rattle.assignment_tables.specs.declared.Shape.{Shape}
use Rattle.assignment_tables.specs.declared.Tables.{Tables}
use Rattle.assignment_index.specs.declared.Index.{Index}
use Rattle.assignment_tables.specs.Tables.{sequence_at, edge_at}
use Rattle.assignment_index.specs.Columns.{column}
use Rattle.assignment_index.specs.Index.{roster_in, start_of, by_sequence}

-- the row r, holding w, stands at the place of v and s
unfoldable pub has_place : (ℕ → ℕ → Option ℕ) → ℕ → ℕ → ℕ → ℕ → Bool
has_place sequence v s r w = eqb w v && is s (sequence r w)

-- every row that stands at the place passes
unfoldable pub all_at : ℕ → (ℕ → ℕ → Option ℕ) → Roster → ℕ → ℕ → (ℕ → Bool) → Bool
all_at n sequence h v s q = all_below n (λ (r : ℕ). not (has_place sequence v s r (h r)) || q r)

-- the rows that records have at the place
abbrev pub rows_at : Shape → List ℕ → ℕ → ℕ → List ℕ
rows_at S R v s = key_rows 0 (column S.rows 3 R) (column S.rows 0 R) (column S.rows 4 R) v s S.rows

-- how many members by value and sequence stand before those at the place
abbrev pub start_at : Shape → List ℕ → List ℕ → ℕ → ℕ → ℕ
start_at S R M v s = start_of S.rows by_sequence R M v s

-- of those that a slice lists, the i-th one is an edited row, or passes
abbrev pub stayer_passes : List ℕ → List ℕ → (ℕ → Bool) → ℕ → Bool
stayer_passes rs others q i = among (get_or others i 0) rs || q (get_or others i 0)

-- the i-th edit puts its row elsewhere, or the row passes
abbrev pub arrival_passes : (ℕ → ℕ → Option ℕ) → List ℕ → List ℕ → ℕ → ℕ → (ℕ → Bool) → ℕ → Bool
arrival_passes sequence rs vs v s q i = not (has_place sequence v s (get_or rs i 0) (get_or vs i 0)) || q (get_or rs i 0)

-- a row and another one on its right, or on its left, are an allowed pair
unfoldable pub pair_passes : (ℕ → ℕ → Bool) → Bool → ℕ → ℕ → Bool
pair_passes edge right row other = eqb row other || cond right (edge row other) (edge other row)

-- all at a place after a list pass, where these stood there before it: those that the list does not name, and those that it puts there
unfoldable pub all_there : (ℕ → ℕ → Option ℕ) → List ℕ → List ℕ → List ℕ → ℕ → ℕ → (ℕ → Bool) → Bool
all_there sequence rs vs others v s q = all_below (length others) (stayer_passes rs others q) && all_below (length rs) (arrival_passes sequence rs vs v s q)

-- the row and each of them are an allowed pair
unfoldable pub beside_there : Shape → List ℕ → List ℕ → List ℕ → List ℕ → List ℕ → Bool → ℕ → ℕ → ℕ → Bool
beside_there S m k rs vs others right v s row = all_there (sequence_at S m k) rs vs others v s (pair_passes (edge_at S m) right row)

-- each of those at one sequence of a value and each of those at another are
unfoldable pub between_there : Shape → List ℕ → List ℕ → List ℕ → List ℕ → List ℕ → List ℕ → ℕ → ℕ → ℕ → Bool
between_there S m k rs vs lefts rights v low high = all_there (sequence_at S m k) rs vs lefts v low (beside_there S m k rs vs rights true v high)

-- the same of the rows that a roster has there: the row and every row at a place are
unfoldable pub beside_all : Shape → List ℕ → List ℕ → Roster → Bool → ℕ → ℕ → ℕ → Bool
beside_all S m k h right v s row = all_at S.rows (sequence_at S m k) h v s (pair_passes (edge_at S m) right row)

-- every row at one sequence of a value and every row at another are
unfoldable pub between_all : Shape → List ℕ → List ℕ → Roster → ℕ → ℕ → ℕ → Bool
between_all S m k h v low high = all_at S.rows (sequence_at S m k) h v low (beside_all S m k h true v high)

-- a test of a number, where there is one
unfoldable pub if_any : Option ℕ → (ℕ → Bool) → Bool
if_any None q = true
if_any (Some s) q = q s

-- the roster that records hold, after a list
abbrev pub after_list : Shape → List ℕ → List ℕ → List ℕ → Roster
after_list S R rs vs = after (roster_in S.rows R) (edits rs vs)

-- the same of lent records and a lent list, as they are at entry
abbrev pub roster_after : {X Y : Type 0} → Tables → Index → Both (Bor (List ℕ)) X → Both (Bor (List ℕ)) Y → Roster
roster_after t i rows values = after_list t.shape i.records.now (was rows) (was values)

-- every pair that a memory of the full length remembers is allowed; a shorter one remembers nothing
pub record Recalled (S : Shape) (m J : List ℕ) : Type 0 where
  pub right : length J ≡ 256 → (l r : ℕ) → l < 128 → r < 128 → is_judged J l r ≡ true → edge_at S m l r ≡ true
