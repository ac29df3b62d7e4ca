-- What is found among the rows that may block a row, and what that comes to on the way down. docs/RULES.md, 6.2 and 6.3.
use Rattle.std.specs.Prelude.{ℕ, ◌+◌, ◌≤◌, ◌≡◌, Bool, not, cond, ◌&&◌, ◌||◌, List, [], ◌++◌, length, eqb, ltb, Option, None, Some}
use Rattle.basics.specs.Tests.{all, among, first_from}
use Rattle.assignment_tables.specs.declared.Shape.{Shape}
use Rattle.assignment_tables.specs.Tables.{required_at}
use Rattle.assignment_index.specs.Columns.{column, records_length, members_length}
use Rattle.assignment_index.specs.Index.{part_of, by_sequence}
use Rattle.overlay_pairs.specs.Pairs.{rows_at}
use Rattle.path_blockers.specs.Seeking.{Least, sides_allow}
use Rattle.path_steps.specs.declared.Prospect.{Prospect}
use Rattle.path_steps.specs.declared.Prospect.TheVariants as prospect
use Rattle.path_steps.specs.declared.blockers.Blockers.{Blockers}
use Rattle.path_clearance.specs.Clearance.{stays}
use Rattle.path_steps.specs.Prospects.{blocked_by}

-- o is required, and is not r
abbrev pub required_other : Shape → List ℕ → ℕ → ℕ → Bool
required_other S m r o = required_at S m o && not (eqb o r)

-- x is the first required row among the others than r, and whether an optional one is among them
pub record Blocking (S : Shape) (m : List ℕ) (r : ℕ) (others : List ℕ) (x : Blockers) : Type 0 where
  pub first : Least (λ (o : ℕ). among o others && required_other S m r o) 0 S.rows x.required
  pub any : x.optional ≡ not (all (λ (o : ℕ). required_at S m o || eqb o r) others)

-- 6.2: what was found, of n rows, comes to this
unfoldable pub concluded : ℕ → Bool → Blockers → Prospect
concluded n on x = cond (ltb x.required n) (prospect.Blocked x.required) (cond (not on && x.optional) prospect.Fails prospect.Free)

-- 6.2: a row is free if none of the others is there, and else the first required one blocks it
unfoldable pub prospect_among : Shape → List ℕ → Bool → ℕ → List ℕ → Prospect
prospect_among S m on r others =
    cond (all (λ (o : ℕ). not (stays (required_at S m) on o) || eqb o r) others) prospect.Free (blocked_by (first_from (λ (o : ℕ). among o others && required_other S m r o) 0 S.rows))

-- 6.3: who may block r: the holders of its key, and those at its sides where the edge rule refuses one of them
unfoldable pub may_block : Shape → List ℕ → Bool → ℕ → List ℕ → List ℕ → List ℕ → List ℕ
may_block S m on r holders below above = cond (sides_allow S m (stays (required_at S m) on) r below above) holders (holders ++ (below ++ above))

-- the rows that records have at a sequence of v, if there is one
unfoldable pub rows_if : Shape → List ℕ → ℕ → Option ℕ → List ℕ
rows_if S R v None = []
rows_if S R v (Some s) = rows_at S R v s

-- what reading the part by value and sequence asks: it is the one that the records of n rows give
pub record Sequenced (n : ℕ) (R M : List ℕ) : Type 0 where
  pub few : n ≤ 128
  pub records_long : length R ≡ records_length n
  pub members_long : length M ≡ members_length n
  pub part_right : column (n + 1) 2 M ≡ part_of n by_sequence R
