-- When tables are refused, and why. docs/RULES.md, 11.1 and 11.2.
use Rattle.std.specs.Prelude.{ℕ, ◌≡◌, Bool, true, ◌&&◌, List, length, eqb, ltb, leb, ℤ}
use Rattle.std.specs.Result.{result_and}
use Rattle.basics.specs.Tests.{all, all_below}
use Rattle.refusals.specs.declared.Refusal.TheVariants as refusal
use Rattle.refusals.specs.Refusals.{Checked}
use Rattle.refusals.specs.Answers.{refused_unless}
use Rattle.assignment_tables.specs.declared.Shape.{Shape}
use Rattle.assignment_tables.specs.Layout.{Marked, marks_length, keys_length, ranks_length}
use Rattle.assignment_tables.specs.Tables.{count_at, candidates_at}

-- 11.1: each slice has the stated length
unfoldable pub lengths_fit : Shape → List ℕ → List ℕ → List ℤ → Bool
lengths_fit S m k p =
    eqb (length m) (marks_length S) && eqb (length k) (keys_length S) && eqb (length p) (ranks_length S)

-- 11.1: at most 128 rows and 64 values, and each length fits, the caller's own too
unfoldable pub sized : Shape → List ℕ → List ℕ → List ℤ → Bool → Bool
sized S m k p own = leb S.rows 128 && (leb S.values 64 && (own && lengths_fit S m k p))

-- 11.2: a row counts at most 64 candidates, and each that it counts is a value
unfoldable pub candidates_fit : Shape → List ℕ → ℕ → Bool
candidates_fit S m r = leb (count_at S m r) 64 && all (λ (v : ℕ). ltb v S.values) (candidates_at S m r)

unfoldable pub all_candidates_fit : Shape → List ℕ → Bool
all_candidates_fit S m = all_below S.rows (candidates_fit S m)

-- the refusal of tables: by their sizes, else by their candidates
unfoldable pub tables_refusal : Shape → List ℕ → List ℕ → List ℤ → Bool → Checked
tables_refusal S m k p own =
    result_and (refused_unless refusal.Sizes (sized S m k p own)) (refused_unless refusal.Candidates (all_candidates_fit S m))

-- what holds of tables that are not refused
pub record Admitted (S : Shape) (m k : List ℕ) (p : List ℤ) : Type 0 where
  pub marked : Marked S m
  pub keys_long : length k ≡ keys_length S
  pub ranks_long : length p ≡ ranks_length S
  pub candidates_fit : all_candidates_fit S m ≡ true
