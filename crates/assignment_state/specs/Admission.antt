-- Who may use the lent slices: the refusals 1, 2, 3 and 6, and what holds where there is none. docs/RULES.md, 11.
use Rattle.std.specs.Prelude.{ℕ, ◌≡◌, Bool, true, ◌&&◌, ◌||◌, List, length, get_or, eqb, ltb, leb, ℤ}
use Rattle.std.specs.Result.{result_and}
use Rattle.basics.specs.Tests.{all_below}
use Rattle.refusals.specs.declared.Refusal.TheVariants as refusal
use Rattle.refusals.specs.Refusals.{Checked}
use Rattle.refusals.specs.Answers.{refused_unless}
use Rattle.rules.specs.Board.{empty}
use Rattle.assignment_tables.specs.declared.Shape.{Shape}
use Rattle.assignment_tables.specs.declared.Tables.{Tables}
use Rattle.assignment_index.specs.declared.Index.{Index}
use Rattle.assignment_tables.specs.Refusal.{tables_refusal, Admitted}
use Rattle.assignment_index.specs.Columns.{records_length, members_length}
use Rattle.assignment_index.specs.Index.{is_index, Indexed, of_lent}

-- 11.1: the index's two slices have their lengths
unfoldable pub index_lengths : Shape → List ℕ → List ℕ → Bool
index_lengths S R M =
    leb S.rows 128 && (eqb (length R) (records_length S.rows) && eqb (length M) (members_length S.rows))

-- 11.3: a value to be held is empty or in range
unfoldable pub holdable : Shape → ℕ → Bool
holdable S v = eqb v empty || ltb v S.values

-- 11.3: the first values of a list, one a row, are all such
unfoldable pub all_holdable : Shape → List ℕ → Bool
all_holdable S vs = all_below S.rows (λ (r : ℕ). holdable S (get_or vs r 0))

-- 11.11: the first of the refusals 1, 2, 3 and 6, if there is one; `own` says that the entry's own slices have their lengths
unfoldable pub admission : Shape → List ℕ → List ℕ → List ℤ → List ℕ → List ℕ → Bool → Checked
admission S m k p R M own =
    let held = refused_unless refusal.HeldValue (all_holdable S R) in
    let index = refused_unless refusal.FalseIndex (is_index S m k R M) in
    result_and (tables_refusal S m k p (own && index_lengths S R M)) (result_and held index)

-- what holds of slices that are admitted: the tables, and the index of the roster that the records hold
pub record Ready (S : Shape) (m k : List ℕ) (p : List ℤ) (R M : List ℕ) : Type 0 where
  pub tables : Admitted S m k p
  pub records_long : length R ≡ records_length S.rows
  pub members_long : length M ≡ members_length S.rows
  pub all_holdable : all_holdable S R ≡ true
  pub index : Indexed S m k R M

abbrev pub IsReady : Tables → Index → Type 0
IsReady = of_lent Ready
