-- The rows of all values together are as many as the rows that hold a value. Assumes nothing.
use Prim.Native.Nat.{ℕ, zero, suc, ◌+◌, ◌<◌}
use mathlib.Core.Path.{◌≡◌, refl, ap, ap₂, ◌∙◌}
use mathlib.Core.Bool.{true, not, ◌||◌}
use mathlib.Core.List.{List}
use native.Mathlib.Omega.{arith}
use lib.Dec.{eqb, ltb, lit<}
use lib.ListN.{length, get_or}
use lib.IntN.{ℤ}
use borrow.Author.Tests.{eqb-true, eqb-false, lt-ltb, le-ltb, ltb-true, ltb-false}
use Rattle.basics.specs.Tests.{bit, count_below}
use Rattle.basics.proofs.Bools.{either}
use Rattle.basics.proofs.Below.{count_below-same, all_of_below-length}
use Rattle.rules.specs.Board.{empty}
use Rattle.rules.specs.Roster.{Roster}
use Rattle.assignment_tables.specs.declared.Shape.{Shape}
use Rattle.assignment_tables.specs.Tables.{capacity_at, sequence_at}
use Rattle.membership.specs.Canonical.{key_rows}
use Rattle.membership.proofs.Slices.{count-now}
use Rattle.assignment_index.specs.Columns.{column}
use Rattle.assignment_index.specs.Index.{roster_in}
use Rattle.assignment_index.proofs.Changes.{part_there}
use Rattle.assignment_state.specs.Admission.{holdable, Ready}
use Rattle.assignment_updates.specs.Sums.{sum_below}
use Rattle.assignment_index.proofs.Found.{value_rows, members_by_value}
use Rattle.assignment_updates.proofs.Runs.{held-holdable}

sum_same : (n : ℕ) (f g : ℕ → ℕ) → ((i : ℕ) → i < n → f i ≡ g i) → sum_below n f ≡ sum_below n g
unfolding sum_below
sum_same zero f g e = refl
sum_same (suc n) f g e = ap₂ ◌+◌ (sum_same n f g (λ i l. e i (omega arith))) (e n (omega arith))

sum_add : (n : ℕ) (f g : ℕ → ℕ) → sum_below n (λ (i : ℕ). f i + g i) ≡ sum_below n f + sum_below n g
unfolding sum_below
sum_add zero f g = refl
sum_add (suc n) f g = omega (arith, sum_add n f g)

sum_none : (n : ℕ) → sum_below n (λ (i : ℕ). 0) ≡ 0
unfolding sum_below
sum_none zero = refl
sum_none (suc n) = omega (arith, sum_none n)

-- a number is one of those below n once, or not at all
sum_once : (n x : ℕ) → sum_below n (λ (i : ℕ). bit (eqb x i)) ≡ bit (ltb x n)
unfolding sum_below
sum_once zero x = rw (le-ltb x 0 (omega arith))
sum_once (suc n) x =
    either (eqb x n)
    (λ t. let e = eqb-true x n t in rw (t, lt-ltb x (suc n) (omega arith)) (omega (arith, sum_once n x ∙ ap bit (le-ltb x n (omega arith)))))
    (λ f. let d = eqb-false x n f in
    either (ltb x n)
    (λ t. rw (f, lt-ltb x (suc n) (omega (arith, ltb-true x n t))) (omega (arith, sum_once n x ∙ ap bit t)))
    (λ u. rw (f, le-ltb x (suc n) (omega (arith, ltb-false x n u, d))) (omega (arith, sum_once n x ∙ ap bit u))))

-- counted by value, and counted by row
pub by_value_adds_up : (values n : ℕ) (h : Roster) → sum_below values (λ (v : ℕ). count_below n (λ (r : ℕ). eqb (h r) v)) ≡ count_below n (λ (r : ℕ). ltb (h r) values)
unfolding count_below
by_value_adds_up values zero h = sum_none values
by_value_adds_up values (suc n) h =
    sum_add values (λ (v : ℕ). count_below n (λ (r : ℕ). eqb (h r) v)) (λ (v : ℕ). bit (eqb (h n) v))
    ∙ ap₂ ◌+◌ (by_value_adds_up values n h) (sum_once values (h n))

-- of an index that is admitted: the rows that its part by value lists under each value, all together, are as many as that part counts, and
-- as many as the rows that hold a value
module _ (S : Shape) (m k : List ℕ) (p : List ℤ) (R M : List ℕ) (w : Ready S m k p R M) where
  abbrev h : Roster
  h = roster_in S.rows R

  abbrev held : List ℕ
  held = column S.rows 0 R

  small-value : (v : ℕ) → v < S.values → v ≡ empty → ⊥
  small-value v l e = absurd (omega (arith, w.tables.marked.small.few_values))

  in_range : (r : ℕ) → r < S.rows → ltb (h r) S.values ≡ not (eqb (h r) empty)
  unfolding holdable
  in_range r l =
      let t : eqb (h r) empty || ltb (h r) S.values ≡ true = held-holdable S m k p R M w r l in
      either (eqb (h r) empty)
      (λ e. let q = eqb-true (h r) empty e in rw e (le-ltb (h r) S.values (omega (arith, w.tables.marked.small.few_values))))
      (λ f. let u = rw f at t in rw f u)

  pub memberships_add_up : sum_below S.values (λ (v : ℕ). length (key_rows empty held held held v v S.rows)) ≡ count_below S.rows (λ (r : ℕ). not (eqb (h r) empty))
  memberships_add_up =
      sum_same S.values _ _ (λ v l. ap length (value_rows S.rows (capacity_at S m k) (sequence_at S m k) h R w.index.records_right v (small-value v l)) ∙ all_of_below-length (λ (r : ℕ). eqb (h r) v) S.rows)
      ∙ by_value_adds_up S.values S.rows h
      ∙ count_below-same _ _ S.rows in_range

  pub count_by_value : get_or (column (S.rows + 1) 1 M) 0 0 ≡ count_below S.rows (λ (r : ℕ). not (eqb (h r) empty))
  count_by_value =
      count-now empty held held held S.rows (column (S.rows + 1) 1 M) (ap (column (S.rows + 1) 1) w.index.members_right ∙ part_there S.rows R 1 (lit< tt))
      ∙ count_below-same _ _ S.rows (members_by_value S.rows (capacity_at S m k) (sequence_at S m k) h R w.index.records_right)
