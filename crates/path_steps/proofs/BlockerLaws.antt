-- What is found among rows that may block a row: one row more, a list turn by turn, two lists. Assumes nothing.
use Prim.Native.Nat.{ℕ, ◌+◌, ◌≤◌, ◌<◌, min}
use mathlib.Core.Path.{◌≡◌, refl, sym, ap, ap₂, ◌∙◌}
use mathlib.Core.Bool.{Bool, true, false, not, ◌&&◌, ◌||◌}
use mathlib.Core.List.{List, ◌++◌}
use native.Mathlib.Numerals.{add-one}
use native.Mathlib.Omega.{arith}
use lib.ListN.{length, get_or, take}
use lib.Seq.{take-suc, take_all}
use lib.Dec.{eqb}
use borrow.Author.Tests.{eq-eqb, ne_eqb}
use Rattle.basics.specs.Tests.{all, among}
use Rattle.basics.proofs.Bools.{by}
use Rattle.basics.proofs.Lists.{all_append, all_snoc, among-append}
use Rattle.assignment_tables.specs.declared.Shape.{Shape}
use Rattle.assignment_tables.specs.Tables.{required_at}
use Rattle.path_blockers.specs.Seeking.{nearer}
use Rattle.path_blockers.proofs.LeastLaws.{least-same, least_or, least_start, least_turn, no_better}
use Rattle.path_blockers.proofs.SoughtLaws.{spread, itself, not_looked_for, found_better}
use Rattle.path_steps.specs.declared.blockers.Blockers.{Blockers}
use Rattle.path_steps.specs.Judging.{required_other, Blocking}

or_false : (b : Bool) → b ≡ b || false
or_false true = refl
or_false false = refl

or_true : (b : Bool) → true ≡ b || true
or_true true = refl
or_true false = refl

not_both : (a b : Bool) → not (a && b) ≡ not a || not b
not_both true b = refl
not_both false b = refl

module _ (S : Shape) (m : List ℕ) (r : ℕ) where
  -- o is no optional row other than r
  abbrev passed : ℕ → Bool
  passed o = required_at S m o || eqb o r

  -- ---- one row more

  -- what is found then: the first required row x, and whether there is an optional one
  abbrev More : ℕ → Blockers → ℕ → Bool → Type 0
  More o found x b = (x ≡ nearer (required_other S m r) 0 o found.required) × (b ≡ found.optional || not (passed o))

  module _ (o : ℕ) (found : Blockers) where
    pub row_itself : o ≡ r → More o found found.required found.optional
    row_itself e = (
      itself (required_at S m) r 0 o found.required e,
      or_false found.optional ∙ ap (λ (b : Bool). found.optional || not b) (sym (ap (λ (b : Bool). required_at S m o || b) (eq-eqb o r e) ∙ sym (or_true (required_at S m o)))),
    )

    module _ (n : o ≡ r → ⊥) (b : Bool) (e : b ≡ required_at S m o) where
      pub required_more : b ≡ true → (x : ℕ) → x ≡ min o found.required → More o found x found.optional
      required_more t x q = (
        by o found.required
            (λ l. let z : x ≡ o = omega arith in z ∙ found_better (required_at S m) r 0 o found.required (omega arith) l n b e t)
            (λ l. let z : x ≡ found.required = omega arith in z ∙ no_better (required_other S m r) 0 o found.required l),
        or_false found.optional ∙ ap (λ (c : Bool). found.optional || not (c || eqb o r)) (sym (sym e ∙ t)),
      )

      pub optional_more : b ≡ false → More o found found.required true
      optional_more f = (
        not_looked_for (required_at S m) r 0 o found.required b e f,
        or_true found.optional ∙ ap₂ (λ (c d : Bool). found.optional || not (c || d)) (sym (sym e ∙ f)) (sym (ne_eqb o r n)),
      )

  -- ---- a list, turn by turn

  pub blocking_start : (xs : List ℕ) → Blocking S m r (take 0 xs) (record { required = S.rows; optional = false })
  unfolding all
  blocking_start xs = record { first = least_start (required_other S m r) 0 S.rows xs; any = refl }

  pub blocking_turn : (xs : List ℕ) (j : ℕ) (found x : Blockers) → j < length xs → Blocking S m r (take j xs) found → More (get_or xs j 0) found x.required x.optional
      → Blocking S m r (take (j + 1) xs) x
  blocking_turn xs j found x l w a = record {
    first = least_turn (required_other S m r) 0 S.rows xs j found.required l w.first x.required a.0;
    any =
        a.1 ∙ ap (λ (b : Bool). b || not (passed (get_or xs j 0))) w.any
        ∙ sym (rw (add-one j, take-suc xs j 0 l) (ap not (all_snoc passed (take j xs) (get_or xs j 0)) ∙ not_both (all passed (take j xs)) (passed (get_or xs j 0))));
  }

  pub blocking_end : (xs : List ℕ) (j : ℕ) (found : Blockers) → length xs ≤ j → Blocking S m r (take j xs) found → Blocking S m r xs found
  blocking_end xs j found l w = rw (take_all j xs l) at w

  -- ---- two lists

  pub blocking_both : (xs ys : List ℕ) (x y z : Blockers) → Blocking S m r xs x → Blocking S m r ys y
      → (z.required ≡ min x.required y.required) × (z.optional ≡ x.optional || y.optional) → Blocking S m r (xs ++ ys) z
  blocking_both xs ys x y z v w a = record {
    first =
        rw a.0 (least-same _ 0 S.rows _
        (λ o l. spread (among o xs) (among o ys) (required_other S m r o) ∙ sym (ap (λ (b : Bool). b && required_other S m r o) (among-append o xs ys)))
        (min x.required y.required)
        (least_or _ 0 S.rows _ x.required y.required v.first w.first));
    any =
        a.1 ∙ ap₂ (λ (b c : Bool). b || c) v.any w.any ∙ sym (ap not (all_append passed xs ys) ∙ not_both (all passed xs) (all passed ys));
  }
