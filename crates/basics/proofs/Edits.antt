-- An edit list lent as two slices of one length, rows and values: what is said of the list is said of the slices' places. Assumes nothing.
use Prim.Native.Nat.{ℕ, zero, suc, ◌<◌}
use mathlib.Core.Path.{◌≡◌, refl, sym, ap, ◌∙◌}
use mathlib.Core.Logic.{◌↔◌}
use mathlib.Core.Bool.{Bool, true, not}
use mathlib.Core.List.Memᴰ.{head as here}
use mathlib.Core.List.Memᴰ.{tail as there}
use mathlib.Core.List.{List, [], ◌∷◌, ◌++◌}
use native.Mathlib.Omega.{arith}
use lib.ListN.{length, get_or, take, length-map}
use lib.Dec.{ltb}
use borrow.Author.Tests.{eqb-false, ne_eqb, not-true, ltb-true}
use Rattle.basics.specs.Tests.{all, all_below, count, count_below, distinct}
use Rattle.basics.specs.Sorting.{Reordered, same, skip, swap, then}
use Rattle.basics.specs.Edits.{Edit, rows_of, values_of, edits, edit_at, fresh, all_rows}
use Rattle.basics.proofs.Bools.{same_test}
use Rattle.basics.proofs.Lists.{◌∈◌, OnePlaceEach, distinct_iff, all_at_lem, at_place}
use Rattle.basics.proofs.Below.{all_below_at, all_below_of, all_below-same, count_below-same, all-below, count-below}

pub rows_append : (L M : List Edit) → rows_of (L ++ M) ≡ rows_of L ++ rows_of M
unfolding rows_of
rows_append [] M = refl
rows_append (e ∷ L) M = ap (λ (l : List ℕ). e.row ∷ l) (rows_append L M)

pub member_row : {e : Edit} {L : List Edit} → e ∈ L → e.row ∈ rows_of L
unfolding rows_of
member_row (here q) = here (ap (λ (e : Edit). e.row) q)
member_row (there m) = there (member_row m)

pub reordered_rows : {L M : List Edit} → Reordered L M → Reordered (rows_of L) (rows_of M)
unfolding rows_of
reordered_rows same = same
reordered_rows (skip e p) = skip e.row (reordered_rows p)
reordered_rows (swap e f) = swap e.row f.row
reordered_rows (then p q) = then (reordered_rows p) (reordered_rows q)

pub take-edits : (i : ℕ) (rs vs : List ℕ) → take i (edits rs vs) ≡ edits (take i rs) (take i vs)
unfolding edits
take-edits zero rs vs = refl
take-edits (suc i) [] vs = refl
take-edits (suc i) (r ∷ rs) [] = refl
take-edits (suc i) (r ∷ rs) (v ∷ vs) = ap (λ (L : List Edit). record { row = r; value = v } ∷ L) (take-edits i rs vs)

-- ---- a list as two slices

pub length_rows : (L : List Edit) → length (rows_of L) ≡ length L
unfolding rows_of
length_rows [] = refl
length_rows (e ∷ L) = ap suc (length_rows L)

pub length-values : (L : List Edit) → length (values_of L) ≡ length L
length-values L = length-map L (λ (e : Edit). e.value)

pub edits-back : (L : List Edit) → edits (rows_of L) (values_of L) ≡ L
unfolding edits rows_of
edits-back [] = refl
edits-back (e ∷ L) = ap (λ (M : List Edit). e ∷ M) (edits-back L)

-- ---- two slices of one length

pub length-edits : (rs vs : List ℕ) → length rs ≡ length vs → length (edits rs vs) ≡ length rs
unfolding edits
length-edits [] vs h = refl
length-edits (r ∷ rs) [] h = absurd (omega arith)
length-edits (r ∷ rs) (v ∷ vs) h = ap suc (length-edits rs vs (omega arith))

pub rows_edits : (rs vs : List ℕ) → length rs ≡ length vs → rows_of (edits rs vs) ≡ rs
unfolding edits rows_of
rows_edits [] vs h = refl
rows_edits (r ∷ rs) [] h = absurd (omega arith)
rows_edits (r ∷ rs) (v ∷ vs) h = ap (λ (l : List ℕ). r ∷ l) (rows_edits rs vs (omega arith))

pub values-edits : (rs vs : List ℕ) → length rs ≡ length vs → values_of (edits rs vs) ≡ vs
unfolding edits
values-edits [] [] h = refl
values-edits [] (v ∷ vs) h = absurd (omega arith)
values-edits (r ∷ rs) [] h = absurd (omega arith)
values-edits (r ∷ rs) (v ∷ vs) h = ap (λ (l : List ℕ). v ∷ l) (values-edits rs vs (omega arith))

pub get_d_edits : (rs vs : List ℕ) (i : ℕ) (d : Edit) → length rs ≡ length vs → i < length rs → get_or (edits rs vs) i d ≡ edit_at rs vs i
unfolding edits
get_d_edits [] vs i d h l = absurd (omega arith)
get_d_edits (r ∷ rs) [] i d h l = absurd (omega arith)
get_d_edits (r ∷ rs) (v ∷ vs) zero d h l = refl
get_d_edits (r ∷ rs) (v ∷ vs) (suc i) d h l = get_d_edits rs vs i d (omega arith) (omega arith)

module _ (p : Edit → Bool) (rs vs : List ℕ) (h : length rs ≡ length vs) where
  pub all-edits : all p (edits rs vs) ≡ all_below (length rs) (λ (i : ℕ). p (edit_at rs vs i))
  all-edits =
      all-below p (edit_at rs vs 0) (edits rs vs)
      ∙ rw (length-edits rs vs h) (all_below-same _ _ (length rs) (λ i l. ap p (get_d_edits rs vs i _ h l)))

  pub count-edits : count p (edits rs vs) ≡ count_below (length rs) (λ (i : ℕ). p (edit_at rs vs i))
  count-edits =
      count-below p (edit_at rs vs 0) (edits rs vs)
      ∙ rw (length-edits rs vs h) (count_below-same _ _ (length rs) (λ i l. ap p (get_d_edits rs vs i _ h l)))

-- ---- no row is named twice: each one is fresh

pub fresh_iff : (xs : List ℕ) (i : ℕ) → fresh xs i ≡ true ↔ ((j : ℕ) → j < i → get_or xs j 0 ≡ get_or xs i 0 → ⊥)
unfolding fresh
fresh_iff xs i = (
  λ h j l. eqb-false _ _ (not-true _ (all_below_at _ i h j l)),
  λ f. all_below_of _ i (λ j l. ap not (ne_eqb _ _ (f j l))),
)

pub distinct-fresh : (xs : List ℕ) → distinct xs ≡ all_below (length xs) (fresh xs)
distinct-fresh xs = same_test _ _ (λ h. all_below_of (fresh xs) (length xs) (new h)) (λ h. (distinct_iff xs).1 (apart h))
  where
    new : distinct xs ≡ true → (i : ℕ) → i < length xs → fresh xs i ≡ true
    new h i l = (fresh_iff xs i).1 (λ j k e. let same = (distinct_iff xs).0 h j i (omega arith) l e in omega arith)

    apart : all_below (length xs) (fresh xs) ≡ true → OnePlaceEach xs
    apart h i j li lj e =
        let below : ¬ (i < j) = λ k. (fresh_iff xs j).0 (all_below_at (fresh xs) (length xs) h j lj) i k e in
        let above : ¬ (j < i) = λ k. (fresh_iff xs i).0 (all_below_at (fresh xs) (length xs) h i li) j k (sym e) in
        omega arith

-- a listed row is a row
pub row_at : (n : ℕ) (rs : List ℕ) (i : ℕ) → all_rows n rs ≡ true → i < length rs → get_or rs i 0 < n
row_at n rs i a l = ltb-true _ _ (all_at_lem (λ (r : ℕ). ltb r n) a (at_place 0 rs i l))
