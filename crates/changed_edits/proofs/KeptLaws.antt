-- What is kept of numbers beside edits, turn by turn; and that it is the rows and the values of the edits that change something. Assumes nothing.
use Prim.Native.Nat.{ℕ, suc, ◌+◌, ◌≤◌, ◌<◌}
use mathlib.Core.Path.{◌≡◌, refl, sym, ap, ◌∙◌}
use mathlib.Core.Bool.{true, false}
use mathlib.Core.List.{List, [], ◌∷◌, ◌++◌}
use native.Mathlib.Numerals.{add-one}
use native.Mathlib.Omega.{arith}
use lib.Dec.{eqb}
use lib.ListN.{length, get_or, set, drop, length-append, drop_of_length-le}
use lib.Seq.{sets, drop-cons}
use borrow.Author.Tests.{eq-eqb, ne_eqb}
use Rattle.basics.specs.Edits.{edits, rows_of, values_of}
use Rattle.basics.proofs.Bools.{either}
use Rattle.basics.proofs.Edits.{length_rows}
use Rattle.rules.specs.Roster.{Roster}
use Rattle.outputs.specs.Outputs.{fronted, InFront}
use Rattle.changed_edits.specs.Changed.{changed}
use Rattle.changed_edits.specs.Kept.{kept_one, kept_of}

-- one number
module _ (h : Roster) (row value x : ℕ) (v : ℕ) (e : v ≡ h row) where
  pub dropped : value ≡ v → (s : List ℕ) (a : ℕ) → (a ≡ a + length (kept_one h row value x)) × (s ≡ sets s a (kept_one h row value x))
  unfolding kept_one
  dropped f s a = let t : eqb value (h row) ≡ true = eq-eqb _ _ (f ∙ e) in rw t (omega arith, refl)

  module _ (n : value ≡ v → ⊥) (s : List ℕ) (a : ℕ) where
    one_kept : kept_one h row value x ≡ x ∷ []
    unfolding kept_one
    one_kept = let t : eqb value (h row) ≡ false = ne_eqb _ _ (λ q. n (q ∙ sym e)) in rw t

    pub room_for_one : a + length (kept_one h row value x) ≤ length s → a < length s
    room_for_one l = omega (arith, ap length one_kept)

    pub one_written : (a + 1 ≡ a + length (kept_one h row value x)) × (set s a x ≡ sets s a (kept_one h row value x))
    one_written = rw one_kept (refl, refl)

module _ (h : Roster) where
  kept_cons : (row value x : ℕ) (rows values xs : List ℕ) → kept_of h (row ∷ rows) (value ∷ values) (x ∷ xs) ≡ kept_one h row value x ++ kept_of h rows values xs
  unfolding kept_of
  kept_cons row value x rows values xs = refl

  length_one : (row value x : ℕ) → length (kept_one h row value x) ≤ 1
  unfolding kept_one
  length_one row value x = either (eqb value (h row)) (λ t. rw t (omega arith)) (λ f. rw f (omega arith))

  -- one a turn
  module _ (rows values xs : List ℕ) (e : length rows ≡ length values) (f : length rows ≡ length xs) (i : ℕ) where
    pub kept_turn : i < length rows
        → kept_of h (drop i rows) (drop i values) (drop i xs) ≡ kept_one h (get_or rows i 0) (get_or values i 0) (get_or xs i 0) ++ kept_of h (drop (i + 1) rows) (drop (i + 1) values) (drop (i + 1) xs)
    kept_turn l =
        rw (drop-cons rows i 0 l, drop-cons values i 0 (omega arith), drop-cons xs i 0 (omega arith), add-one i)
        (kept_cons (get_or rows i 0) (get_or values i 0) (get_or xs i 0) (drop (suc i) rows) (drop (suc i) values) (drop (suc i) xs))

    pub kept_end : length rows ≤ i → kept_of h (drop i rows) (drop i values) (drop i xs) ≡ []
    unfolding kept_of
    kept_end l = rw (drop_of_length-le rows l)

  pub few_kept : (rows values xs : List ℕ) → length (kept_of h rows values xs) ≤ length rows
  unfolding kept_of
  few_kept [] values xs = omega arith
  few_kept (row ∷ rows) [] xs = omega arith
  few_kept (row ∷ rows) (value ∷ values) [] = omega arith
  few_kept (row ∷ rows) (value ∷ values) (x ∷ xs) =
      omega (arith, length-append (kept_one h row value x) (kept_of h rows values xs), length_one row value x, few_kept rows values xs)

  -- the rows and the values of the edits that change something
  pub rows_kept : (rows values : List ℕ) → length rows ≡ length values → kept_of h rows values rows ≡ rows_of (changed h (edits rows values))
  unfolding kept_of kept_one changed edits rows_of
  rows_kept [] values e = refl
  rows_kept (row ∷ rows) [] e = absurd (omega arith)
  rows_kept (row ∷ rows) (value ∷ values) e =
      let later = rows_kept rows values (omega arith) in
      either (eqb value (h row)) (λ t. rw t later) (λ f. rw f (ap (λ (l : List ℕ). row ∷ l) later))

  pub values_kept : (rows values : List ℕ) → length rows ≡ length values → kept_of h rows values values ≡ values_of (changed h (edits rows values))
  unfolding kept_of kept_one changed edits
  values_kept [] values e = refl
  values_kept (row ∷ rows) [] e = absurd (omega arith)
  values_kept (row ∷ rows) (value ∷ values) e =
      let later = values_kept rows values (omega arith) in
      either (eqb value (h row)) (λ t. rw t later) (λ f. rw f (ap (λ (l : List ℕ). value ∷ l) later))

-- both of them
pub both-written : (h : Roster) (rows values O U : List ℕ) (e : length rows ≡ length values) (n k : ℕ) (O' U' : List ℕ)
    → (n ≡ length (kept_of h rows values rows)) × (O' ≡ fronted (kept_of h rows values rows) O)
    → (k ≡ length (kept_of h rows values values)) × (U' ≡ fronted (kept_of h rows values values) U)
    → InFront (changed h (edits rows values)) O U O' U' n
both-written h rows values O U e n k O' U' a b = record {
  number = a.0 ∙ ap length (rows_kept h rows values e) ∙ length_rows (changed h (edits rows values));
  rows = a.1 ∙ ap (λ (l : List ℕ). fronted l O) (rows_kept h rows values e);
  values = b.1 ∙ ap (λ (l : List ℕ). fronted l U) (values_kept h rows values e);
}
