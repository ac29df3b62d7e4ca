-- A list without one of its numbers: what is left, in what order, and how many. Assumes nothing.
use Prim.Native.Nat.{ℕ, suc}
use mathlib.Core.Path.{◌≡◌, refl, sym, ap, ◌∙◌}
use mathlib.Core.Logic.{◌↔◌, ⊎_elim}
use mathlib.Core.Bool.{Bool, true}
use mathlib.Core.List.Memᴰ
use mathlib.Core.List.Memᴰ.{cases_cons}
use mathlib.Core.List.Memᴰ.{head as here}
use mathlib.Core.List.Memᴰ.{not-nil}
use mathlib.Core.List.Memᴰ.{tail as there}
use mathlib.Core.List.{List, [], ◌∷◌}
use native.Mathlib.Decide.{ℕ_discrete}
use lib.ListN.{length}
use borrow.Author.Tests.{eq-eqb, ne_eqb}
use Rattle.basics.specs.Tests.{all}
use Rattle.basics.specs.Sorting.{Apart, rising}
use Rattle.basics.proofs.Lists.{◌∈◌, all_at_lem, all_of}
use Rattle.basics.proofs.Sorting.{rising_cons}
use Rattle.membership.specs.Cells.{remove}

pub remove-here : (c x : ℕ) (xs : List ℕ) → x ≡ c → remove c (x ∷ xs) ≡ xs
unfolding remove
remove-here c x xs e = rw (eq-eqb x c e)

pub remove-past : (c x : ℕ) (xs : List ℕ) → (x ≡ c → ⊥) → remove c (x ∷ xs) ≡ x ∷ remove c xs
unfolding remove
remove-past c x xs n = rw (ne_eqb x c n)

remove_nil : (c : ℕ) → remove c [] ≡ []
unfolding remove
remove_nil c = refl

module _ (c : ℕ) where
  pub remove-other : (xs : List ℕ) → (c ∈ xs → ⊥) → remove c xs ≡ xs
  remove-other [] n = remove_nil c
  remove-other (x ∷ xs) n =
      remove-past c x xs (λ e. n (here (sym e))) ∙ ap (λ (l : List ℕ). x ∷ l) (remove-other xs (λ m. n (there m)))

  pub member_remove : (xs : List ℕ) → Apart xs → (z : ℕ) → z ∈ remove c xs ↔ ((z ∈ xs) × (z ≡ c → ⊥))
  member_remove [] a z = rw (remove_nil c) (λ m. absurd (not-nil m), λ h. h.0)
  member_remove (x ∷ xs) a z = go (member_remove xs a.1 z) (ℕ_discrete x c)
    where
      go : z ∈ remove c xs ↔ ((z ∈ xs) × (z ≡ c → ⊥)) → Dec (x ≡ c) → z ∈ remove c (x ∷ xs) ↔ ((z ∈ x ∷ xs) × (z ≡ c → ⊥))
      go ih (yes e) = rw (remove-here c x xs e) (
        λ m. (there m, λ q. a.0 (Memᴰ.cast (e ∙ sym q) m)),
        λ h. ⊎_elim (λ q. absurd (h.1 (q ∙ e))) (λ m. m) (cases_cons h.0),
      )
      go ih (no n) = rw (remove-past c x xs n) (
        λ m. ⊎_elim (λ q. (here q, λ s. n (sym q ∙ s))) (λ k. (there (ih.0 k).0, (ih.0 k).1)) (cases_cons m),
        λ h. ⊎_elim (λ q. here q) (λ k. there (ih.1 (k, h.1))) (cases_cons h.0),
      )

  -- what is left stood there before
  pub remove-part : (xs : List ℕ) (z : ℕ) → z ∈ remove c xs → z ∈ xs
  remove-part [] z m = rw (remove_nil c) at m
  remove-part (x ∷ xs) z m = go (remove-part xs z) (ℕ_discrete x c)
    where
      go : (z ∈ remove c xs → z ∈ xs) → Dec (x ≡ c) → z ∈ x ∷ xs
      go ih (yes e) = there (rw (remove-here c x xs e) at m)
      go ih (no n) = ⊎_elim (λ q. here q) (λ k. there (ih k)) (cases_cons (rw (remove-past c x xs n) at m))

  pub remove-rising : (before : ℕ → ℕ → Bool) (xs : List ℕ) → rising before xs ≡ true → rising before (remove c xs) ≡ true
  remove-rising before [] r = rw (remove_nil c) r
  remove-rising before (x ∷ xs) r =
      let s = (rising_cons before x xs).0 r in
      go (remove-rising before xs s.1) s (ℕ_discrete x c)
    where
      go : rising before (remove c xs) ≡ true → (all (before x) xs ≡ true) × (rising before xs ≡ true) → Dec (x ≡ c) → rising before (remove c (x ∷ xs)) ≡ true
      go ih s (yes e) = rw (remove-here c x xs e) s.1
      go ih s (no n) =
          rw (remove-past c x xs n)
          ((rising_cons before x (remove c xs)).1 (all_of (before x) (remove c xs) (λ z m. all_at_lem (before x) s.0 (remove-part xs z m)), ih))

  pub length-remove : {xs : List ℕ} → c ∈ xs → length xs ≡ suc (length (remove c xs))
  length-remove (here {x} {xs} e) = ap (λ (l : List ℕ). suc (length l)) (sym (remove-here c x xs (sym e)))
  length-remove (there {x} {xs} m) = go (length-remove m) (ℕ_discrete x c)
    where
      go : length xs ≡ suc (length (remove c xs)) → Dec (x ≡ c) → suc (length xs) ≡ suc (length (remove c (x ∷ xs)))
      go ih (yes e) = ap (λ (l : List ℕ). suc (length l)) (sym (remove-here c x xs e))
      go ih (no n) = rw (remove-past c x xs n) (ap suc ih)
