-- What a roster holds after a list in which a row may stand twice: the value of its last edit. So a test of every row afterwards is one
-- of the rows that the list does not name, and one of the last edit of each row that it does. Assumes nothing.
use Prim.Native.Nat.{ℕ, zero, suc, ◌+◌, ◌≤◌, ◌<◌}
use mathlib.Core.Path.{◌≡◌, refl, sym, ap, ap₂, ◌∙◌}
use mathlib.Core.Logic.{⊎_elim}
use mathlib.Core.Bool.{Bool, true, false, ◌&&◌, ◌||◌}
use mathlib.Core.List.{List, [], ◌∷◌}
use native.Mathlib.Numerals.{add-one}
use native.Mathlib.Omega.{arith}
use lib.ListN.{length, get_or, drop}
use lib.Dec.{eqb}
use borrow.Author.Tests.{eqb-true}
use Rattle.basics.specs.Tests.{all_below, among}
use Rattle.basics.specs.Edits.{edits}
use Rattle.basics.proofs.Bools.{either, by, clash, same_test, and_left, and_right, and_join, or_left, or_right, or_cases}
use Rattle.basics.proofs.Below.{all_below_at, all_below_of}
use Rattle.basics.proofs.Edits.{rows_edits}
use Rattle.rules.specs.Roster.{Roster, put, after}
use Rattle.rules.proofs.Rosters.{put_same, untouched}

-- the i-th row is named again behind
abbrev pub overruled : List ℕ → ℕ → Bool
overruled rs i = among (get_or rs i 0) (drop (i + 1) rs)

unnamed : (h : Roster) (rs vs : List ℕ) (o : ℕ) → length rs ≡ length vs → among o rs ≡ false → after h (edits rs vs) o ≡ h o
unnamed h rs vs o e f = untouched h (edits rs vs) (ap (among o) (rows_edits rs vs e) ∙ f)

last_is : (h : Roster) (rs vs : List ℕ) (i : ℕ) → length rs ≡ length vs → i < length rs → among (get_or rs i 0) (drop (suc i) rs) ≡ false
    → after h (edits rs vs) (get_or rs i 0) ≡ get_or vs i 0
unfolding edits after
last_is h [] vs i e l f = absurd (omega arith)
last_is h (r ∷ rs) [] i e l f = absurd (omega arith)
last_is h (r ∷ rs) (v ∷ vs) zero e l f = unnamed (put h r v) rs vs r (omega arith) f ∙ put_same h r v
last_is h (r ∷ rs) (v ∷ vs) (suc i) e l f = last_is (put h r v) rs vs i (omega arith) (omega arith) f

last_of : (h : Roster) (rs vs : List ℕ) (o : ℕ) → length rs ≡ length vs → among o rs ≡ true
    → (i : ℕ) × (i < length rs) × (get_or rs i 0 ≡ o) × (among o (drop (suc i) rs) ≡ false) × (after h (edits rs vs) o ≡ get_or vs i 0)
unfolding edits after among
last_of h [] vs o e t = absurd (clash t refl)
last_of h (r ∷ rs) [] o e t = absurd (omega arith)
last_of h (r ∷ rs) (v ∷ vs) o e t =
    either (among o rs)
    (λ y. let (i, l, a, b, z) = last_of (put h r v) rs vs o (omega arith) y in (suc i, omega arith, a, b, z))
    (λ n. let q = ⊎_elim (eqb-true o r) (λ y. absurd (clash y n)) (or_cases (eqb o r) (among o rs) t) in
    (0, omega arith, sym q, n, unnamed (put h r v) rs vs o (omega arith) n ∙ ap (put h r v) q ∙ put_same h r v))

-- a test that every row out of range passes
module _ (n : ℕ) (q : ℕ → ℕ → Bool) (outside : (o w : ℕ) → n ≤ o → q o w ≡ true) (h : Roster) (rs vs : List ℕ) (e : length rs ≡ length vs) where
  abbrev stayers : Bool
  stayers = all_below n (λ (o : ℕ). among o rs || q o (h o))

  abbrev arrivals : Bool
  arrivals = all_below (length rs) (λ (i : ℕ). overruled rs i || q (get_or rs i 0) (get_or vs i 0))

  pub after_split : stayers && arrivals ≡ all_below n (λ (o : ℕ). q o (after h (edits rs vs) o))
  after_split = same_test _ _ forth back
    where
      forth : stayers && arrivals ≡ true → all_below n (λ (o : ℕ). q o (after h (edits rs vs) o)) ≡ true
      forth t =
          all_below_of _ n (λ o l. either (among o rs)
          (λ y. let (i, k, a, b, z) = last_of h rs vs o e y in
          ⊎_elim
          (λ w. absurd (clash w (ap (λ (j : ℕ). among (get_or rs i 0) (drop j rs)) (add-one i) ∙ ap (λ (x : ℕ). among x (drop (suc i) rs)) a ∙ b)))
          (λ w. ap₂ q (sym a) z ∙ w)
          (or_cases (overruled rs i) _ (all_below_at _ (length rs) (and_right stayers _ t) i k)))
          (λ f. ap (q o) (unnamed h rs vs o e f) ∙ ⊎_elim (λ y. absurd (clash y f)) (λ w. w) (or_cases (among o rs) _ (all_below_at _ n (and_left stayers _ t) o l))))

      back : all_below n (λ (o : ℕ). q o (after h (edits rs vs) o)) ≡ true → stayers && arrivals ≡ true
      back t =
          and_join
          (all_below_of _ n (λ o l. either (among o rs) (λ y. or_left _ _ y) (λ f. or_right (among o rs) _ (ap (q o) (sym (unnamed h rs vs o e f)) ∙ all_below_at _ n t o l))))
          (all_below_of _ (length rs) (λ i k. either (overruled rs i) (λ y. or_left _ _ y)
          (λ f. or_right (overruled rs i) _ (by (get_or rs i 0) n
          (λ l. ap (q (get_or rs i 0)) (sym (last_is h rs vs i e k (ap (λ (j : ℕ). among (get_or rs i 0) (drop j rs)) (sym (add-one i)) ∙ f))) ∙ all_below_at _ n t (get_or rs i 0) l)
          (λ l. outside (get_or rs i 0) (get_or vs i 0) l)))))
