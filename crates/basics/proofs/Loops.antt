-- What the proof of a loop `while i < n` cites: how it starts, what a turn adds, and how it ends. In a turn the code asks a test of i and has its answer b. Assumes nothing.
use Prim.Native.Nat.{ℕ, suc, ◌+◌, ◌-◌, ◌≤◌, ◌<◌}
use mathlib.Core.Path.{◌≡◌, refl, sym, ap, ◌∙◌}
use mathlib.Core.Bool.{Bool, true, false}
use Rattle.std.specs.Prelude.{Option, None, Some}
use native.Mathlib.Nat.{le_antisymm, sub-zero, add-zero}
use native.Mathlib.Numerals.{add-one}
use native.Mathlib.Omega.{arith}
use borrow.Author.Rules.{rules}
use borrow.Author.Tests.{not-true, not-false}
use Rattle.basics.specs.Tests.{all_below, bit, count_below, first_from}
use Rattle.basics.proofs.Bools.{and_join}
use Rattle.basics.proofs.Below.{all_below_fails, first_never}

-- ---- do all pass: those below i did

pub all_none : (p : ℕ → Bool) → all_below 0 p ≡ true
unfolding all_below
all_none p = refl

pub all_more : (i : ℕ) (p : ℕ → Bool) → all_below i p ≡ true → p i ≡ true → all_below (i + 1) p ≡ true
unfolding all_below
all_more i p a t = rw add-one (and_join a t)

pub turn_fails : (n i : ℕ) (p : ℕ → Bool) (b : Bool) → i < n → b ≡ p i → b ≡ false → false ≡ all_below n p
turn_fails n i p b l e f = sym (all_below_fails p n i l (sym e ∙ f))

pub turn_more : (i : ℕ) (p : ℕ → Bool) (b : Bool) → all_below i p ≡ true → b ≡ p i → b ≡ true → all_below (i + 1) p ≡ true
turn_more i p b a e t = all_more i p a (sym e ∙ t)

pub turn_end : (n i : ℕ) (p : ℕ → Bool) → i ≤ n → n ≤ i → all_below i p ≡ true → true ≡ all_below n p
turn_end n i p a b h = sym h ∙ ap (λ (j : ℕ). all_below j p) (le_antisymm a b)

-- ---- how many pass: k of those below i did, and m once i is counted

pub count_none : (p : ℕ → Bool) → 0 ≡ count_below 0 p
unfolding count_below
count_none p = refl

count-step : (i : ℕ) (p : ℕ → Bool) → count_below (i + 1) p ≡ count_below i p + bit (p i)
unfolding count_below
count-step i p = rw add-one

pub count_yes : (i k m : ℕ) (p : ℕ → Bool) (b : Bool) → k ≡ count_below i p → b ≡ p i → b ≡ true → m ≡ k + 1 → m ≡ count_below (i + 1) p
count_yes i k m p b h e t s = rw (count-step i p, sym e ∙ t, ← h) s

pub count_no : (i k m : ℕ) (p : ℕ → Bool) (b : Bool) → k ≡ count_below i p → b ≡ p i → b ≡ false → m ≡ k → m ≡ count_below (i + 1) p
count_no i k m p b h e f s = rw (count-step i p, sym e ∙ f, ← h) (s ∙ sym (add-zero k))

pub count_end : (n i k : ℕ) (p : ℕ → Bool) → i ≤ n → n ≤ i → k ≡ count_below i p → k ≡ count_below n p
count_end n i k p a b h = h ∙ ap (λ (j : ℕ). count_below j p) (le_antisymm a b)

-- ---- which is the first to pass: what is looked for, w, is the first of what is left

pub first-here : (i k : ℕ) (p : ℕ → Bool) → p i ≡ true → first_from p i (suc k) ≡ Some i
unfolding first_from
first-here i k p t = rw t

pub first_next : (i k : ℕ) (p : ℕ → Bool) → p i ≡ false → first_from p i (suc k) ≡ first_from p (i + 1) k
unfolding first_from
first_next i k p f = rw (f, add-one)

pub first_start : (n : ℕ) (p : ℕ → Bool) → first_from p 0 n ≡ first_from p 0 (n - 0)
first_start n p = rw sub-zero

pub left : (n i : ℕ) → i < n → n - i ≡ suc (n - (i + 1))
left n i l = omega arith

pub turn_found : (n i : ℕ) (p : ℕ → Bool) (b : Bool) (w : Option ℕ) → i < n → w ≡ first_from p i (n - i) → b ≡ p i → b ≡ true
    → Some i ≡ w
turn_found n i p b w l h e t = sym (h ∙ rw (left n i l) (first-here i _ p (sym e ∙ t)))

pub turn_next : (n i : ℕ) (p : ℕ → Bool) (b : Bool) (w : Option ℕ) → i < n → w ≡ first_from p i (n - i) → b ≡ p i → b ≡ false
    → w ≡ first_from p (i + 1) (n - (i + 1))
turn_next n i p b w l h e f = h ∙ rw (left n i l) (first_next i _ p (sym e ∙ f))

pub turn_none : (n i : ℕ) (p : ℕ → Bool) (w : Option ℕ) → n ≤ i → w ≡ first_from p i (n - i) → None ≡ w
turn_none n i p w b h = sym (h ∙ first_never p i (n - i) (λ m c d. absurd (omega arith)))

-- ---- what such loops are answered with

pub ruleset turns = (rules, all_none, turn_fails, turn_more, turn_end, not-true, not-false)

pub ruleset counts = (rules, count_none, count_yes, count_no, count_end, not-true, not-false)

pub ruleset finds = (rules, first_start, turn_found, turn_next, turn_none, not-true, not-false)
