-- A text that is looked for, and octets that are copied, one a turn. Assumes nothing.
use Prim.Native.Nat.{ℕ, zero, suc, ◌+◌, ◌≤◌, ◌<◌}
use mathlib.Core.Path.{◌≡◌, refl, sym, ap, ap₂, ◌∙◌}
use mathlib.Core.List.{List, [], ◌∷◌, ◌++◌}
use Rattle.std.specs.Prelude.{None, Some}
use native.Mathlib.Numerals.{add-one}
use native.Mathlib.Omega.{arith}
use lib.ListN.{length, get_or, set, take, drop, length-drop, length-set, drop_of_length-le}
use lib.Seq.{drop-cons, take_all}
use borrow.Author.Tests.{eq-eqb, ne_eqb}
use Rattle.basics.proofs.Maps.{take-written}
use Rattle.calendar_format.specs.Texts.{after}

-- ---- what stands behind a text

after_end : (p : ℕ) (ps : List ℕ) → after (p ∷ ps) [] ≡ None
unfolding after
after_end p ps = refl

after-other : (p : ℕ) (ps : List ℕ) (b : ℕ) (l : List ℕ) → (b ≡ p → ⊥) → after (p ∷ ps) (b ∷ l) ≡ None
unfolding after
after-other p ps b l n = rw (ne_eqb p b (λ e. n (sym e)))

after_one : (p : ℕ) (ps : List ℕ) (b : ℕ) (l : List ℕ) → b ≡ p → after (p ∷ ps) (b ∷ l) ≡ after ps l
unfolding after
after_one p ps b l e = rw (eq-eqb p b (sym e))

after_nothing : (l : List ℕ) → after [] l ≡ Some l
unfolding after
after_nothing l = refl

-- the text from i on is still looked for, in the octets l
module _ (text l : List ℕ) (i : ℕ) where
  here : i < length text → drop i text ≡ get_or text i 0 ∷ drop (i + 1) text
  here k = rw add-one (drop-cons text i 0 k)

  pub looked_for_in_vain : i < length text → l ≡ [] → after (drop i text) l ≡ None
  looked_for_in_vain k e = ap₂ after (here k) e ∙ after_end _ _

  module _ (b : ℕ) (m : List ℕ) (k : i < length text) (e : l ≡ b ∷ m) where
    pub something_else : (b ≡ get_or text i 0 → ⊥) → after (drop i text) l ≡ None
    something_else n = ap₂ after (here k) e ∙ after-other _ _ b m n

    pub one_of_it : b ≡ get_or text i 0 → after (drop i text) l ≡ after (drop (i + 1) text) m
    one_of_it q = ap₂ after (here k) e ∙ after_one _ _ b m q

  pub all_of_it : length text ≤ i → after (drop i text) l ≡ Some l
  all_of_it k = ap (λ (t : List ℕ). after t l) (drop_of_length-le text k) ∙ after_nothing l

-- ---- octets that are copied

-- a list whose part from i on begins with b
there_suc : (i : ℕ) (u : List ℕ) (b : ℕ) (l : List ℕ) → drop i u ≡ b ∷ l → (take (suc i) u ≡ take i u ++ (b ∷ [])) × (drop (suc i) u ≡ l) × (i < length u)
there_suc zero [] b l e = let z : ◌≡◌ {A = ℕ} 0 1 = cc in absurd (omega arith)
there_suc zero (x ∷ u) b l e = let q : x ≡ b = cc in let t : u ≡ l = cc in (ap (λ (y : ℕ). y ∷ []) q, t, omega arith)
there_suc (suc i) [] b l e = let z : ◌≡◌ {A = ℕ} 0 1 = cc in absurd (omega arith)
there_suc (suc i) (x ∷ u) b l e =
    let (p, q, r) = there_suc i u b l e in
    (ap (λ (t : List ℕ). x ∷ t) p, q, omega arith)

next_there : (i : ℕ) (u : List ℕ) (b : ℕ) (l : List ℕ) → drop i u ≡ b ∷ l → (take (i + 1) u ≡ take i u ++ (b ∷ [])) × (drop (i + 1) u ≡ l) × (i < length u)
next_there i u b l e = rw add-one (there_suc i u b l e)

-- the first i of u were copied, and l is left
pub record Copying (u : List ℕ) (n : ℕ) (copy : List ℕ) (i : ℕ) (l : List ℕ) : Type 0 where
  pub long : length copy ≡ n
  pub within : i ≤ n
  pub same : take i copy ≡ take i u
  pub rest : drop i u ≡ l
  pub enough : i ≤ length u

pub none_copied : (u copy : List ℕ) → Copying u (length copy) copy 0 u
none_copied u copy = record { long = refl; within = omega arith; same = refl; rest = refl; enough = omega arith }

module _ (u : List ℕ) (n : ℕ) (copy : List ℕ) (i : ℕ) (l : List ℕ) (w : Copying u n copy i l) where
  pub one_copied : i < n → (b : ℕ) (m : List ℕ) → l ≡ b ∷ m → Copying u n (set copy i b) (i + 1) m
  one_copied k b m e =
      let (p, q, r) = next_there i u b m (w.rest ∙ e) in
      record {
        long = length-set copy i b ∙ w.long;
        within = omega arith;
        same = take-written copy i b (omega (arith, w.long)) ∙ ap (λ (t : List ℕ). t ++ (b ∷ [])) w.same ∙ sym p;
        rest = q;
        enough = omega arith;
      }

  pub too_few : i < n → l ≡ [] → length u < n
  too_few k e = omega (arith, length-drop i u, ap length (w.rest ∙ e))

  pub all_copied : n ≤ i → (copy ≡ take n u) × (drop n u ≡ l) × (n ≤ length u)
  all_copied k =
      let q : i ≡ n = omega (arith, w.within) in
      (sym (take_all n copy (omega (arith, w.long))) ∙ rw q at w.same, rw q at w.rest, omega (arith, w.enough))
