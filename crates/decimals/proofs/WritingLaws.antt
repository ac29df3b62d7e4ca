-- Writing a decimal form from its last digit to its first. Assumes nothing.
use Prim.Native.Nat.{ℕ, suc, ◌+◌, ◌/◌, ◌-◌, ◌≤◌, ◌<◌}
use mathlib.Core.Path.{◌≡◌, refl, sym, ap, ◌∙◌}
use mathlib.Core.List.{List, [], ◌∷◌}
use native.Mathlib.Omega.{arith}
use lib.ListN.{length, set, length-set}
use lib.Seq.{sets, set_comm}
use Rattle.basics.proofs.Maps.{sets_append}
use Rattle.decimals.specs.Decimals.{last_digit, digits}
use Rattle.decimals.proofs.DigitLaws.{digits_one, digits_more, length_one, length_more, length_pos}

-- a store behind a run of stores may come before it
pub sets_before : (s : List ℕ) (a : ℕ) (xs : List ℕ) (p x : ℕ) → a + length xs ≤ p → sets (set s p x) a xs ≡ set (sets s a xs) p x
sets_before s a [] p x h = refl
sets_before s a (y ∷ xs) p x h =
    ap (λ (t : List ℕ). sets t (suc a) xs) (set_comm s p a x y (λ e. omega arith)) ∙ sets_before (set s a y) (suc a) xs p x (omega arith)

-- the digits of `rest` are still to be written, the last of them at `place`; those behind stand in s already, where all of n go into t from a on
pub record Filling (s : List ℕ) (rest place : ℕ) (t : List ℕ) (a n : ℕ) : Type 0 where
  pub long : length s ≡ length t
  pub ends : place + 1 ≡ a + length (digits rest)
  pub fewer : length (digits rest) ≤ length (digits n)
  pub same : sets s a (digits rest) ≡ sets t a (digits n)

pub filling : (t : List ℕ) (n end : ℕ) → length (digits n) ≤ end → Filling t n (end - 1) t (end - length (digits n)) n
filling t n end h = record { long = refl; ends = omega (arith, length_pos n); fewer = omega arith; same = refl }

module _ (s : List ℕ) (rest place : ℕ) (t : List ℕ) (a n : ℕ) (f : Filling s rest place t a n) (x : ℕ) (e : x ≡ last_digit rest) where
  pub filled_more : 10 ≤ rest → Filling (set s place x) (rest / 10) (place - 1) t a n
  filled_more g =
      let size = length_more rest g in
      let here : place ≡ a + length (digits (rest / 10)) = omega (arith, f.ends) in
      record {
        long = length-set s place x ∙ f.long;
        ends = omega (arith, length_pos (rest / 10));
        fewer = omega (arith, f.fewer);
        same =
            sets_before s a (digits (rest / 10)) place x (omega arith)
            ∙ rw (here, e) (sym (sets_append s a (digits (rest / 10)) (last_digit rest ∷ [])))
            ∙ ap (sets s a) (sym (digits_more rest g))
            ∙ f.same;
      }

  pub filled : rest < 10 → set s place x ≡ sets t a (digits n)
  filled l =
      let here : place ≡ a = omega (arith, f.ends, length_one rest l) in
      rw (here, e) (ap (sets s a) (sym (digits_one rest l)) ∙ f.same)
