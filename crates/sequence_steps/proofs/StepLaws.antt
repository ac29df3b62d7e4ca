-- The sequences right below and right above one, as the code has them. Assumes nothing.
use Prim.Native.Nat.{ℕ, zero, suc, ◌+◌, ◌-◌, ◌^◌, ◌≤◌}
use mathlib.Core.Path.{◌≡◌, refl, sym, ap}
use mathlib.Core.Bool.{Bool, true, false, cond}
use Rattle.std.specs.Prelude.{Option, None, Some, SomeIff}
use Rattle.std.proofs.lemmas.Option.{none-some, same_Some}
use native.Mathlib.Omega.{arith}
use lib.Dec.{eqb}
use borrow.Author.Tests.{eq-eqb, ne_eqb}
use Rattle.rules.specs.Board.{Board}
use Rattle.rules.specs.Neighbours.{below, above}

module _ (B : Board) where
  pub below_is : (s : ℕ) (o : Option ℕ) → SomeIff o (1 ≤ s) (s - 1) → o ≡ below B s
  unfolding below
  below_is zero None w = refl
  below_is zero (Some n) w = absurd (omega (arith, w.0))
  below_is (suc s) None w = absurd (w (omega arith))
  below_is (suc s) (Some n) w = ap Some (omega (arith, w.1))

  pub below_at : (s : ℕ) → (s ≡ 0 → ⊥) → Some (s - 1) ≡ below B s
  below_at s n = below_is s (Some (s - 1)) (omega arith, refl)

  pub above_last : (s : ℕ) → s ≡ 2 ^ 64 - 1 → None ≡ above B s
  unfolding above
  above_last s e = rw (eq-eqb s (2 ^ 64 - 1) e)

  pub above_at : (s : ℕ) → (s ≡ 2 ^ 64 - 1 → ⊥) → Some (s + 1) ≡ above B s
  unfolding above
  above_at s n = rw (ne_eqb s (2 ^ 64 - 1) n)

  pub below_next : (s n : ℕ) → below B s ≡ Some n → s ≡ n + 1
  unfolding below
  below_next zero n e = absurd (none-some n e)
  below_next (suc s) n e = omega (arith, same_Some s n e)

  pub above_next : (s n : ℕ) → above B s ≡ Some n → n ≡ s + 1
  unfolding above
  above_next s n = go (eqb s (2 ^ 64 - 1))
    where
      go : (b : Bool) → cond b None (Some (s + 1)) ≡ Some n → n ≡ s + 1
      go true e = absurd (none-some n e)
      go false e = sym (same_Some _ _ e)
