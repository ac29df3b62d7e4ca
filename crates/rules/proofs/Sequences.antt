-- What follows a sequence is what `above` gives, and what it follows is what `below` gives. Assumes nothing.
use Prim.Native.Nat.{ℕ, zero, suc, ◌+◌, ◌-◌, ◌<◌, ◌^◌}
use mathlib.Core.Path.{◌≡◌}
use mathlib.Core.Logic.{◌↔◌}
use mathlib.Core.Bool.{true}
use Rattle.std.specs.Prelude.{Some}
use native.Mathlib.Omega.{arith}
use lib.Dec.{eqb}
use borrow.Author.Tests.{eqb-true, eq-eqb, ne_eqb}
use Rattle.basics.specs.Tests.{is}
use Rattle.basics.proofs.Bools.{either, same_test}
use Rattle.basics.proofs.Lists.{is_iff}
use Rattle.rules.specs.Board.{Board}
use Rattle.rules.specs.Neighbours.{follows, below, above}

module _ (B : Board) where
  pub follows_next : (s t : ℕ) → follows B s t ≡ true ↔ (t ≡ s + 1)
  unfolding follows
  follows_next s t = (eqb-true t (s + 1), eq-eqb t (s + 1))

  pub follows-another : (s t : ℕ) → follows B s t ≡ true → s ≡ t → ⊥
  follows-another s t n e = omega (arith, (follows_next s t).0 n)

  pub follows-below : (s t : ℕ) → follows B t s ≡ is t (below B s)
  unfolding follows below is
  follows-below zero t = ne_eqb 0 (t + 1) (λ e. absurd (omega arith))
  follows-below (suc s) t =
      same_test _ _ (λ h. let e = eqb-true (suc s) (t + 1) h in eq-eqb t s (omega arith)) (λ h. let e = eqb-true t s h in eq-eqb (suc s) (t + 1) (omega arith))

  -- among the numbers of the machine
  pub follows-above : (s t : ℕ) → t < 2 ^ 64 → follows B s t ≡ is t (above B s)
  unfolding follows above is
  follows-above s t l =
      either (eqb s (2 ^ 64 - 1))
      (λ e. rw e (ne_eqb t (s + 1) (λ q. absurd (omega (arith, eqb-true s (2 ^ 64 - 1) e)))))
      (λ e. rw e)

  pub below_iff : (s t : ℕ) → follows B t s ≡ true ↔ (below B s ≡ Some t)
  below_iff s t = rw (follows-below s t) (is_iff t (below B s))

  pub above_iff : (s t : ℕ) → t < 2 ^ 64 → follows B s t ≡ true ↔ (above B s ≡ Some t)
  above_iff s t l = rw (follows-above s t l) (is_iff t (above B s))
