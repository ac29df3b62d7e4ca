-- The tests of a pair and of a place, case by case. Assumes nothing.
use Prim.Native.Nat.{ℕ}
use mathlib.Core.Path.{◌≡◌}
use mathlib.Core.Bool.{Bool, true, false}
use Rattle.std.specs.Prelude.{Option}
use borrow.Author.Tests.{eq-eqb, ne_eqb}
use Rattle.basics.specs.Tests.{is}
use Rattle.overlay_pairs.specs.Pairs.{has_place, pair_passes}

module _ (edge : ℕ → ℕ → Bool) (right : Bool) (row other : ℕ) where
  pub pair_itself : row ≡ other → true ≡ pair_passes edge right row other
  unfolding pair_passes
  pair_itself e = rw (eq-eqb row other e)

  pub pair_right : (row ≡ other → ⊥) → right ≡ true → (b : Bool) → b ≡ edge row other → b ≡ pair_passes edge right row other
  unfolding pair_passes
  pair_right n t b e = rw (ne_eqb row other n, t) e

  pub pair_left : (row ≡ other → ⊥) → right ≡ false → (b : Bool) → b ≡ edge other row → b ≡ pair_passes edge right row other
  unfolding pair_passes
  pair_left n t b e = rw (ne_eqb row other n, t) e

module _ (sequence : ℕ → ℕ → Option ℕ) (v s r w : ℕ) where
  pub elsewhere : (w ≡ v → ⊥) → false ≡ has_place sequence v s r w
  unfolding has_place
  elsewhere n = rw (ne_eqb w v n)

  pub at_value : w ≡ v → (b : Bool) → b ≡ is s (sequence r w) → b ≡ has_place sequence v s r w
  unfolding has_place
  at_value e b f = rw (eq-eqb w v e) f
