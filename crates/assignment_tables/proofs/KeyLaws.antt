-- Which number a looked-up key is. Assumes nothing.
use Prim.Native.Nat.{ℕ}
use mathlib.Core.Path.{◌≡◌, ◌∙◌}
use mathlib.Core.Bool.{Bool}
use Rattle.std.specs.Prelude.{Option, None, Some}
use Rattle.std.specs.Option.{option_eq}
use lib.Dec.{eqb}
use Rattle.basics.proofs.Bools.{eqb_sym}
use Rattle.basics.specs.Tests.{is}

-- what a lookup found is the key k
pub key-is : (o q : Option ℕ) (k : ℕ) (b : Bool) → q ≡ o → b ≡ option_eq eqb q (Some k) → b ≡ is k o
unfolding is
key-is o None k b e f = rw (← e) f
key-is o (Some n) k b e f = rw (← e) (f ∙ eqb_sym n k)
