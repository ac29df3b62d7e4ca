-- How much room there is for ranks. Assumes nothing.
use Prim.Native.Nat.{ℕ, ◌≤◌}
use mathlib.Core.Path.{◌≡◌, ap}
use mathlib.Core.List.{List}
use native.Mathlib.Omega.{arith}
use lib.ListN.{length, length-replicate}
use lib.IntN.{ℤ, pos}
use Rattle.listing_room.specs.Room.{no_ranks}

pub ranks-room : (P : List ℤ) (given : ℕ) → P ≡ no_ranks → given ≤ 256 → given ≤ length P
unfolding no_ranks
ranks-room P given e l = omega (arith, ap length e, length-replicate 256 (pos 0))
