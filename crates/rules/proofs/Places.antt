-- How many places a key has. No other law opens `places`. Assumes nothing.
use Prim.Native.Nat.{ℕ}
use mathlib.Core.Path.{◌≡◌, refl}
use Rattle.rules.specs.Board.{Board, places}

pub one_place : (B : Board) (k : ℕ) → places B k ≡ 1
unfolding places
one_place B k = refl
