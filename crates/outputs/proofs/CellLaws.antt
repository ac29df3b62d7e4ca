-- Cells to work in. Assumes nothing.
use Prim.Native.Nat.{ℕ, zero, suc, ◌≤◌}
use mathlib.Core.Path.{◌≡◌, refl, ap}
use mathlib.Core.List.{List, ◌∷◌}
use native.Mathlib.Omega.{arith}
use lib.ListN.{length, take, replicate, length-replicate}
use Rattle.outputs.specs.Outputs.{cells}

pub length-cells : (x : ℕ) → length (cells x) ≡ 128
unfolding cells
length-cells x = length-replicate 128 x

pub room_in_cells : (n x : ℕ) (s : List ℕ) → n ≤ 128 → s ≡ cells x → n ≤ length s
room_in_cells n x s l e = rw (e, length-cells x) l

take-replicate : (n k x : ℕ) → n ≤ k → take n (replicate k x) ≡ replicate n x
take-replicate zero k x h = refl
take-replicate (suc n) zero x h = absurd (omega arith)
take-replicate (suc n) (suc k) x h = ap (λ (l : List ℕ). x ∷ l) (take-replicate n k x (omega arith))

pub take_cells : (n x : ℕ) → n ≤ 128 → take n (cells x) ≡ replicate n x
unfolding cells
take_cells n x h = take-replicate n 128 x h
