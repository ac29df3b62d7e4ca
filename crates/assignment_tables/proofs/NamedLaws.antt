-- A row that is looked for among those before it. Assumes nothing.
use Prim.Native.Nat.{ℕ, zero, suc, ◌≤◌}
use mathlib.Core.Path.{◌≡◌, refl}
use mathlib.Core.Bool.{Bool, true, false, not, ◌||◌, ◌&&◌}
use mathlib.Core.List.{List}
use native.Mathlib.Numerals.{add-one}
use native.Mathlib.Omega.{arith}
use lib.ListN.{get_or, take, length}
use lib.Dec.{eqb}
use Rattle.std.specs.List.{list_any}
use Rattle.std.proofs.lemmas.List.Folds.{list_any_more}
use Rattle.basics.specs.Tests.{all_below}
use Rattle.basics.specs.Edits.{fresh}

not-or : (a b : Bool) → not (a || b) ≡ not a && not b
not-or true b = refl
not-or false b = refl

-- none of the first j passes
none-first : (p : ℕ → Bool) (xs : List ℕ) (j : ℕ) → j ≤ length xs → not (list_any p (take j xs)) ≡ all_below j (λ (k : ℕ). not (p (get_or xs k 0)))
unfolding all_below
none-first p xs zero l = refl
none-first p xs (suc j) l =
    rw (← add-one, list_any_more p xs j 0 (omega arith), not-or, none-first p xs j (omega arith))

pub none-before : (xs : List ℕ) (i : ℕ) (b : Bool) → i ≤ length xs → b ≡ list_any (λ (y : ℕ). eqb y (get_or xs i 0)) (take i xs) → not b ≡ fresh xs i
unfolding fresh
none-before xs i b l e = rw e (none-first (λ (y : ℕ). eqb y (get_or xs i 0)) xs i l)
