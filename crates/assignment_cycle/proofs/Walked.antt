-- The walk over an order: every variant of every window once, in order; exactly the moves among them; and it ends. Assumes nothing.
use Prim.Native.Nat.{ℕ, ◌*◌, ◌-◌, ◌≤◌, suc}
use mathlib.Core.List.{List}
use native.Mathlib.Omega.{arith}
use native.Mathlib.Nat.{mul-le-mul}
use lib.ListN.{length}
use Rattle.rules.specs.Board.{Board}
use Rattle.rules.specs.Roster.{Roster}
use Rattle.window_kinds.specs.Kinds.{rematching, first_cursor, all_tries, Walked}
use Rattle.window_kinds.proofs.Walked as kinds
use Rattle.assignment_cycle.specs.Windows.{move_at}

module _ (B : Board) (h : Roster) (order : List ℕ) (size : ℕ) (few : length order ≤ 128) where
  pub walked : Walked rematching (move_at B h order) (length order) size
  walked = kinds.walked rematching kinds.rematching_walks (move_at B h order) (length order) size few

  -- in numbers: 128 starts, 126 lengths, two variants
  pub few_positions : length (all_tries rematching (length order) size) ≤ 32256
  few_positions =
      omega (
        arith,
        walked.bound 2 (λ l b. omega arith),
        mul-le-mul {n₁ = length order} {m₁ = (suc (first_cursor rematching (length order) size).longest - 3) * 2} {n₂ = 128} {m₂ = 252} few (omega arith),
      )
