-- Cells that are set one by one. A cell that is not there is not set, which is `set`.
use Rattle.std.specs.Prelude.{ℕ, zero, suc, ◌+◌, ◌%◌, List, get_or, set, replicate}
use Rattle.vector_words.specs.Words.{ahead}

-- for each i below n, in order, the cell at place i is set to value i
unfoldable pub set_below : {A : Type 0} → (ℕ → ℕ) → (ℕ → A) → ℕ → List A → List A
set_below place value zero cells = cells
set_below place value (suc n) cells = set (set_below place value n cells) (place n) (value n)

-- word i of a copy
unfoldable pub copied_at : List ℕ → ℕ → ℕ → ℕ
copied_at words at i = get_or words (ahead at i) 0

-- what stands in cell i of an output before a call
unfoldable pub before_at : ℕ → ℕ
before_at i = 7000000 + i % 1000000

-- every cell with what stands there before a call
unfoldable pub filled_before : ℕ → List ℕ → List ℕ
filled_before n cells = set_below (λ (i : ℕ). i) before_at n cells

-- an output before a call
unfoldable pub output_before : List ℕ
output_before = filled_before 140 (replicate 140 0)
