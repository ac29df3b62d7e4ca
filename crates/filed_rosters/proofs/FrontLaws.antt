-- The fronts of slices that have room for any file. Assumes nothing.
use Prim.Native.Nat.{ℕ, ◌+◌, ◌*◌, ◌≤◌}
use mathlib.Core.Path.{◌≡◌, sym, ap, ap₂, ◌∙◌}
use mathlib.Core.List.{List, ◌++◌}
use native.Mathlib.Omega.{arith}
use lib.ListN.{length, take, drop, length-append}
use lib.Seq.{take_at}
use Rattle.outputs.specs.Outputs.{fronted}
use Rattle.assignment_tables.specs.declared.Shape.{Shape}
use Rattle.assignment_tables.specs.Layout.{Small, marks_length, keys_length}

-- a shape's tables fit the room that is stated, and so do its records and members
module _ (S : Shape) (small : Small S) (room end : ℕ) where
  pub marks_room : 49792 ≤ room → end ≡ marks_length S → end ≤ room
  marks_room l e = omega (arith, small.few_rows, small.few_cells, small.few_pairs)

  pub keys_room : 16384 ≤ room → end ≡ keys_length S → end ≤ room
  keys_room l e = omega (arith, small.few_cells)

  pub records_room : 640 ≤ room → end ≡ 5 * S.rows → end ≤ room
  records_room l e = omega (arith, small.few_rows)

  pub members_room : 387 ≤ room → end ≡ 3 * (S.rows + 1) → end ≤ room
  members_room l e = omega (arith, small.few_rows)

-- what was written into a front stands before the rest
pub front-written : (f s x : List ℕ) (end : ℕ) → x ≡ f → length f ≡ end → x ++ drop end s ≡ fronted f s
front-written f s x end e l = ap₂ (λ (a : List ℕ) (k : ℕ). a ++ drop k s) e (sym l)

-- and can be cut off again
pub front-back : (f s t : List ℕ) (end : ℕ) → t ≡ fronted f s → length f ≡ end → take end t ≡ f
front-back f s t end e l = ap (take end) e ∙ take_at f (drop (length f) s) end l

pub front-within : (f s t : List ℕ) (end : ℕ) → t ≡ fronted f s → length f ≡ end → end ≤ length t
front-within f s t end e l = omega (arith, ap length e, length-append f (drop (length f) s))
