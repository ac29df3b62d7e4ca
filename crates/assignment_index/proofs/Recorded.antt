-- What is recorded of a row: its value, in the first column, and a key. Assumes nothing.
use Prim.Native.Nat.{ℕ, ◌+◌, ◌*◌, ◌≤◌, ◌<◌}
use mathlib.Core.Path.{◌≡◌, sym, subst, ◌∙◌}
use mathlib.Core.List.{List}
use native.Mathlib.Omega.{arith}
use lib.ListN.{length, get_or, get_or-eq_default}
use Rattle.rules.specs.Board.{empty}
use Rattle.basics.proofs.Maps.{get_d_any}
use Rattle.assignment_index.specs.Columns.{column}
use Rattle.assignment_index.specs.Index.{roster_in}
use Rattle.assignment_index.proofs.ColumnLaws.{get_d_column, column-length}

pub held-is : (rows : ℕ) (R : List ℕ) (r : ℕ) → rows ≤ length R → r < rows → get_or R r 0 ≡ roster_in rows R r
held-is rows R r l h =
    let e : 0 * rows + r ≡ r = omega arith in
    let long : length (column rows 0 R) ≡ rows = column-length rows 0 R (omega arith) in
    subst (λ (i : ℕ). get_or R i 0 ≡ get_or (column rows 0 R) r empty) e
    (sym (get_d_column rows 0 R r h) ∙ get_d_any 0 empty (column rows 0 R) r (omega arith))

-- a row out of range holds nothing
pub nothing-held : (rows : ℕ) (R : List ℕ) (r : ℕ) → rows ≤ length R → rows ≤ r → empty ≡ roster_in rows R r
nothing-held rows R r l b =
    let long : length (column rows 0 R) ≡ rows = column-length rows 0 R (omega arith) in
    sym (get_or-eq_default (column rows 0 R) empty (omega arith))
