-- How many rows hold a key, and how many listed rows leave it. Assumes nothing.
use Prim.Native.Nat.{ℕ, ◌+◌, ◌≤◌, ◌<◌}
use mathlib.Core.Path.{◌≡◌, sym, ap, ◌∙◌}
use mathlib.Core.Bool.{Bool, true, false}
use mathlib.Core.List.{List}
use native.Mathlib.Nat.{le_antisymm}
use native.Mathlib.Omega.{arith}
use lib.ListN.{length, get_or}
use lib.Dec.{ltb}
use borrow.Author.Tests.{lt-ltb}
use Rattle.basics.proofs.Edits.{row_at}
use Rattle.basics.specs.Edits.{all_rows}
use Rattle.basics.specs.Tests.{all_of_below, count_below, distinct}
use Rattle.basics.proofs.Lists.{distinct_iff}
use Rattle.basics.proofs.Below.{count_below_le, count_below_pos, count_below_one, all_of_below-length}
use Rattle.basics.proofs.Loops.{count_end}
use Rattle.membership.specs.Canonical.{key_rows}
use Rattle.assignment_index.specs.declared.columns.Part.{Part}
use Rattle.assignment_index.specs.Columns.{column, records_length, members_length, Named}
use Rattle.assignment_index.specs.Index.{part_of, by_capacity}
use Rattle.assignment_index.proofs.Changes.{part-named}
use Rattle.overlay_capacity.specs.Capacity.{holds_in, held_by, Countable, leaves_at, departing}

-- what asking the part by capacity takes, and what it gives
module _ (n : ℕ) (R M : List ℕ) (w : Countable n R M) where
  pub part_asked : (P : Part) → P ≡ by_capacity → Named n P × (((length R ≡ records_length n) × (length M ≡ members_length n)) × (column (n + 1) P.column M ≡ part_of n P R))
  part_asked P e = rw e (part-named n 0 w.few_rows, ((w.records_long, w.members_long), w.by_key))

  pub part_held : (P : Part) (key : ℕ) (rows : List ℕ) → P ≡ by_capacity
      → rows ≡ key_rows P.absent (column n P.flags R) (column n P.high R) (column n P.low R) key key n
      → (length rows ≡ held_by n R key) × (length rows ≤ 128)
  unfolding key_rows
  part_held P key rows e q =
      let given : rows ≡ all_of_below n (holds_in n R key) = q ∙ rw e in
      let held : length rows ≡ held_by n R key = ap length given ∙ all_of_below-length (holds_in n R key) n in
      (held, omega (arith, held, count_below_le (holds_in n R key) n, w.few_rows))

-- where one row holds the key and a listed row is it, that row alone leaves it
pub one_leaves : (n : ℕ) (R rs : List ℕ) → all_rows n rs ≡ true → distinct rs ≡ true → (key i held : ℕ) → i < length rs → leaves_at n R rs key i ≡ true → held ≡ held_by n R key → held ≡ 1
    → 1 ≡ departing n R rs key
one_leaves n R rs in_range once key i held l t e f =
    let alone = (count_below_one (holds_in n R key) n).0 (omega arith) in
    let most : departing n R rs key ≤ 1 =
    (count_below_one (leaves_at n R rs key) (length rs)).1
    (λ a b x y s z. (distinct_iff rs).0 once a b x y (alone (get_or rs a 0) (get_or rs b 0) (row_at n rs a in_range x) (row_at n rs b in_range y) s z)) in
    let least : 1 ≤ departing n R rs key = (count_below_pos (leaves_at n R rs key) (length rs)).1 (i, l, t) in
    le_antisymm least most

-- whether a number passes, as a loop finds it
pub one_passes : (n i : ℕ) (p : ℕ → Bool) (b : Bool) → i < n → b ≡ p i → b ≡ true → true ≡ ltb 0 (count_below n p)
one_passes n i p b l e t = sym (lt-ltb 0 (count_below n p) ((count_below_pos p n).1 (i, l, sym e ∙ t)))

pub none_passes : (n i : ℕ) (p : ℕ → Bool) → i ≤ n → n ≤ i → 0 ≡ count_below i p → false ≡ ltb 0 (count_below n p)
none_passes n i p a b z = ap (λ (k : ℕ). ltb 0 k) (count_end n i 0 p a b z)
