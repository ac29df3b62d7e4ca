-- Keys that arrive and leave, case by case. Assumes nothing.
use Prim.Native.Nat.{ℕ, ◌≤◌, ◌<◌}
use mathlib.Core.Path.{◌≡◌, refl, ap, ◌∙◌}
use mathlib.Core.Bool.{Bool, true, false, not, ◌&&◌}
use mathlib.Core.List.{List}
use Rattle.std.specs.Prelude.{Option, None}
use native.Mathlib.Omega.{arith}
use lib.ListN.{length, get_or}
use lib.Dec.{eqb}
use borrow.Author.Tests.{le-ltb}
use Rattle.basics.specs.Tests.{is}
use Rattle.basics.proofs.Bools.{by}
use Rattle.basics.proofs.Below.{list_below_at}
use Rattle.assignment_tables.specs.declared.Shape.{Shape}
use Rattle.assignment_tables.specs.Cells.{cell_flag, cell_key}
use Rattle.assignment_tables.specs.Tables.{capacity_at, sequence_at}
use Rattle.membership.specs.Canonical.{is_member}
use Rattle.membership.proofs.Flags.{flag-past}
use Rattle.assignment_index.specs.Columns.{column, records_length}
use Rattle.assignment_index.proofs.Changes.{records_long}
use Rattle.assignment_index.proofs.ColumnLaws.{column-length}
use Rattle.assignment_index.proofs.Found.{key_recorded}
use Rattle.assignment_index.specs.Index.{roster_in, Indexed, given_number, key_number}
use Rattle.assignment_index.proofs.Records.{capacity-given_are, capacities_are}
use Rattle.overlay_capacity.specs.Capacity.{holds_in, leaves_at}

-- a row out of range has no key
pub no_row : (S : Shape) (m k : List ℕ) (r v : ℕ) → S.rows ≤ r → capacity_at S m k r v ≡ None
unfolding cell_key cell_flag
no_row S m k r v l = rw (le-ltb _ _ l)

twice : (b : Bool) → b && b ≡ b
twice true = refl
twice false = refl

-- whether a listed row holds the key, by the records
module _ (n : ℕ) (R rs : List ℕ) (key i : ℕ) where
  pub row-leaves : (given number : ℕ) → given ≡ get_or (column n 1 R) (get_or rs i 0) 0 → number ≡ get_or (column n 2 R) (get_or rs i 0) 0
      → not (eqb given 0) && eqb number key ≡ leaves_at n R rs key i
  unfolding is_member
  row-leaves given number e f = rw (e, f, twice (eqb (get_or (column n 2 R) (get_or rs i 0) 0) key))

  pub row_stays : length R ≡ records_length n → n ≤ get_or rs i 0 → false ≡ leaves_at n R rs key i
  row_stays long l = rw (flag-past 0 (column n 1 R) (get_or rs i 0) (omega (arith, column-length n 1 R (omega arith))))

-- a row holds a key by the records exactly if it does by tables and roster
module _ (S : Shape) (m k R M : List ℕ) (w : Indexed S m k R M) (key r : ℕ) where
  abbrev n : ℕ
  n = S.rows

  abbrev held : ℕ → Option ℕ
  held r = capacity_at S m k r (roster_in n R r)

  holds-within : r < n → holds_in n R key r ≡ is key (held r)
  unfolding is_member
  holds-within l =
      let given : get_or (column n 1 R) r 0 ≡ given_number (held r) = ap (λ (L : List ℕ). get_or (column n 1 L) r 0) w.records_right ∙ ap (λ (L : List ℕ). get_or L r 0) (capacity-given_are n (capacity_at S m k) (sequence_at S m k) (roster_in n R)) ∙ list_below_at n (λ (j : ℕ). given_number (held j)) r 0 l in
      let number : get_or (column n 2 R) r 0 ≡ key_number (held r) = ap (λ (L : List ℕ). get_or (column n 2 L) r 0) w.records_right ∙ ap (λ (L : List ℕ). get_or L r 0) (capacities_are n (capacity_at S m k) (sequence_at S m k) (roster_in n R)) ∙ list_below_at n (λ (j : ℕ). key_number (held j)) r 0 l in
      rw (given, number, twice (eqb (key_number (held r)) key)) (key_recorded (held r) key)

  holds-past : n ≤ r → holds_in n R key r ≡ is key (held r)
  unfolding is
  holds-past l = rw (no_row S m k r (roster_in n R r) l, flag-past 0 (column n 1 R) r (omega (arith, column-length n 1 R (omega (arith, records_long S m k R M w)))))

  pub holds-key : holds_in n R key r ≡ is key (held r)
  holds-key = by r n holds-within holds-past
