-- What the records say of the roster that they hold: a row's key, how many rows hold it, and which rows are in a conflict. Assumes nothing.
use Prim.Native.Nat.{ℕ, ◌≤◌, ◌<◌}
use mathlib.Core.Path.{◌≡◌, refl, sym, ap, fun_ext, ◌∙◌}
use mathlib.Core.Bool.{not, ◌&&◌}
use mathlib.Core.List.{List}
use Rattle.std.specs.Prelude.{Option, None, Some}
use native.Mathlib.Omega.{arith}
use lib.Dec.{eqb, ltb}
use lib.ListN.{length, get_or, get_or-eq_default}
use lib.IntN.{ℤ}
use borrow.Author.Tests.{le-ltb}
use Rattle.basics.specs.Tests.{is}
use Rattle.basics.specs.Sorting.{sort}
use Rattle.basics.proofs.Bools.{by}
use Rattle.basics.proofs.Below.{count_below-same, all_of_below-same, all_of_below-length, list_below_at}
use Rattle.rules.specs.Board.{Board}
use Rattle.rules.specs.Roster.{Roster, held_capacity, holds, holders}
use Rattle.rules.proofs.Places.{one_place}
use Rattle.membership.specs.Canonical.{is_member}
use Rattle.membership.proofs.KeyRows.{one_part}
use Rattle.assignment_tables.specs.declared.Shape.{Shape}
use Rattle.assignment_tables.specs.Cells.{cell_flag, cell_key}
use Rattle.assignment_tables.specs.Layout.{capacity_given_start, capacity_start}
use Rattle.assignment_tables.specs.Tables.{capacity_at, sequence_at, board, ranks_of}
use Rattle.assignment_index.specs.Columns.{column}
use Rattle.assignment_index.proofs.Found.{key_recorded}
use Rattle.assignment_index.specs.Index.{given_number, key_number, roster_in}
use Rattle.assignment_index.proofs.PartLaws.{column_long}
use Rattle.assignment_index.proofs.Records.{capacity-given_are, capacities_are}
use Rattle.assignment_state.specs.Admission.{Ready}
use Rattle.assignment_conflicts.specs.Conflicts.{overfull, conflict_rows, held_key}
use Rattle.conflict_leaders.specs.Leaders.{recorded_key, sharers, crowded}
use Rattle.assignment_conflicts.specs.Recorded.{crowded_rows}
use Rattle.row_order.specs.Orders.{chosen_rows}
use Rattle.row_order.proofs.OrderLaws.{is_conflict_order}

-- a row that there is not has no key
no_row : (rows columns from start : ℕ) (m k : List ℕ) (r v : ℕ) → rows ≤ r → cell_key rows columns from start m k r v ≡ None
unfolding cell_key cell_flag
no_row rows columns from start m k r v h = rw (le-ltb r rows h)

module _ (S : Shape) (m k : List ℕ) (p : List ℤ) (R M : List ℕ) (w : Ready S m k p R M) where
  abbrev n : ℕ
  n = S.rows

  abbrev B : Board
  B = board S m k

  abbrev h : Roster
  h = roster_in n R

  given_at : (r : ℕ) → r < n → get_or (column n 1 R) r 0 ≡ given_number (held_capacity B h r)
  given_at r l =
      ap (λ (L : List ℕ). get_or (column n 1 L) r 0) w.index.records_right
      ∙ ap (λ (L : List ℕ). get_or L r 0) (capacity-given_are n (capacity_at S m k) (sequence_at S m k) h)
      ∙ list_below_at n (λ (i : ℕ). given_number (held_capacity B h i)) r 0 l

  key_at : (r : ℕ) → r < n → recorded_key n R r ≡ held_key B h r
  key_at r l =
      ap (λ (L : List ℕ). get_or (column n 2 L) r 0) w.index.records_right
      ∙ ap (λ (L : List ℕ). get_or L r 0) (capacities_are n (capacity_at S m k) (sequence_at S m k) h)
      ∙ list_below_at n (λ (i : ℕ). key_number (held_capacity B h i)) r 0 l

  -- also of a row that there is not
  pub recorded_held : recorded_key n R ≡ held_key B h
  recorded_held =
      fun_ext (λ r. by r n (key_at r)
      (λ l.
      get_or-eq_default (column n 2 R) 0 (rw (column_long n 2 R w.records_long (omega arith)) l)
      ∙ sym (ap key_number (no_row n S.values (capacity_given_start S) (capacity_start S) m k r (h r) l))))

  sharers_hold : (x : ℕ) → length (sharers n R x) ≡ holders B h x
  unfolding holders holds is_member
  sharers_hold x =
      ap length (one_part 0 (column n 1 R) (column n 2 R) x n)
      ∙ all_of_below-length (λ (r : ℕ). is_member 0 (column n 1 R) r && eqb (get_or (column n 2 R) r 0) x) n
      ∙ count_below-same _ _ n (λ r l. rw (given_at r l, key_at r l) (key_recorded (held_capacity B h r) x))

  over : (o : Option ℕ) → not (eqb (given_number o) 0) && ltb 1 (length (sharers n R (key_number o))) ≡ overfull B h o
  unfolding overfull
  over None = refl
  over (Some x) = rw (sharers_hold x, one_place B x)

  crowded-over : (r : ℕ) → r < n → crowded n R r ≡ overfull B h (held_capacity B h r)
  unfolding crowded
  crowded-over r l = rw (given_at r l, key_at r l) (over (held_capacity B h r))

  pub rows_in_conflict : crowded_rows S m p R n ≡ conflict_rows B (ranks_of S m p) h
  unfolding chosen_rows conflict_rows
  rows_in_conflict = rw (is_conflict_order S m p k) (ap (sort _) (all_of_below-same _ _ n crowded-over))
