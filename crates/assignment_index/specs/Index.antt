-- The index that tables and roster give, to the last cell. docs/RULES.md, 2.
use Rattle.std.specs.Prelude.{ℤ, ℕ, zero, suc, ◌+◌, ◌*◌, ◌≡◌, Bool, ◌&&◌, List, ◌++◌, length, get_or, set, ltb, eqb, Option, None, Some}
use Rattle.basics.specs.Tests.{list_below, same_numbers}
use Rattle.basics.specs.Sorting.{place}
use Rattle.rules.specs.Board.{Board, empty}
use Rattle.rules.specs.Roster.{Roster, roster_of}
use Rattle.sorted_cells.specs.Codes.{code}
use Rattle.membership.specs.Cells.{codes_in}
use Rattle.membership.specs.Canonical.{membership_of, key_rows}
use Rattle.assignment_tables.specs.declared.Shape.{Shape}
use Rattle.assignment_tables.specs.Layout.{Marked, keys_length}
use Rattle.assignment_tables.specs.Tables.{capacity_at, sequence_at}
use Rattle.assignment_tables.specs.declared.Tables.{Tables}
use Rattle.assignment_index.specs.declared.Index.{Index}
use Rattle.assignment_index.specs.declared.columns.Part.{Part}
use Rattle.assignment_index.specs.Columns.{column, value_column}

-- 2.5: an optional key as two numbers
abbrev pub given_number : Option ℕ → ℕ
given_number None = 0
given_number (Some k) = 1

abbrev pub key_number : Option ℕ → ℕ
key_number None = 0
key_number (Some k) = k

-- 2.2, 2.5: the records of a roster of n rows: its values, and the keys that they have
unfoldable pub records_of : ℕ → (ℕ → ℕ → Option ℕ) → (ℕ → ℕ → Option ℕ) → Roster → List ℕ
records_of n capacity sequence h =
    list_below n h
    ++ (list_below n (λ (r : ℕ). given_number (capacity r (h r)))
    ++ (list_below n (λ (r : ℕ). key_number (capacity r (h r)))
    ++ (list_below n (λ (r : ℕ). given_number (sequence r (h r)))
    ++ list_below n (λ (r : ℕ). key_number (sequence r (h r))))))

-- the cell of a row in the j-th column of the records: the value, and the keys c and s that it has
abbrev pub cell_of : ℕ → Option ℕ → Option ℕ → ℕ → ℕ
cell_of v c s zero = v
cell_of v c s (suc zero) = given_number c
cell_of v c s (suc (suc zero)) = key_number c
cell_of v c s (suc (suc (suc zero))) = given_number s
cell_of v c s (suc (suc (suc (suc j)))) = key_number s

abbrev pub board_records : Board → Roster → List ℕ
board_records B = records_of B.rows B.capacity B.sequence

-- 2.5: the membership that records of n rows give one part of the members
abbrev pub part_of : ℕ → Part → List ℕ → List ℕ
part_of n P R = membership_of P.absent (column n P.flags R) (column n P.high R) (column n P.low R) n

-- the same without the row r
abbrev pub part_without : ℕ → Part → List ℕ → ℕ → List ℕ
part_without n P R r = membership_of P.absent (set (column n P.flags R) r P.absent) (column n P.high R) (column n P.low R) n

-- the rows that records of n rows have under the key (h, l) in a part
abbrev pub part_rows : ℕ → Part → List ℕ → ℕ → ℕ → List ℕ
part_rows n P R h l = key_rows P.absent (column n P.flags R) (column n P.high R) (column n P.low R) h l n

-- how many members of a part stand before those under the key (h, l)
unfoldable pub start_of : ℕ → Part → List ℕ → List ℕ → ℕ → ℕ → ℕ
start_of n P R M h l = place ltb (code h l 0) (codes_in (column n P.high R) (column n P.low R) (column (n + 1) P.column M))

-- 2.5: the three parts: by capacity key, by value, by value and sequence
abbrev pub by_capacity : Part
by_capacity = record { column = 0; absent = 0; flags = 1; high = 2; low = 2 }

abbrev pub by_value : Part
by_value = record { column = 1; absent = empty; flags = 0; high = 0; low = 0 }

abbrev pub by_sequence : Part
by_sequence = record { column = 2; absent = 0; flags = 3; high = 0; low = 4 }

-- the part that the j-th column of the members is
abbrev pub part_at : ℕ → Part
part_at zero = by_capacity
part_at (suc zero) = by_value
part_at (suc (suc j)) = by_sequence

unfoldable pub members_of : ℕ → List ℕ → List ℕ
members_of n R = part_of n by_capacity R ++ (part_of n by_value R ++ part_of n by_sequence R)

-- 2.1: the roster that records of n rows hold
abbrev pub roster_in : ℕ → List ℕ → Roster
roster_in n R = roster_of (value_column n R)

-- the roster that the records of an index hold
abbrev pub the_roster : Tables → Index → Roster
the_roster t i = roster_in t.shape.rows i.records.now

-- what a definition over slices comes to for the tables and the index that are lent: all but the ranks
abbrev pub of_index {ℓ} : {A : Type ℓ} → (Shape → List ℕ → List ℕ → List ℕ → List ℕ → A) → Tables → Index → A
of_index f t i = f t.shape t.marks.now t.keys.now i.records.now i.members.now

-- and all
abbrev pub of_lent {ℓ} : {A : Type ℓ} → (Shape → List ℕ → List ℕ → List ℤ → List ℕ → List ℕ → A) → Tables → Index → A
of_lent f t i = f t.shape t.marks.now t.keys.now t.ranks.now i.records.now i.members.now

-- 2.5: the lent slices are the index of the roster that they hold
unfoldable pub is_index : Shape → List ℕ → List ℕ → List ℕ → List ℕ → Bool
is_index S m k R M =
    same_numbers R (records_of S.rows (capacity_at S m k) (sequence_at S m k) (roster_in S.rows R)) && same_numbers M (members_of S.rows R)

-- row by row: two cells of the records, in the j-th column and the one behind it, are the key's numbers
unfoldable pub key_right : ℕ → List ℕ → ℕ → ℕ → Option ℕ → Bool
key_right n R j r o = eqb (get_or (column n j R) r 0) (given_number o) && eqb (get_or (column n (j + 1) R) r 0) (key_number o)

-- the row's records are the keys of the value that it holds
unfoldable pub row_right : Shape → List ℕ → List ℕ → List ℕ → ℕ → Bool
row_right S m k R r =
    key_right S.rows R 1 r (capacity_at S m k r (roster_in S.rows R r)) && key_right S.rows R 3 r (sequence_at S m k r (roster_in S.rows R r))

-- the same as facts, with what reading the tables asks
pub record Indexed (S : Shape) (m k R M : List ℕ) : Type 0 where
  pub marked : Marked S m
  pub keys_long : length k ≡ keys_length S
  pub records_right : R ≡ records_of S.rows (capacity_at S m k) (sequence_at S m k) (roster_in S.rows R)
  pub members_right : M ≡ members_of S.rows R

-- the records with a row's value and keys written
unfoldable pub written : ℕ → ℕ → ℕ → Option ℕ → Option ℕ → List ℕ → List ℕ
written n r v c s R =
    set
    (set (set (set (set R (0 * n + r) v) (1 * n + r) (given_number c)) (2 * n + r) (key_number c)) (3 * n + r) (given_number s))
    (4 * n + r)
    (key_number s)

-- so are the tables and the index that are lent
abbrev pub IsIndexed : Tables → Index → Type 0
IsIndexed = of_index Indexed
