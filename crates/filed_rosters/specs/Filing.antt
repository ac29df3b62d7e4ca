-- A roster file's tables, and the index of its roster, in the fronts of lent slices. docs/RULES.md, 12.1 to 12.3.
use Rattle.std.specs.Prelude.{ℕ, ◌≤◌, ◌≡◌, Bool, true, false, ◌&&◌, List, leb, length, take, ℤ, Ok, Err, Some}
use Rattle.refusals.specs.declared.Refusal.TheVariants as refusal
use Rattle.refusals.specs.Refusals.{Answered}
use Rattle.refusals.specs.declared.Refusal.{Refusal}
use Rattle.outputs.specs.Outputs.{fronted}
use Rattle.assignment_tables.specs.declared.Shape.{Shape}
use Rattle.assignment_tables.specs.Layout.{marks_length, keys_length, ranks_length}
use Rattle.assignment_tables.specs.Tables.{capacity_at, sequence_at, ranks_of}
use Rattle.assignment_index.specs.Columns.{records_length, members_length}
use Rattle.assignment_index.specs.Index.{records_of, members_of}
use Rattle.assignment_state.specs.Admission.{Ready}
use Rattle.listing_reading.specs.Cells.{record_in}
use Rattle.listing_shape.specs.FileBoard.{file_ranks, file_roster}
use Rattle.listing_shape.specs.Counts.{file_shape}
use Rattle.listing_shape.specs.Opening.{Unopened, Open}
use Rattle.listing_tables.specs.Filled.{file_marks, file_keys}

-- the scratch for records, flags and keys has its stated sizes
unfoldable pub roomy : List ℕ → List ℕ → List ℕ → Bool
roomy cells marks keys = leb 51100 (length cells) && leb 49792 (length marks) && leb 16384 (length keys)

-- the records are in the cells, and their shape is this one
pub record Counted (cells : List ℕ) (n : ℕ) (S : Shape) : Type 0 where
  pub room : 51100 ≤ length cells
  pub few : n ≤ 7300
  pub told : Some S ≡ file_shape cells n

-- the index of the roster that the first n records tell
unfoldable pub file_records : Shape → List ℕ → ℕ → List ℕ
file_records S C n =
    records_of S.rows (capacity_at S (file_marks S C n) (file_keys S C n)) (sequence_at S (file_marks S C n) (file_keys S C n)) (file_roster n (record_in C))

abbrev pub file_members : Shape → List ℕ → ℕ → List ℕ
file_members S C n = members_of S.rows (file_records S C n)

-- the fronts of slices, as long as tables and index of a shape are
abbrev pub marks_front : Shape → List ℕ → List ℕ
marks_front S m = take (marks_length S) m

abbrev pub keys_front : Shape → List ℕ → List ℕ
keys_front S k = take (keys_length S) k

abbrev pub records_front : Shape → List ℕ → List ℕ
records_front S R = take (records_length S.rows) R

abbrev pub members_front : Shape → List ℕ → List ℕ
members_front S M = take (members_length S.rows) M

-- tables and index of the first n records stand in the fronts of four slices, whose rests are as they were
pub record Fronts (S : Shape) (C : List ℕ) (n : ℕ) (m k R M m' k' R' M' : List ℕ) : Type 0 where
  pub marks : m' ≡ fronted (file_marks S C n) m
  pub keys : k' ≡ fronted (file_keys S C n) k
  pub records : R' ≡ fronted (file_records S C n) R
  pub members : M' ≡ fronted (file_members S C n) M

-- refused without the scratch, and else as opening the file is
pub record Unfiled (input : List ℕ) (scratch : Bool) (r : Refusal) : Type 0 where
  pub no_scratch : scratch ≡ false → r ≡ refusal.Room
  pub unopened : scratch ≡ true → Unopened input r

-- the file was opened, and its tables and index are there
pub record Indexed (input C m k R M C' m' k' R' M' : List ℕ) (S : Shape) : Type 0 where
  pub scratch : roomy C m k ≡ true
  pub count : ℕ
  pub opened : Open input C C' S count
  pub fronts : Fronts S C' count m k R M m' k' R' M'

-- tables without ranks and an index in the fronts of four slices: admitted, whatever ranks of their length come with them
pub record Stands (S : Shape) (m k R M : List ℕ) : Type 0 where
  pub ready : (p : List ℤ) → length p ≡ ranks_length S → Ready S (marks_front S m) (keys_front S k) p (records_front S R) (members_front S M)
  pub unranked : (p : List ℤ) → ranks_of S (marks_front S m) p ≡ file_ranks
  pub marks_room : marks_length S ≤ length m
  pub keys_room : keys_length S ≤ length k
  pub records_room : records_length S.rows ≤ length R
  pub members_room : members_length S.rows ≤ length M

-- 12.1, 12.3: what opening a roster answers and leaves
abbrev pub FiledIs : List ℕ → List ℕ → List ℕ → List ℕ → List ℕ → List ℕ → List ℕ → List ℕ → List ℕ → List ℕ → List ℕ → Answered Shape → Type 0
FiledIs input C m k R M C' m' k' R' M' (Err r) = Unfiled input (roomy C m k) r
FiledIs input C m k R M C' m' k' R' M' (Ok S) = Indexed input C m k R M C' m' k' R' M' S
