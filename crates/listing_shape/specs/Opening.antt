-- Opening a roster file: its records are read and counted. docs/RULES.md, 12.1 to 12.3.
use Rattle.std.specs.Prelude.{ℕ, ◌≡◌, Bool, ◌&&◌, List, leb, Ok, Err, Some}
use Rattle.refusals.specs.declared.Refusal.TheVariants as refusal
use Rattle.refusals.specs.Answers.{refused_unless}
use Rattle.refusals.specs.Refusals.{Checked, Answered}
use Rattle.refusals.specs.declared.Refusal.{Refusal}
use Rattle.rules.specs.Board.{Board}
use Rattle.assignment_tables.specs.declared.Shape.{Shape}
use Rattle.listing_format.specs.Format.{Record, Accepted}
use Rattle.listing_reading.specs.Cells.{Roster}
use Rattle.listing_shape.specs.declared.RosterFile.{RosterFile}
use Rattle.listing_shape.specs.FileBoard.{board_of}
use Rattle.listing_shape.specs.Counts.{file_shape}

-- 12.3: at most 128 rows and 64 values
unfoldable pub in_limits : Board → Bool
in_limits B = leb B.rows 128 && leb B.values 64

-- 12.3: records with too many rows or values are refused
abbrev pub size_refusal : List Record → Checked
size_refusal rs = refused_unless refusal.Sizes (in_limits (board_of rs))

-- the input is refused: for what its records are, or since it is the file of none
pub record Unopened (input : List ℕ) (r : Refusal) : Type 0 where
  pub file : (rs : List Record) → Accepted input rs → Err r ≡ size_refusal rs
  pub malformed : ((rs : List Record) → Accepted input rs → ⊥) → r ≡ refusal.Malformed

-- the input is the file of the n records that stand in front of the cells, and S is their shape
pub record Open (input before after : List ℕ) (S : Shape) (n : ℕ) : Type 0 where
  pub records : Roster input before after n
  pub told : Some S ≡ file_shape after n

-- 12.1, 12.3: what opening a file answers and leaves in the cells
abbrev pub OpenedIs : List ℕ → List ℕ → List ℕ → Answered RosterFile → Type 0
OpenedIs input before after (Err r) = Unopened input r
OpenedIs input before after (Ok f) = Open input before after f.shape f.count
