-- What the listing of a roster file is, and what is refused. docs/RULES.md, 12.
use Rattle.std.specs.Prelude.{ℕ, ◌≡◌, Bool, true, false, List, leb, length, Ok, Err}
use Rattle.std.proofs.lemmas.List.Edits.{sets}
use Rattle.refusals.specs.declared.Refusal.TheVariants as refusal
use Rattle.refusals.specs.Refusals.{Checked, Answered}
use Rattle.refusals.specs.declared.Refusal.{Refusal}
use Rattle.rules.specs.Board.{Board}
use Rattle.rules.specs.Roster.{Roster}
use Rattle.refusals.specs.Answers.{then_room, unless_refused}
use Rattle.assignment_order.specs.Positions.{assigned_rows}
use Rattle.window_kinds.specs.Kinds.{rematching, first_cursor}
use Rattle.listing_format.specs.Format.{Record, Accepted}
use Rattle.listing_shape.specs.FileBoard.{file_ranks, board_of, roster_from}
use Rattle.listing_shape.specs.Opening.{size_refusal}
use Rattle.listing_text.specs.Output.{listing_text}
use Rattle.listing_moves.specs.WalkText.{moves_ahead}

-- 12.4: every move of the windows, at most four rows long, of the rows in order
unfoldable pub board_listing : Board → Roster → List ℕ
board_listing B h = let order = assigned_rows B file_ranks h 0 in listing_text (moves_ahead B h order (first_cursor rematching (length order) 4))

abbrev pub file_listing : List Record → List ℕ
file_listing rs = board_listing (board_of rs) (roster_from rs)

-- an answer, and what stands in the output then
pub record Left : Type 0 where
  pub answer : Answered ℕ
  pub output : List ℕ

abbrev pub leaves : Answered ℕ → List ℕ → Left
leaves a O = record { answer = a; output = O }

-- 11.11: a refusal leaves the output as it was
abbrev pub refused : Refusal → List ℕ → Left
refused r O = leaves (Err r) O

-- 12.3, 11.9: too many rows or values, and then too little room
abbrev pub file_refusal : List Record → List ℕ → Checked
file_refusal rs O = then_room (size_refusal rs) (leb 102423 (length O))

-- 12.4: the listing in front of the output, every byte behind it as it was
unfoldable pub listed : List Record → List ℕ → Left
listed rs O =
    unless_refused
    (λ (r : Refusal). refused r O)
    (leaves (Ok (length (file_listing rs))) (sets O 0 (file_listing rs)))
    (file_refusal rs O)

-- 12.1: what `listing` answers and leaves: of a roster file its listing, of any other input 9; nothing is read without the scratch
pub record ListingIs (input O : List ℕ) (scratch : Bool) (O' : List ℕ) (a : Answered ℕ) : Type 0 where
  pub no_scratch : scratch ≡ false → leaves a O' ≡ refused refusal.Room O
  pub file : scratch ≡ true → (rs : List Record) → Accepted input rs → leaves a O' ≡ listed rs O
  pub malformed : scratch ≡ true → ((rs : List Record) → Accepted input rs → ⊥) → leaves a O' ≡ refused refusal.Malformed O
