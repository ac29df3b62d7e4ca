-- The stated room suffices for any file, so what is written lies within the output. Assumes nothing.
use Prim.Native.Nat.{ℕ, ◌≤◌}
use mathlib.Core.Path.{◌≡◌, refl, ap}
use mathlib.Core.Logic.{◌⊎◌, inl, inr}
use mathlib.Core.Bool.{Bool, true}
use mathlib.Core.List.{List, ◌++◌}
use native.Mathlib.Omega.{arith}
use lib.Dec.{leb}
use lib.ListN.{length, replicate, length-replicate, length-append}
use lib.Seq.{sets, length-sets}
use borrow.Author.Tests.{leb-true}
use Rattle.std.specs.Prelude.{Ok, Err}
use Rattle.refusals.specs.Refusals.{Checked}
use Rattle.refusals.specs.declared.Refusal.{Refusal}
use Rattle.basics.specs.Tests.{all_of_below}
use Rattle.basics.proofs.Bools.{either, and_left}
use Rattle.basics.proofs.Below.{all_of_below-length, count_below_le}
use Rattle.basics.proofs.Sorting.{length-sort}
use Rattle.refusals.specs.declared.Refusal.TheVariants as refusal
use Rattle.rules.specs.Board.{Board}
use Rattle.rules.specs.Roster.{Roster}
use Rattle.rules.specs.Ranks.{position_before}
use Rattle.refusals.specs.Answers.{unless_refused}
use Rattle.refusals.proofs.AnswerLaws.{ok-err, is_yes, passed}
use Rattle.rotation.proofs.Rotating.{length-rotated}
use Rattle.assignment_order.specs.Positions.{holds_value, rows_by_position, assigned_rows}
use Rattle.window_kinds.specs.Kinds.{rematching, first_cursor}
use Rattle.listing_format.specs.Format.{Record, line_end, Accepted}
use Rattle.listing_shape.specs.FileBoard.{file_ranks, board_of, roster_from}
use Rattle.listing_shape.specs.Opening.{in_limits, size_refusal}
use Rattle.listing_shape.proofs.Determined.{decided}
use Rattle.listing_text.specs.Output.{output_header, moves_from, listing_text}
use Rattle.listing_moves.specs.WalkText.{moves_ahead, Bounded}
use Rattle.listing_moves.proofs.RoomLaws.{room-enough, header_long}
use Rattle.listing.specs.FileListing.{board_listing, file_listing, Left, leaves, refused, file_refusal, listed, ListingIs}
use Rattle.listing.proofs.EntryLaws.{file_bounded}

module _ (B : Board) (h : Roster) (few : B.rows ≤ 128) where
  abbrev order : List ℕ
  order = assigned_rows B file_ranks h 0

  order_few : length order ≤ 128
  unfolding assigned_rows rows_by_position
  order_few =
      omega (
        arith,
        length-rotated 0 (rows_by_position B file_ranks h),
        length-sort (position_before file_ranks) (all_of_below B.rows (holds_value h)),
        all_of_below-length (holds_value h) B.rows,
        count_below_le (holds_value h) B.rows,
      )

  board-fits : Bounded B → length (board_listing B h) ≤ 102423
  unfolding board_listing listing_text
  board-fits bounded =
      let moves = moves_ahead B h order (first_cursor rematching (length order) 4) in
      let room = (room-enough B h order order_few bounded 0 (replicate 102400 0) (omega (arith, length-replicate {A = ℕ} 102400 0))).lines in
      omega (arith, length-append (output_header ++ line_end) (moves_from 1 moves), header_long, length-replicate {A = ℕ} 102400 0)

-- 102,423 bytes are room for the listing of any file
pub file_fits : (rs : List Record) → in_limits (board_of rs) ≡ true → length (file_listing rs) ≤ 102423
unfolding in_limits
file_fits rs t = board-fits (board_of rs) (roster_from rs) (leb-true _ _ (and_left (leb (board_of rs).rows 128) _ t)) (file_bounded rs t)

-- where nothing is refused, the file is within the limits, and the output has the room
not_refused_so : (rs : List Record) (O : List ℕ) → file_refusal rs O ≡ Ok tt → (in_limits (board_of rs) ≡ true) × (102423 ≤ length O)
not_refused_so rs O z =
    let both = passed refusal.Room (size_refusal rs) (leb 102423 (length O)) z in
    (is_yes refusal.Sizes (in_limits (board_of rs)) both.0, leb-true _ _ both.1)

written_of : (rs : List Record) (O O' : List ℕ) (n : ℕ) (k : Checked) → file_refusal rs O ≡ k
    → leaves (Ok n) O' ≡ unless_refused (λ (r : Refusal). refused r O) (leaves (Ok (length (file_listing rs))) (sets O 0 (file_listing rs))) k → n ≤ length O'
unfolding unless_refused
written_of rs O O' n (Ok tt) e w =
    let (t, room) = not_refused_so rs O e in
    let answers : Ok n ≡ Ok (length (file_listing rs)) = ap (λ (x : Left). x.answer) w in
    let same : n ≡ length (file_listing rs) = cc in
    let bytes : O' ≡ sets O 0 (file_listing rs) = ap (λ (x : Left). x.output) w in
    omega (arith, same, file_fits rs t, ap length bytes, length-sets O 0 (file_listing rs))
written_of rs O O' n (Err r) e w = absurd (ok-err n r (ap (λ (x : Left). x.answer) w))

pub written-within : (input O : List ℕ) (s : Bool) (O' : List ℕ) (n : ℕ) → ListingIs input O s O' (Ok n) → n ≤ length O'
unfolding listed
written-within input O s O' n w =
    either s
    (λ t. go t (decided input))
    (λ f. absurd (ok-err n refusal.Room (ap (λ (x : Left). x.answer) (w.no_scratch f))))
  where
    go : s ≡ true → ((rs : List Record) × Accepted input rs) ⊎ ((rs : List Record) → Accepted input rs → ⊥) → n ≤ length O'
    go t (inl (rs, a)) = written_of rs O O' n (file_refusal rs O) refl (w.file t rs a)
    go t (inr m) = absurd (ok-err n refusal.Malformed (ap (λ (x : Left). x.answer) (w.malformed t m)))
