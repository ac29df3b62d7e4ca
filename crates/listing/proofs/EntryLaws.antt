-- The answers of the entry, case by case. Assumes nothing.
use Prim.Native.Nat.{ℕ, ◌≤◌, ◌<◌}
use mathlib.Core.Path.{◌≡◌, sym, ap, subst, ◌∙◌}
use mathlib.Core.Bool.{true}
use mathlib.Core.List.{List}
use native.Mathlib.Nat.{zero-add}
use native.Mathlib.Omega.{arith}
use lib.Dec.{leb}
use lib.ListN.{length}
use lib.Seq.{sets}
use borrow.Author.Tests.{le-leb, lt-leb, leb-true}
use Rattle.std.specs.Prelude.{Ok, Err}
use Rattle.refusals.specs.Refusals.{Answered}
use Rattle.refusals.specs.declared.Refusal.{Refusal}
use Rattle.basics.proofs.Bools.{clash, and_left, and_right}
use Rattle.refusals.specs.declared.Refusal.TheVariants as refusal
use Rattle.refusals.proofs.AnswerLaws.{refused-before, refused-room, not_refused}
use Rattle.rules.specs.Board.{Board}
use Rattle.rules.specs.Roster.{Roster}
use Rattle.assignment_tables.specs.declared.Shape.{Shape}
use Rattle.assignment_tables.specs.Tables.{board}
use Rattle.assignment_index.specs.Index.{roster_in}
use Rattle.listing_format.specs.Format.{Record, record_at}
use Rattle.listing_format.proofs.ReadBack.{one_reading}
use Rattle.listing_shape.specs.FileBoard.{board_of, roster_from}
use Rattle.listing_shape.specs.Opening.{in_limits, size_refusal}
use Rattle.listing_tables.proofs.BoardLaws.{legal_small}
use Rattle.written_text.specs.Wrote.{Wrote}
use Rattle.listing_moves.specs.WalkText.{Bounded}
use Rattle.filed_rosters.specs.Filing.{roomy, marks_front, keys_front, records_front, Unfiled, Indexed, FiledIs, Stands}
use Rattle.filed_rosters.proofs.OpeningLaws.{records, accepted, within_limits, not_too_large, same-board, same_roster, stands}
use Rattle.listing.specs.FileListing.{board_listing, file_listing, Left, leaves, refused, listed, ListingIs}

-- rows and values of a file that is not refused are short numbers
pub file_bounded : (rs : List Record) → in_limits (board_of rs) ≡ true → Bounded (board_of rs)
unfolding in_limits
file_bounded rs t =
    let rows = leb-true _ _ (and_left (leb (board_of rs).rows 128) _ t) in
    let values = leb-true _ _ (and_right (leb (board_of rs).rows 128) _ t) in
    record { small = λ r v g. let (a, b) = legal_small (record_at rs) (length rs) rows values r v g in (omega arith, omega arith) }

abbrev said : List ℕ → Refusal → Left
said O r = refused r O

abbrev answer : List Record → List ℕ → Left
answer rs O = leaves (Ok (length (file_listing rs))) (sets O 0 (file_listing rs))

-- a file that is refused for its size is told so
size_refused : (rs : List Record) (O : List ℕ) (r : Refusal) → Err r ≡ size_refusal rs → said O r ≡ listed rs O
unfolding listed
size_refused rs O r e = refused-before (said O) (answer rs O) (size_refusal rs) (leb 102423 (length O)) r (sym e)

module _ (input O C m k R M D m' k' R' M' : List ℕ) (r : Answered Shape) (q : FiledIs input C m k R M D m' k' R' M' r) where
  pub not_filed : (n : Refusal) → r ≡ Err n → ListingIs input O (roomy C m k) O (Err n)
  not_filed n e =
      let u : Unfiled input (roomy C m k) n = subst (λ (x : Answered Shape). FiledIs input C m k R M D m' k' R' M' x) e q in
      record {
        no_scratch = λ f. ap (said O) (u.no_scratch f);
        file = λ t rs a. size_refused rs O n ((u.unopened t).file rs a);
        malformed = λ t none. ap (said O) ((u.unopened t).malformed none);
      }

  module _ (S : Shape) (e : r ≡ Ok S) (kept : length D ≡ length C) where
    w : Indexed input C m k R M D m' k' R' M' S
    w = subst (λ (x : Answered Shape). FiledIs input C m k R M D m' k' R' M' x) e q

    abbrev rs : List Record
    rs = records input C m k R M D m' k' R' M' S w

    abbrev B : Board
    B = board S (marks_front S m') (keys_front S k')

    abbrev h : Roster
    h = roster_in S.rows (records_front S R')

    board_so : B ≡ board_of rs
    board_so = same-board input C m k R M D m' k' R' M' S w kept

    roster_so : h ≡ roster_from rs
    roster_so = same_roster input C m k R M D m' k' R' M' S w kept

    -- the one list of records that the input is the file of decides
    decides : (a : Answered ℕ) (O' : List ℕ) → leaves a O' ≡ listed rs O → ListingIs input O (roomy C m k) O' a
    decides a O' v = record {
      no_scratch = λ f. absurd (clash w.scratch f);
      file = λ z other b. v ∙ ap (λ (l : List Record). listed l O) (one_reading input rs other (accepted input C m k R M D m' k' R' M' S w) b);
      malformed = λ z none. absurd (none rs (accepted input C m k R M D m' k' R' M' S w));
    }

    small_file : size_refusal rs ≡ Ok tt
    small_file = not_too_large input C m k R M D m' k' R' M' S w

    pub index-stands : Stands S m' k' R' M'
    index-stands = stands input C m k R M D m' k' R' M' S w kept

    pub bounded : Bounded B
    bounded = subst Bounded (sym board_so) (file_bounded rs (within_limits input C m k R M D m' k' R' M' S w))

    pub too_short : length O < 102423 → ListingIs input O (roomy C m k) O (Err refusal.Room)
    unfolding listed
    too_short l = decides (Err refusal.Room) O (refused-room (said O) (answer rs O) (size_refusal rs) (leb 102423 (length O)) small_file (lt-leb _ _ l))

    pub written_so : 102423 ≤ length O → (O' : List ℕ) (n : ℕ) → Wrote O 0 (board_listing B h) O' n → ListingIs input O (roomy C m k) O' (Ok n)
    unfolding listed
    written_so l O' n t =
        let v : Wrote O 0 (file_listing rs) O' n = rw (← board_so, ← roster_so) t in
        decides (Ok n) O'
        (rw (v.place ∙ zero-add (length (file_listing rs)), v.bytes) (not_refused (said O) (answer rs O) (size_refusal rs) (leb 102423 (length O)) small_file (le-leb _ _ l)))
