-- Opening a roster, case by case, and what its caller has of it. Assumes nothing.
use Prim.Native.Nat.{ℕ, ◌≤◌, ◌<◌}
use mathlib.Core.Path.{◌≡◌, refl, sym, ap, subst, ◌∙◌}
use mathlib.Core.Bool.{Bool, true, false, not, ◌&&◌}
use mathlib.Core.List.{List}
use native.Mathlib.Omega.{arith}
use lib.Dec.{leb}
use lib.ListN.{length}
use borrow.Author.Tests.{leb-true, not-true, not-false}
use Rattle.std.specs.Prelude.{Ok, Err}
use Rattle.refusals.specs.Refusals.{Answered}
use Rattle.refusals.specs.declared.Refusal.{Refusal}
use Rattle.basics.proofs.Bools.{clash, and_left, and_right}
use Rattle.refusals.specs.declared.Refusal.TheVariants as refusal
use Rattle.assignment_tables.specs.declared.Shape.{Shape}
use Rattle.assignment_tables.specs.Tables.{board}
use Rattle.assignment_index.specs.Index.{roster_in}
use Rattle.listing_format.specs.Format.{Record, record_at, Accepted}
use Rattle.listing_reading.specs.Cells.{record_in}
use Rattle.listing_shape.specs.declared.RosterFile.{RosterFile}
use Rattle.listing_shape.specs.FileBoard.{file_board, file_roster, board_of, roster_from}
use Rattle.listing_shape.specs.Opening.{in_limits, size_refusal, Open, OpenedIs}
use Rattle.listing_shape.proofs.OpenLaws.{same_record, few_records, in_limits_lem}
use Rattle.listing_tables.specs.Filled.{file_marks, file_keys}
use Rattle.listing_tables.proofs.SameRecords.{board_agrees, roster_agrees}
use Rattle.filed_rosters.specs.Filing.{roomy, Counted, file_records, file_members, marks_front, keys_front, records_front, members_front, Fronts, Unfiled, Indexed, Stands}
use Rattle.filed_rosters.proofs.IndexLaws.{marks_long, keys_long, records_long, members_long, board_filed, roster_filed, ranks_none, ready_filed}
use Rattle.filed_rosters.proofs.FrontLaws.{front-back, front-within}

-- ---- the scratch

room_of : (C m k : List ℕ) → roomy C m k ≡ true → (51100 ≤ length C) × (49792 ≤ length m) × (16384 ≤ length k)
unfolding roomy
room_of C m k t =
    let first = and_left (leb 51100 (length C) && leb 49792 (length m)) _ t in
    (leb-true _ _ (and_left (leb 51100 (length C)) _ first), leb-true _ _ (and_right (leb 51100 (length C)) _ first), leb-true _ _ (and_right (leb 51100 (length C) && leb 49792 (length m)) _ t))

pub no_room : (input C m k : List ℕ) (b : Bool) → b ≡ roomy C m k → not b ≡ true → Unfiled input (roomy C m k) refusal.Room
no_room input C m k b e h = record { no_scratch = λ z. refl; unopened = λ t. absurd (clash t (sym e ∙ not-true b h)) }

-- the cells are as long when they are filled
counted_of : (input C D : List ℕ) (S : Shape) (n : ℕ) → 51100 ≤ length C → length D ≡ length C → Open input C D S n → Counted D n S
counted_of input C D S n l kept w = record { room = omega arith; few = few_records input C D n w.records; told = w.told }

module _ (C m k : List ℕ) (b : Bool) (e : b ≡ roomy C m k) (h : not b ≡ false) where
  pub roomy_so : roomy C m k ≡ true
  roomy_so = sym e ∙ not-false b h

  pub room-told : (51100 ≤ length C) × (49792 ≤ length m) × (16384 ≤ length k)
  room-told = room_of C m k roomy_so

  -- ---- the input

  module _ (input D : List ℕ) (r : Answered RosterFile) (q : OpenedIs input C D r) where
    pub not_opened : (n : Refusal) → r ≡ Err n → Unfiled input (roomy C m k) n
    not_opened n f = record {
      no_scratch = λ z. absurd (clash roomy_so z);
      unopened = λ t. subst (λ (x : Answered RosterFile). OpenedIs input C D x) f q;
    }

    module _ (file : RosterFile) (f : r ≡ Ok file) (kept : length D ≡ length C) where
      opening : Open input C D file.shape file.count
      opening = subst (λ (x : Answered RosterFile). OpenedIs input C D x) f q

      pub counted : Counted D file.count file.shape
      counted = counted_of input C D file.shape file.count room-told.0 kept opening

      pub indexed : (R M m' k' R' M' : List ℕ) → Fronts file.shape D file.count m k R M m' k' R' M' → Indexed input C m k R M D m' k' R' M' file.shape
      indexed R M m' k' R' M' w = record { scratch = roomy_so; count = file.count; opened = opening; fronts = w }

-- ---- what the caller has

module _ (input C m k R M D m' k' R' M' : List ℕ) (S : Shape) (w : Indexed input C m k R M D m' k' R' M' S) where
  abbrev n : ℕ
  n = w.count

  abbrev pub records : List Record
  records = w.opened.records.list

  pub accepted : Accepted input records
  accepted = w.opened.records.accepted

  pub within_limits : in_limits (board_of records) ≡ true
  within_limits = in_limits_lem input C D n w.opened.records S w.opened.told

  pub not_too_large : size_refusal records ≡ Ok tt
  not_too_large = rw within_limits

  same : (i : ℕ) → i < n → record_in D i ≡ record_at records i
  same = same_record input C D n w.opened.records

  module _ (kept : length D ≡ length C) where
    count_known : Counted D n S
    count_known = counted_of input C D S n (room_of C m k w.scratch).0 kept w.opened

    marks-cut : marks_front S m' ≡ file_marks S D n
    marks-cut = front-back (file_marks S D n) m m' _ w.fronts.marks (marks_long D n S)

    keys-cut : keys_front S k' ≡ file_keys S D n
    keys-cut = front-back (file_keys S D n) k k' _ w.fronts.keys (keys_long D n S)

    records-cut : records_front S R' ≡ file_records S D n
    records-cut = front-back (file_records S D n) R R' _ w.fronts.records (records_long D n S)

    members_cut : members_front S M' ≡ file_members S D n
    members_cut = front-back (file_members S D n) M M' _ w.fronts.members (members_long D n S)

    pub same-board : board S (marks_front S m') (keys_front S k') ≡ board_of records
    same-board =
        rw (marks-cut, keys-cut) (board_filed D n S count_known)
        ∙ board_agrees n (record_in D) (record_at records) same ∙ ap (λ (i : ℕ). file_board i (record_at records)) w.opened.records.number

    pub same_roster : roster_in S.rows (records_front S R') ≡ roster_from records
    same_roster =
        ap (roster_in S.rows) records-cut ∙ roster_filed D n S count_known
        ∙ roster_agrees n (record_in D) (record_at records) same ∙ ap (λ (i : ℕ). file_roster i (record_at records)) w.opened.records.number

    pub stands : Stands S m' k' R' M'
    stands = record {
      ready = λ p l. rw (marks-cut, keys-cut, records-cut, members_cut) (ready_filed D n S count_known p l);
      unranked = λ p. rw marks-cut (ranks_none D n S count_known p);
      marks_room = front-within (file_marks S D n) m m' _ w.fronts.marks (marks_long D n S);
      keys_room = front-within (file_keys S D n) k k' _ w.fronts.keys (keys_long D n S);
      records_room = front-within (file_records S D n) R R' _ w.fronts.records (records_long D n S);
      members_room = front-within (file_members S D n) M M' _ w.fronts.members (members_long D n S);
    }
