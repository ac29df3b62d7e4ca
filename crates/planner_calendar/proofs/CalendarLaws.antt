-- The calendar of a file, case by case. Assumes nothing.
use Prim.Native.Nat.{ℕ, ◌≤◌}
use mathlib.Core.Path.{◌≡◌, sym, ap, subst, ◌∙◌}
use mathlib.Core.List.{List}
use native.Mathlib.Omega.{arith}
use lib.ListN.{length, take}
use lib.IntN.{ℤ}
use lib.Seq.{length-take-le}
use Rattle.std.specs.Prelude.{Err, Ok}
use Rattle.refusals.specs.declared.Refusal.{Refusal}
use Rattle.refusals.specs.Refusals.{Answered, Checked}
use Rattle.basics.proofs.Bools.{clash}
use Rattle.rules.specs.Board.{Board}
use Rattle.rules.specs.Roster.{Roster}
use Rattle.assignment_tables.specs.declared.Shape.{Shape}
use Rattle.assignment_tables.specs.Layout.{marks_length, keys_length, ranks_length}
use Rattle.assignment_tables.specs.Tables.{board}
use Rattle.assignment_index.specs.Index.{roster_in}
use Rattle.assignment_state.specs.Admission.{Ready}
use Rattle.listing_room.specs.Room.{no_ranks}
use Rattle.listing_room.proofs.RoomLaws.{ranks-room}
use Rattle.listing_format.specs.Format.{Record}
use Rattle.listing_format.proofs.ReadBack.{one_reading}
use Rattle.listing_shape.specs.FileBoard.{board_of, roster_from}
use Rattle.listing_shape.specs.Opening.{size_refusal}
use Rattle.filed_rosters.specs.Filing.{roomy, marks_front, keys_front, records_front, members_front, Unfiled, Indexed, FiledIs, Stands}
use Rattle.filed_rosters.proofs.OpeningLaws.{records, accepted, not_too_large, same-board, same_roster, stands}
use Rattle.filed_rosters.proofs.StandLaws.{stands-small, ready_ends}
use Rattle.driver_calendar.specs.Calendars.{Left, leaves, duties, calendar_left}
use Rattle.driver_calendar.proofs.AnswerLaws.{was-refused}
use Rattle.planner_calendar.specs.FileCalendar.{refused, file_calendar, CalendarIs}

-- ---- an index in the fronts of slices, with ranks that say nothing

module _ (S : Shape) (m k R M : List ℕ) (w : Stands S m k R M) (P : List ℤ) (given : ℕ) (e : P ≡ no_ranks) (g : given ≡ ranks_length S) where
  pub ranks-within : given ≤ length P
  ranks-within = ranks-room P given e (omega (arith, (stands-small S m k R M w).few_rows))

  pub ranks_end : given ≡ length (take given P)
  ranks_end = sym (length-take-le given P ranks-within)

  module _ (a b : ℕ) (f : a ≡ marks_length S) (h : b ≡ keys_length S) where
    pub ready_so : Ready S (take a m) (take b k) (take given P) (records_front S R) (members_front S M)
    ready_so = ready_ends S m k R M w a b f h (take given P) (sym ranks_end ∙ g)

    pub index_calendar_so : (driver : ℕ) (stamp O : List ℕ) (x : Left) → x ≡ calendar_left (Ok tt) (duties (board S (take a m) (take b k)) (roster_in S.rows (records_front S R)) driver) stamp O
        → x ≡ calendar_left (Ok tt) (duties (board S (marks_front S m) (keys_front S k)) (roster_in S.rows (records_front S R)) driver) stamp O
    index_calendar_so driver stamp O x t = rw (← f, ← h) t

-- ---- the file

module _ (driver : ℕ) (input stamp O C m k R M D m' k' R' M' : List ℕ) (r : Answered Shape) (q : FiledIs input C m k R M D m' k' R' M' r) where
  pub not_filed : (n : Refusal) → r ≡ Err n → CalendarIs input driver stamp O (roomy C m k) O (Err n)
  not_filed n e =
      let u : Unfiled input (roomy C m k) n = subst (λ (x : Answered Shape). FiledIs input C m k R M D m' k' R' M' x) e q in
      record {
        no_scratch = λ f. ap (λ (i : Refusal). refused i O) (u.no_scratch f);
        file = λ t rs a. was-refused (size_refusal rs) (duties (board_of rs) (roster_from rs) driver) stamp O n (sym ((u.unopened t).file rs a));
        malformed = λ t none. ap (λ (i : Refusal). refused i O) ((u.unopened t).malformed none);
      }

  module _ (S : Shape) (e : r ≡ Ok S) (kept : length D ≡ length C) where
    w : Indexed input C m k R M D m' k' R' M' S
    w = subst (λ (x : Answered Shape). FiledIs input C m k R M D m' k' R' M' x) e q

    abbrev rs : List Record
    rs = records input C m k R M D m' k' R' M' S w

    pub index-stands : Stands S m' k' R' M'
    index-stands = stands input C m k R M D m' k' R' M' S w kept

    board_so : board S (marks_front S m') (keys_front S k') ≡ board_of rs
    board_so = same-board input C m k R M D m' k' R' M' S w kept

    roster_so : roster_in S.rows (records_front S R') ≡ roster_from rs
    roster_so = same_roster input C m k R M D m' k' R' M' S w kept

    -- the one list of records that the input is the file of decides
    pub calendar_so : (a : Answered ℕ) (O' : List ℕ) → leaves a O' ≡ calendar_left (Ok tt) (duties (board S (marks_front S m') (keys_front S k')) (roster_in S.rows (records_front S R')) driver) stamp O
        → CalendarIs input driver stamp O (roomy C m k) O' a
    calendar_so a O' t =
        let u = subst (λ (B : Board). leaves a O' ≡ calendar_left (Ok tt) (duties B (roster_in S.rows (records_front S R')) driver) stamp O) board_so t in
        let x = subst (λ (h : Roster). leaves a O' ≡ calendar_left (Ok tt) (duties (board_of rs) h driver) stamp O) roster_so u in
        let none_before : size_refusal rs ≡ Ok tt = not_too_large input C m k R M D m' k' R' M' S w in
        let v : leaves a O' ≡ file_calendar rs driver stamp O = x ∙ ap (λ (i : Checked). calendar_left i (duties (board_of rs) (roster_from rs) driver) stamp O) (sym none_before) in
        record {
          no_scratch = λ f. absurd (clash w.scratch f);
          file = λ z other b. v ∙ ap (λ (l : List Record). file_calendar l driver stamp O) (one_reading input rs other (accepted input C m k R M D m' k' R' M' S w) b);
          malformed = λ z none. absurd (none rs (accepted input C m k R M D m' k' R' M' S w));
        }
