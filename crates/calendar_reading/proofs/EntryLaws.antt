-- The object behind its header, and the answers case by case. Assumes nothing.
use Prim.Native.Nat.{ℕ, ◌≤◌, ◌<◌}
use mathlib.Core.Path.{◌≡◌, sym, ap, subst, ◌∙◌}
use mathlib.Core.Bool.{Bool, true, false, not, cond}
use mathlib.Core.List.{List}
use Rattle.std.specs.Prelude.{Option, None, Some, Ok, Err}
use native.Mathlib.Omega.{arith}
use lib.ListN.{length, take}
use lib.Seq.{length-take-le}
use borrow.Author.Tests.{le-leb, lt-leb, not-true, not-false}
use Rattle.basics.proofs.Bools.{either}
use Rattle.refusals.specs.declared.Refusal.TheVariants as refusal
use Rattle.outputs.specs.Outputs.{fronted}
use Rattle.calendar_format.specs.Texts.{after}
use Rattle.calendar_format.specs.Stamps.{is_stamp}
use Rattle.calendar_format.specs.Format.{Duty, header, opening}
use Rattle.calendar_format.specs.Slices.{InFronts}
use Rattle.calendar_format.specs.Reading.{events_from, stamped_events, duties_in}
use Rattle.calendar_format.proofs.AfterLaws.{then_some, then_none}
use Rattle.calendar_format.proofs.StampLaws.{stamp_long}
use Rattle.calendar_format.proofs.SliceLaws.{front_number, front_rows, front_days}
use Rattle.calendar_reading.specs.Places.{from, PlaceIs, CopiedIs}
use Rattle.calendar_reading.specs.Events.{EventsAre}
use Rattle.calendar_reading.specs.Reading.{leaves, given, given_if, reading}
use Rattle.std.proofs.lemmas.Option.{MatchOption-at_none, MatchOption-at_some}
use Rattle.calendar_reading.proofs.EventLaws.{take_short}

-- ---- the object, step by step as it is read

module _ (bytes : List ℕ) (p₁ : Option ℕ) (q₁ : PlaceIs bytes (after header (from bytes 0)) p₁) where
  pub without-header : p₁ ≡ None → duties_in bytes ≡ None
  unfolding duties_in
  without-header e = then_none (after header (from bytes 0)) _ (MatchOption-at_none _ _ e q₁)

  module _ (start : ℕ) (e₁ : p₁ ≡ Some start) where
    pub start_within : start ≤ length bytes
    start_within = (MatchOption-at_some _ _ start e₁ q₁).0

    behind-header : duties_in bytes ≡ stamped_events (from bytes start)
    unfolding duties_in
    behind-header = then_some (after header (from bytes 0)) _ _ (MatchOption-at_some _ _ start e₁ q₁).1

    module _ (p₂ : Option ℕ) (q₂ : PlaceIs bytes (after opening (from bytes start)) p₂) where
      pub without-opening : p₂ ≡ None → duties_in bytes ≡ None
      unfolding stamped_events
      without-opening e = behind-header ∙ then_none (after opening (from bytes start)) _ (MatchOption-at_none _ _ e q₂)

      module _ (stamped : ℕ) (e₂ : p₂ ≡ Some stamped) where
        pub stamped_within : stamped ≤ length bytes
        stamped_within = (MatchOption-at_some _ _ stamped e₂ q₂).0

        abbrev stamp_there : List ℕ
        stamp_there = take 16 (from bytes stamped)

        behind-opening : duties_in bytes ≡ cond (is_stamp stamp_there) (events_from 128 0 stamp_there (from bytes start)) None
        unfolding stamped_events
        behind-opening = behind-header ∙ then_some (after opening (from bytes start)) _ _ (MatchOption-at_some _ _ stamped e₂ q₂).1

        module _ (stamp : List ℕ) (p₃ : Option ℕ) (q₃ : CopiedIs bytes (from bytes stamped) 16 stamp p₃) where
          pub without-stamp : p₃ ≡ None → duties_in bytes ≡ None
          without-stamp e =
              either (is_stamp stamp_there)
              (λ t. absurd (omega (arith, stamp_long stamp_there t, take_short 16 (from bytes stamped) (MatchOption-at_none _ _ e q₃))))
              (λ f. behind-opening ∙ rw f)

          module _ (next : ℕ) (e₃ : p₃ ≡ Some next) (b : Bool) (eb : b ≡ is_stamp stamp) where
            copied : stamp ≡ stamp_there
            copied = (MatchOption-at_some _ _ next e₃ q₃).1

            judged : b ≡ is_stamp stamp_there
            judged = eb ∙ ap is_stamp copied

            pub with_another-stamp : not b ≡ true → duties_in bytes ≡ None
            with_another-stamp f = behind-opening ∙ rw (sym judged ∙ not-true b f)

            pub its_events : not b ≡ false → (rs ds : List ℕ) (r : Option ℕ) → EventsAre (events_from 128 0 stamp (from bytes start)) rs ds r → EventsAre (duties_in bytes) rs ds r
            its_events f rs ds r w =
                let e : duties_in bytes ≡ events_from 128 0 stamp (from bytes start) = behind-opening ∙ rw (sym judged ∙ not-false b f) (ap (λ (s : List ℕ). events_from 128 0 s (from bytes start)) (sym copied)) in
                subst (λ (o : Option (List Duty)). EventsAre o rs ds r) (sym e) w

-- ---- the answers

module _ (input O U : List ℕ) where
  pub no_calendar : duties_in input ≡ None → leaves (Err refusal.NoCalendar) O U ≡ reading input O U
  unfolding given_if
  no_calendar e = rw e

  module _ (D : List Duty) (rs ds : List ℕ) (n : ℕ) (e : duties_in input ≡ Some D) (w : InFronts D rs ds n) where
    reading-is : reading input O U ≡ given D O U
    unfolding given_if
    reading-is = rw e

    number : length D ≡ n
    number = front_number D rs ds n w

    pub short_of_rows : length O < n → leaves (Err refusal.Room) O U ≡ reading input O U
    unfolding given
    short_of_rows l = sym (reading-is ∙ rw (number, lt-leb n (length O) l))

    pub short_of_days : n ≤ length O → length U < n → leaves (Err refusal.Room) O U ≡ reading input O U
    unfolding given
    short_of_days k l = sym (reading-is ∙ rw (number, le-leb n (length O) k, lt-leb n (length U) l))

    pub rows_there : n ≤ length rs
    rows_there = w.rows_room

    pub days_there : n ≤ length ds
    days_there = w.days_room

    pub rows_long : n ≡ length (take n rs)
    rows_long = sym (length-take-le n rs w.rows_room)

    pub days_long : n ≡ length (take n ds)
    days_long = sym (length-take-le n ds w.days_room)

    pub all-given : n ≤ length O → n ≤ length U → (O' U' : List ℕ) → O' ≡ fronted (take n rs) O → U' ≡ fronted (take n ds) U
        → leaves (Ok n) O' U' ≡ reading input O U
    unfolding given
    all-given k l O' U' p q =
        rw (p, q, front_rows D rs ds n w, front_days D rs ds n w) (sym (reading-is ∙ rw (number, le-leb n (length O) k, le-leb n (length U) l)))
