-- How long a calendar is, and how long at most. Assumes nothing.
use Prim.Native.Nat.{ℕ, suc, ◌+◌, ◌≤◌}
use mathlib.Core.Path.{◌≡◌, refl, ap, ◌∙◌}
use mathlib.Core.Bool.{true}
use mathlib.Core.List.{List, [], ◌∷◌, ◌++◌}
use native.Mathlib.Omega.{arith}
use lib.ListN.{length, length-append}
use Rattle.decimals.specs.Decimals.{digits, digits_by}
use Rattle.civil_dates.specs.Parts.{total}
use Rattle.civil_dates.proofs.PartLaws.{total-more, total_le}
use Rattle.calendar_format.specs.Stamps.{is_stamp}
use Rattle.calendar_format.specs.Format.{Duty, header, opening, closing, named, starts, called, closed, event, events, standing}
use Rattle.calendar_format.specs.Slices.{duty_rows, event_long, events_long}
use Rattle.calendar_format.proofs.DateTextLaws.{date_long}
use Rattle.calendar_format.proofs.StampLaws.{stamp_long}
use Rattle.calendar_format.proofs.StandingLaws.{stands}
use Rattle.calendar_format.proofs.EventLaws.{event-all, events_none, events-more}

pub header_long : length header ≡ 63
unfolding header
header_long = refl

closing_long : length closing ≡ 15
unfolding closing
closing_long = refl

record Pieces : Type 0 where
  stamp : length opening ≡ 22
  name : length named ≡ 20
  start : length starts ≡ 21
  summary : length called ≡ 15
  end : length closed ≡ 14

pieces : Pieces
unfolding opening named starts called closed
pieces = record { stamp = refl; name = refl; start = refl; summary = refl; end = refl }

event_long_lem : (s : List ℕ) (r d : ℕ) (t : List ℕ) → is_stamp s ≡ true → length (event s r d ++ t) ≡ event_long r + length t
event_long_lem s r d t i =
    ap length (event-all s r d t)
    ∙ simp length-append (omega (arith, pieces.stamp, pieces.name, pieces.start, pieces.summary, pieces.end, stamp_long s i, date_long d))

pub events_long_lem : (s : List ℕ) (D : List Duty) → is_stamp s ≡ true → length (events s D) ≡ events_long (duty_rows D) + 15
unfolding events_long duty_rows
events_long_lem s [] i = ap length (events_none s) ∙ closing_long
events_long_lem s (x ∷ D) i = ap length (events-more s x D) ∙ event_long_lem s x.row x.day (events s D) i ∙ omega (arith, events_long_lem s D i)

-- rows that rise have at most the events of every row from r on
rising_long : (r : ℕ) (D : List Duty) → r ≤ 128 → standing 128 r D ≡ true → total event_long r + events_long (duty_rows D) ≤ total event_long 128
unfolding events_long duty_rows
rising_long r [] l h = omega (arith, total_le event_long r 128 l)
rising_long r (x ∷ D) l h =
    let c = stands 128 r x D h in
    omega (arith, total_le event_long r x.row c.from, total-more event_long x.row, rising_long (suc x.row) D c.below c.more)

every_row : total event_long 128 ≡ 16548
unfolding total digits digits_by
every_row = refl

none_before : total event_long 0 ≡ 0
unfolding total
none_before = refl

pub events_bound : (D : List Duty) → standing 128 0 D ≡ true → events_long (duty_rows D) ≤ 16548
events_bound D h = omega (arith, rising_long 0 D (omega arith) h, every_row, none_before)
