-- The laws of a driver's calendar. Those of its pieces stand beside: `after_iff`, `number_iff`, `day_iff`, `stamp_iff`, `event_iff`, `unfold_folded`. Assumes nothing.
use Prim.Native.Nat.{ℕ, ◌≤◌}
use mathlib.Core.Path.{◌≡◌, sym, ◌∙◌}
use mathlib.Core.Logic.{◌↔◌}
use mathlib.Core.Bool.{true}
use mathlib.Core.List.{List, [], append_cancel_left}
use Rattle.std.specs.Prelude.{Some}
use native.Mathlib.Omega.{arith}
use lib.ListN.{length, length-append}
use Rattle.basics.specs.Promises.{OneAnswer}
use Rattle.calendar_format.specs.Folding.{Folded}
use Rattle.calendar_format.specs.Stamps.{is_stamp}
use Rattle.calendar_format.specs.Format.{Duty, header, events, object, standing, Accepted, short_from}
use Rattle.calendar_format.specs.Slices.{duty_rows, object_long}
use Rattle.calendar_format.specs.Reading.{duties_in}
use Rattle.calendar_format.proofs.FoldLaws.{unfold_folded, folded_unfolded}
use Rattle.calendar_format.proofs.NoFold.{object_no_fold}
use Rattle.calendar_format.proofs.ReadBack.{read_form, read_accepted}
use Rattle.calendar_format.proofs.OneObject.{Plain, same-events}
use Rattle.calendar_format.proofs.ShortLines.{at_header, short_events}
use Rattle.calendar_format.proofs.Lengths.{header_long, events_long_lem, events_bound}

-- what is read is what the octets are a calendar of
pub read_back : (input : List ℕ) (D : List Duty) → duties_in input ≡ Some D ↔ Accepted input D
read_back input D = (read_form input D, read_accepted input D)

-- no octets are the calendar of two lists of duties, whatever the stamps
pub one_reading : (input : List ℕ) → OneAnswer (Accepted input)
one_reading input D E a b = let q : Some D ≡ Some E = sym (read_accepted input D a) ∙ read_accepted input E b in cc

-- what is taken is what is written, folded anywhere, and nothing else
pub accepted_iff : (input : List ℕ) (D : List Duty)
    → Accepted input D ↔ ((s : List ℕ) × (is_stamp s ≡ true) × (D ≡ [] → ⊥) × (standing 128 0 D ≡ true) × Folded (object s D) input)
accepted_iff input D = (
  λ c. let f = folded_unfolded input in (c.stamp, c.stamped, c.duties, c.rows, rw c.text at f),
  λ (s, i, n, h, f). record { stamp = s; stamped = i; duties = n; rows = h; text = unfold_folded f (object_no_fold s D i) },
)

-- what is written reads back, folded anywhere
pub folded_back : (s input : List ℕ) (D : List Duty) → is_stamp s ≡ true → (D ≡ [] → ⊥) → standing 128 0 D ≡ true → Folded (object s D) input
    → duties_in input ≡ Some D
folded_back s input D i n h f = read_accepted input D ((accepted_iff input D).1 (s, i, n, h, f))

-- no two lists of duties are one calendar, where days can be written
pub one_object : (s : List ℕ) (D E : List Duty) → Plain D → Plain E → object s D ≡ object s E → D ≡ E
unfolding object
one_object s D E p q h = same-events s D E p q (append_cancel_left header _ _ h)

-- no line reaches 75 octets: what is written need not be folded
pub short_lines : (s : List ℕ) (D : List Duty) → is_stamp s ≡ true → standing 128 0 D ≡ true → short_from 0 (object s D) ≡ true
unfolding object
short_lines s D i h = at_header (events s D) ∙ short_events s 0 D i h

-- how long it is, and at most
pub object_long_lem : (s : List ℕ) (D : List Duty) → is_stamp s ≡ true → length (object s D) ≡ object_long (duty_rows D)
unfolding object object_long
object_long_lem s D i = length-append header (events s D) ∙ omega (arith, header_long, events_long_lem s D i)

pub object_bound : (s : List ℕ) (D : List Duty) → is_stamp s ≡ true → standing 128 0 D ≡ true → length (object s D) ≤ 16626
unfolding object_long
object_bound s D i h = omega (arith, object_long_lem s D i, events_bound D h)
