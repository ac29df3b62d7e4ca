-- Small texts, by the definitions alone. Assumes nothing.
use Prim.Native.Nat.{ℕ}
use mathlib.Core.Path.{◌≡◌, refl, ap}
use mathlib.Core.Bool.{true, false}
use mathlib.Core.List.{List, [], ◌∷◌, ◌++◌}
use Rattle.std.specs.Prelude.{None}
use Rattle.basics.specs.Tests.{same_numbers}
use Rattle.decimals.specs.Decimals.{digits, digits_by}
use Rattle.civil_dates.specs.Parts.{total, part, part_by}
use Rattle.civil_dates.specs.Dates.{leap, month_days, is_date, day_number, date_of, last_day}
use Rattle.civil_dates.proofs.Examples as dates
use Rattle.calendar_format.specs.Folding.{is_blank, fold_here, unfold_by, unfolded}
use Rattle.calendar_format.specs.Texts.{padded, after, then, or_else, digit_on, value_from, value_of, number_at}
use Rattle.calendar_format.specs.DateTexts.{written, date_text, date_at, day_of}
use Rattle.calendar_format.specs.Stamps.{in_range, stamp_at, is_stamp}
use Rattle.calendar_format.specs.Format.{opening, named, starts, called, closed, closing, lead, rest, event}
use Rattle.calendar_format.specs.Reading.{prepend, event_at, events_from}

-- ---- folds, between a and b

by_a_space : unfolded (97 ∷ 13 ∷ 10 ∷ 32 ∷ 98 ∷ []) ≡ 97 ∷ 98 ∷ []
unfolding unfold_by fold_here is_blank
by_a_space = refl

by_a_tab : unfolded (97 ∷ 13 ∷ 10 ∷ 9 ∷ 98 ∷ []) ≡ 97 ∷ 98 ∷ []
unfolding unfold_by fold_here is_blank
by_a_tab = refl

-- two, and one without anything behind
twice_running : unfolded (97 ∷ 13 ∷ 10 ∷ 32 ∷ 13 ∷ 10 ∷ 32 ∷ 98 ∷ 13 ∷ 10 ∷ 32 ∷ []) ≡ 97 ∷ 98 ∷ []
unfolding unfold_by fold_here is_blank
twice_running = refl

-- a fold between a carriage return and a line feed: what is joined is not looked at again
joined : unfolded (13 ∷ 13 ∷ 10 ∷ 32 ∷ 10 ∷ 32 ∷ 98 ∷ []) ≡ 13 ∷ 10 ∷ 32 ∷ 98 ∷ []
unfolding unfold_by fold_here is_blank
joined = refl

-- ---- days

leap_day : date_text 11016 ≡ 50 ∷ 48 ∷ 48 ∷ 48 ∷ 48 ∷ 50 ∷ 50 ∷ 57 ∷ []
unfolding date_text written padded date_of part part_by total leap month_days
leap_day = refl

last_day_lem : date_text last_day ≡ 57 ∷ 57 ∷ 57 ∷ 57 ∷ 49 ∷ 50 ∷ 51 ∷ 49 ∷ []
unfolding date_text written padded
last_day_lem = ap written (dates.last_day_lem).0

-- 2100-02-29
no_such_day : day_of (50 ∷ 49 ∷ 48 ∷ 48 ∷ 48 ∷ 50 ∷ 50 ∷ 57 ∷ []) ≡ None
unfolding day_of date_at number_at value_of value_from digit_on then is_date leap month_days
no_such_day = refl

-- ---- stamps

-- 2024-02-29, in a leap second
leap-second : is_stamp (50 ∷ 48 ∷ 50 ∷ 52 ∷ 48 ∷ 50 ∷ 50 ∷ 57 ∷ 84 ∷ 50 ∷ 51 ∷ 53 ∷ 57 ∷ 54 ∷ 48 ∷ 90 ∷ []) ≡ true
unfolding is_stamp or_else stamp_at in_range after number_at value_of value_from digit_on then same_numbers leap month_days
leap-second = refl

hour_24 : is_stamp (50 ∷ 48 ∷ 50 ∷ 52 ∷ 48 ∷ 50 ∷ 50 ∷ 57 ∷ 84 ∷ 50 ∷ 52 ∷ 48 ∷ 48 ∷ 48 ∷ 48 ∷ 90 ∷ []) ≡ false
unfolding is_stamp or_else stamp_at in_range after number_at value_of value_from digit_on then same_numbers leap month_days
hour_24 = refl

-- 2023-02-29
stamp_of_no_day : is_stamp (50 ∷ 48 ∷ 50 ∷ 51 ∷ 48 ∷ 50 ∷ 50 ∷ 57 ∷ 84 ∷ 48 ∷ 48 ∷ 48 ∷ 48 ∷ 48 ∷ 48 ∷ 90 ∷ []) ≡ false
unfolding is_stamp or_else stamp_at in_range after number_at value_of value_from digit_on then same_numbers leap month_days
stamp_of_no_day = refl

-- ---- events, with the stamp 19700101T000000Z

abbrev stamp : List ℕ
stamp = 49 ∷ 57 ∷ 55 ∷ 48 ∷ 48 ∷ 49 ∷ 48 ∷ 49 ∷ 84 ∷ 48 ∷ 48 ∷ 48 ∷ 48 ∷ 48 ∷ 48 ∷ 90 ∷ []

-- row 7 on 1970-01-01
row_7 : event stamp 7 0
    ≡ 66 ∷ 69 ∷ 71 ∷ 73 ∷ 78 ∷ 58 ∷ 86 ∷ 69 ∷ 86 ∷ 69 ∷ 78 ∷ 84 ∷ 13 ∷ 10
    ∷ 68 ∷ 84 ∷ 83 ∷ 84 ∷ 65 ∷ 77 ∷ 80 ∷ 58 ∷ 49 ∷ 57 ∷ 55 ∷ 48 ∷ 48 ∷ 49 ∷ 48 ∷ 49 ∷ 84 ∷ 48 ∷ 48 ∷ 48 ∷ 48 ∷ 48 ∷ 48 ∷ 90 ∷ 13 ∷ 10
    ∷ 85 ∷ 73 ∷ 68 ∷ 58 ∷ 116 ∷ 117 ∷ 114 ∷ 101 ∷ 112 ∷ 97 ∷ 119 ∷ 111 ∷ 110 ∷ 45 ∷ 114 ∷ 111 ∷ 119 ∷ 45 ∷ 55 ∷ 45 ∷ 49 ∷ 57 ∷ 55 ∷ 48 ∷ 48 ∷ 49 ∷ 48 ∷ 49 ∷ 13 ∷ 10
    ∷ 68 ∷ 84 ∷ 83 ∷ 84 ∷ 65 ∷ 82 ∷ 84 ∷ 59 ∷ 86 ∷ 65 ∷ 76 ∷ 85 ∷ 69 ∷ 61 ∷ 68 ∷ 65 ∷ 84 ∷ 69 ∷ 58 ∷ 49 ∷ 57 ∷ 55 ∷ 48 ∷ 48 ∷ 49 ∷ 48 ∷ 49 ∷ 13 ∷ 10
    ∷ 83 ∷ 85 ∷ 77 ∷ 77 ∷ 65 ∷ 82 ∷ 89 ∷ 58 ∷ 68 ∷ 117 ∷ 116 ∷ 121 ∷ 32 ∷ 55 ∷ 13 ∷ 10
    ∷ 69 ∷ 78 ∷ 68 ∷ 58 ∷ 86 ∷ 69 ∷ 86 ∷ 69 ∷ 78 ∷ 84 ∷ 13 ∷ 10 ∷ []
unfolding event lead rest opening named starts called closed digits digits_by date_text written padded date_of part part_by total leap month_days
row_7 = refl

-- a row that stands twice, the rows 0 and 1 tried
row-twice : events_from 2 0 stamp (event stamp 0 0 ++ (event stamp 0 0 ++ closing)) ≡ None
unfolding events_from event_at prepend after then or_else same_numbers event lead rest opening named starts called closed closing digits digits_by date_text written padded day_of date_at number_at value_of value_from digit_on is_date day_number date_of part part_by total leap month_days
row-twice = refl
