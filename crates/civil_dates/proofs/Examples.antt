-- Days and dates by computation. Assumes nothing.
use Prim.Native.Nat.{ℕ, ◌+◌}
use mathlib.Core.Path.{◌≡◌, refl, sym, ◌∙◌}
use mathlib.Core.Bool.{true}
use native.Mathlib.Omega.{arith}
use Rattle.civil_dates.specs.declared.Date.{Date}
use Rattle.civil_dates.specs.Parts.{total, part, part_by}
use Rattle.civil_dates.specs.Dates.{leap, month_days, month_long, year_long, is_date, date_of, day_number, last_day}
use Rattle.civil_dates.proofs.PartLaws.{total-more}
use Rattle.civil_dates.proofs.DateLaws.{years_all, date_of_lem, one_date, is-date_iff}

abbrev date : ℕ → ℕ → ℕ → Date
date y m d = record { year = y; month = m; day = d }

first_day : (date_of 0 ≡ date 1970 1 1) × (day_number (date 1970 1 1) ≡ 0)
unfolding date_of day_number part part_by total leap month_days
first_day = (refl, refl)

-- 2000 is a leap year
leap_day : (date_of 11016 ≡ date 2000 2 29) × (day_number (date 2000 2 29) ≡ 11016)
unfolding date_of day_number part part_by total leap month_days
leap_day = (refl, refl)

-- 2100 is none
no_leap_day : (date_of 47540 ≡ date 2100 2 28) × (day_number (date 2100 2 28) ≡ 47540)
unfolding date_of day_number part part_by total leap month_days
no_leap_day = (refl, refl)

march_follows : (date_of 47541 ≡ date 2100 3 1) × (day_number (date 2100 3 1) ≡ 47541)
unfolding date_of day_number part part_by total leap month_days
march_follows = (refl, refl)

-- 9999-12-31, by the law of all years: a year at a time would be long
year_9999 : (year_long 8029 ≡ 365) × (total (month_long 9999) 11 ≡ 334)
unfolding total leap month_days
year_9999 = (refl, refl)

last_number : day_number (date 9999 12 31) ≡ total year_long 8029 + (total (month_long 9999) 11 + 30)
unfolding day_number
last_number = refl

last_is-date : is_date (date 9999 12 31) ≡ true
unfolding is_date month_days
last_is-date = refl

pub last_day_lem : (date_of last_day ≡ date 9999 12 31) × (day_number (date 9999 12 31) ≡ last_day)
last_day_lem =
    let e : day_number (date 9999 12 31) ≡ last_day = last_number ∙ omega (arith, years_all, total-more year_long 8029, year_9999.0, year_9999.1) in
    let (p, q) = date_of_lem last_day in
    (one_date (date_of last_day) (date 9999 12 31) p ((is-date_iff (date 9999 12 31)).0 last_is-date) (q ∙ sym e), e)
