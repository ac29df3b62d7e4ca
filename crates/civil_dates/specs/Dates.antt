-- Dates of the Gregorian calendar, and days counted from 1970-01-01. docs/RULES.md, 13.3.
use Rattle.std.specs.Prelude.{ℕ, suc, ◌+◌, ◌-◌, ◌%◌, ◌≤◌, Bool, not, cond, ◌&&◌, ◌||◌, eqb, leb}
use Rattle.civil_dates.specs.declared.Date.{Date}
use Rattle.civil_dates.specs.Parts.{total, part}

-- ---- years and months

-- 4 divides the year, and 100 does not unless 400 does
unfoldable pub leap : ℕ → Bool
leap y = eqb (y % 4) 0 && (not (eqb (y % 100) 0) || eqb (y % 400) 0)

-- the days of a month; months are counted from 1
unfoldable pub month_days : ℕ → ℕ → ℕ
month_days y m = cond (eqb m 2) (cond (leap y) 29 28) (cond (eqb m 4 || (eqb m 6 || (eqb m 9 || eqb m 11))) 30 31)

-- the days of the month behind m months of a year, and of the year behind n years from 1970 on
abbrev pub month_long : ℕ → ℕ → ℕ
month_long y m = month_days y (suc m)

abbrev pub year_long : ℕ → ℕ
year_long n = total (month_long (1970 + n)) 12

-- ---- dates

-- a day of the calendar, in or after 1970
pub record IsDate (d : Date) : Type 0 where
  pub year_from : 1970 ≤ d.year
  pub month_from : 1 ≤ d.month
  pub month_to : d.month ≤ 12
  pub day_from : 1 ≤ d.day
  pub day_to : d.day ≤ month_days d.year d.month

-- the same as a test
unfoldable pub is_date : Date → Bool
is_date d = leb 1970 d.year && (leb 1 d.month && (leb d.month 12 && (leb 1 d.day && leb d.day (month_days d.year d.month))))

-- how many days after 1970-01-01 a date is
unfoldable pub day_number : Date → ℕ
day_number d = total year_long (d.year - 1970) + (total (month_long d.year) (d.month - 1) + (d.day - 1))

-- the date that is so many days after 1970-01-01
unfoldable pub date_of : ℕ → Date
date_of n =
    let y = part year_long n in
    let m = part (month_long (1970 + y.whole)) y.rest in
    record { year = 1970 + y.whole; month = suc m.whole; day = suc m.rest }

-- 9999-12-31
abbrev pub last_day : ℕ
last_day = 2932896
