-- Days as octets, YYYYMMDD. docs/RULES.md, 13.2 and 13.3.
use Rattle.std.specs.Prelude.{ℕ, cond, List, ◌++◌, eqb, length, Option, None, Some}
use Rattle.civil_dates.specs.declared.Date.{Date}
use Rattle.civil_dates.specs.Dates.{is_date, day_number, date_of}
use Rattle.calendar_format.specs.Texts.{padded, then, number_at}

-- a date's text
unfoldable pub written : Date → List ℕ
written d = padded 4 d.year ++ (padded 2 d.month ++ padded 2 d.day)

-- the text of a day, counted from 1970-01-01
unfoldable pub date_text : ℕ → List ℕ
date_text n = written (date_of n)

-- the numbers that eight digits are, whether there is such a date or not
unfoldable pub date_at : List ℕ → Option Date
date_at t =
    then (number_at 4 t)
    (λ y. then (number_at 2 y.1)
    (λ m. then (number_at 2 m.1)
    (λ d. cond (eqb (length d.1) 0) (Some (record { year = y.0; month = m.0; day = d.0 })) None)))

-- the day that a text is of
unfoldable pub day_of : List ℕ → Option ℕ
day_of t = then (date_at t) (λ d. cond (is_date d) (Some (day_number d)) None)
