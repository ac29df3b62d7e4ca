-- Stamps: dates and times as octets, YYYYMMDDTHHMMSSZ. docs/RULES.md, 13.4.
use Rattle.std.specs.Prelude.{ℕ, Bool, false, cond, ◌&&◌, List, [], ◌∷◌, ◌++◌, leb, Option, None, Some}
use Rattle.basics.specs.Tests.{same_numbers}
use Rattle.civil_dates.specs.Dates.{month_days}
use Rattle.calendar_format.specs.Texts.{padded, after, then, or_else, number_at}

pub record Stamp : Type 0 where
  pub year : ℕ
  pub month : ℕ
  pub day : ℕ
  pub hour : ℕ
  pub minute : ℕ
  pub second : ℕ

-- 84 is T and 90 is Z
unfoldable pub stamp_text : Stamp → List ℕ
stamp_text x =
    padded 4 x.year ++ (padded 2 x.month ++ (padded 2 x.day ++ (84 ∷ (padded 2 x.hour ++ (padded 2 x.minute ++ (padded 2 x.second ++ (90 ∷ [])))))))

-- a month, a day of it, and a time of day; any year
unfoldable pub in_range : Stamp → Bool
in_range x =
    leb 1 x.month && (leb x.month 12 && (leb 1 x.day && (leb x.day (month_days x.year x.month)
    && (leb x.hour 23 && (leb x.minute 59 && leb x.second 60)))))

-- the numbers that a text is, in their ranges or not
unfoldable pub stamp_at : List ℕ → Option Stamp
stamp_at s =
    then (number_at 4 s)
    (λ y. then (number_at 2 y.1)
    (λ m. then (number_at 2 m.1)
    (λ d. then (after (84 ∷ []) d.1)
    (λ t. then (number_at 2 t)
    (λ h. then (number_at 2 h.1)
    (λ i. then (number_at 2 i.1)
    (λ c. cond (same_numbers c.1 (90 ∷ [])) (Some (record { year = y.0; month = m.0; day = d.0; hour = h.0; minute = i.0; second = c.0 })) None)))))))

-- the text of such a date and time
unfoldable pub is_stamp : List ℕ → Bool
is_stamp s = or_else (stamp_at s) in_range false
