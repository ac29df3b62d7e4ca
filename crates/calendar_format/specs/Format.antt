-- A driver's calendar of duties as octets. Each line ends with a carriage return and a line feed, written ⏎ here. docs/RULES.md, 13.2 and 13.5.
use Rattle.std.specs.Prelude.{ℕ, suc, ◌≡◌, Bool, true, cond, ◌&&◌, List, [], ◌∷◌, ◌++◌, eqb, leb, ltb}
use Rattle.decimals.specs.Decimals.{digits}
use Rattle.civil_dates.specs.Dates.{last_day}
use Rattle.calendar_format.specs.Folding.{unfolded}
use Rattle.calendar_format.specs.DateTexts.{date_text}
use Rattle.calendar_format.specs.Stamps.{is_stamp}

-- a row, and the day that it stands on, counted from 1970-01-01
pub record Duty : Type 0 where
  pub row : ℕ
  pub day : ℕ

-- ---- the fixed texts

-- the lines in front: `BEGIN:VCALENDAR⏎VERSION:2.0⏎PRODID:-//turepawon//roster//EN⏎`
unfoldable pub header : List ℕ
header =
    66 ∷ 69 ∷ 71 ∷ 73 ∷ 78 ∷ 58 ∷ 86 ∷ 67 ∷ 65 ∷ 76 ∷ 69 ∷ 78 ∷ 68 ∷ 65 ∷ 82 ∷ 13 ∷ 10
    ∷ 86 ∷ 69 ∷ 82 ∷ 83 ∷ 73 ∷ 79 ∷ 78 ∷ 58 ∷ 50 ∷ 46 ∷ 48 ∷ 13 ∷ 10
    ∷ 80 ∷ 82 ∷ 79 ∷ 68 ∷ 73 ∷ 68 ∷ 58 ∷ 45 ∷ 47 ∷ 47 ∷ 116 ∷ 117 ∷ 114 ∷ 101 ∷ 112 ∷ 97 ∷ 119 ∷ 111 ∷ 110 ∷ 47 ∷ 47 ∷ 114 ∷ 111 ∷ 115 ∷ 116 ∷ 101 ∷ 114 ∷ 47 ∷ 47 ∷ 69 ∷ 78 ∷ 13 ∷ 10 ∷ []

-- an event up to its stamp: `BEGIN:VEVENT⏎DTSTAMP:`
unfoldable pub opening : List ℕ
opening = 66 ∷ 69 ∷ 71 ∷ 73 ∷ 78 ∷ 58 ∷ 86 ∷ 69 ∷ 86 ∷ 69 ∷ 78 ∷ 84 ∷ 13 ∷ 10 ∷ 68 ∷ 84 ∷ 83 ∷ 84 ∷ 65 ∷ 77 ∷ 80 ∷ 58 ∷ []

-- from the stamp to the row: `⏎UID:turepawon-row-`
unfoldable pub named : List ℕ
named = 13 ∷ 10 ∷ 85 ∷ 73 ∷ 68 ∷ 58 ∷ 116 ∷ 117 ∷ 114 ∷ 101 ∷ 112 ∷ 97 ∷ 119 ∷ 111 ∷ 110 ∷ 45 ∷ 114 ∷ 111 ∷ 119 ∷ 45 ∷ []

-- from the date in the name to the date: `⏎DTSTART;VALUE=DATE:`
unfoldable pub starts : List ℕ
starts = 13 ∷ 10 ∷ 68 ∷ 84 ∷ 83 ∷ 84 ∷ 65 ∷ 82 ∷ 84 ∷ 59 ∷ 86 ∷ 65 ∷ 76 ∷ 85 ∷ 69 ∷ 61 ∷ 68 ∷ 65 ∷ 84 ∷ 69 ∷ 58 ∷ []

-- from the date to the row: `⏎SUMMARY:Duty `
unfoldable pub called : List ℕ
called = 13 ∷ 10 ∷ 83 ∷ 85 ∷ 77 ∷ 77 ∷ 65 ∷ 82 ∷ 89 ∷ 58 ∷ 68 ∷ 117 ∷ 116 ∷ 121 ∷ 32 ∷ []

-- from the row to the event's end: `⏎END:VEVENT⏎`
unfoldable pub closed : List ℕ
closed = 13 ∷ 10 ∷ 69 ∷ 78 ∷ 68 ∷ 58 ∷ 86 ∷ 69 ∷ 86 ∷ 69 ∷ 78 ∷ 84 ∷ 13 ∷ 10 ∷ []

-- the line behind: `END:VCALENDAR⏎`
unfoldable pub closing : List ℕ
closing = 69 ∷ 78 ∷ 68 ∷ 58 ∷ 86 ∷ 67 ∷ 65 ∷ 76 ∷ 69 ∷ 78 ∷ 68 ∷ 65 ∷ 82 ∷ 13 ∷ 10 ∷ []

-- ---- the events

-- an event up to its date; 45 is a hyphen
unfoldable pub lead : List ℕ → ℕ → List ℕ
lead s r = opening ++ (s ++ (named ++ (digits r ++ (45 ∷ []))))

-- what stands behind the first date
unfoldable pub rest : ℕ → ℕ → List ℕ
rest r d = starts ++ (date_text d ++ (called ++ (digits r ++ closed)))

-- the event of a row on a day, with a stamp
unfoldable pub event : List ℕ → ℕ → ℕ → List ℕ
event s r d = lead s r ++ (date_text d ++ rest r d)

-- the events, and the line behind
unfoldable pub events : List ℕ → List Duty → List ℕ
events s [] = closing
events s (x ∷ D) = event s x.row x.day ++ events s D

-- the whole calendar, not folded
unfoldable pub object : List ℕ → List Duty → List ℕ
object s D = header ++ events s D

-- ---- the rules

-- rows rise from r on and are below top, and days are up to 9999-12-31
unfoldable pub standing : ℕ → ℕ → List Duty → Bool
standing top r [] = true
standing top r (x ∷ D) = leb r x.row && (ltb x.row top && (leb x.day last_day && standing top (suc x.row) D))

-- the octets, as they are given, are a calendar of these duties, folded or not
pub record Accepted (input : List ℕ) (D : List Duty) : Type 0 where
  pub stamp : List ℕ
  pub stamped : is_stamp stamp ≡ true
  pub duties : D ≡ [] → ⊥
  pub rows : standing 128 0 D ≡ true
  pub text : unfolded input ≡ object stamp D

-- every line has less than 75 octets before its end, so at most 75 with the carriage return; `used` octets of the first have gone by
unfoldable pub short_from : ℕ → List ℕ → Bool
short_from used [] = true
short_from used (b ∷ l) = let next = short_from 0 l in let on = short_from (suc used) l in cond (eqb b 10) next (ltb used 75 && on)
