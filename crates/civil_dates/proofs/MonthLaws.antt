-- The days of a month and of a year, and the test of a date, as the code finds them: b is the answer whether the year is a leap year. Assumes nothing.
use Prim.Native.Nat.{ℕ}
use mathlib.Core.Path.{◌≡◌, sym, ap, ◌∙◌}
use mathlib.Core.Bool.{Bool, true, false, cond, ◌&&◌, ◌||◌}
use lib.Dec.{eqb, leb}
use borrow.Author.Tests.{eq-eqb, ne_eqb}
use Rattle.civil_dates.specs.declared.Date.{Date}
use Rattle.civil_dates.specs.Parts.{total}
use Rattle.civil_dates.specs.Dates.{leap, month_days, month_long, is_date}
use Rattle.civil_dates.proofs.DateLaws.{year_days}

module _ (y m : ℕ) where
  pub february : (b : Bool) → m ≡ 2 → b ≡ leap y → cond b 29 28 ≡ month_days y m
  unfolding month_days
  february b e p = rw (eq-eqb m 2 e, p)

  pub short_month : (m ≡ 2 → ⊥) → eqb m 4 || (eqb m 6 || (eqb m 9 || eqb m 11)) ≡ true → 30 ≡ month_days y m
  unfolding month_days
  short_month n t = rw (ne_eqb m 2 n, t)

  pub long_month : (m ≡ 2 → ⊥) → eqb m 4 || (eqb m 6 || (eqb m 9 || eqb m 11)) ≡ false → 31 ≡ month_days y m
  unfolding month_days
  long_month n f = rw (ne_eqb m 2 n, f)

pub year_long : (y : ℕ) (b : Bool) → b ≡ leap y → cond b 366 365 ≡ total (month_long y) 12
year_long y b p = ap (λ (c : Bool). cond c 366 365) p ∙ sym (year_days y)

pub date-tested : (d : Date) (n : ℕ) → n ≡ month_days d.year d.month
    → leb 1970 d.year && (leb 1 d.month && (leb d.month 12 && (leb 1 d.day && leb d.day n))) ≡ is_date d
unfolding is_date
date-tested d n e = rw e
