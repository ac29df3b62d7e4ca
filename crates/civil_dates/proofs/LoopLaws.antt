-- What the loops over whole years and over whole months cite: pieces taken off a number, and pieces added up. Assumes nothing.
use Prim.Native.Nat.{ℕ, suc, ◌+◌, ◌-◌, ◌≤◌, ◌<◌}
use mathlib.Core.Path.{◌≡◌, refl, sym, ap, ◌∙◌}
use native.Mathlib.Numerals.{add-one}
use native.Mathlib.Omega.{arith}
use Rattle.civil_dates.specs.declared.Date.{Date}
use Rattle.civil_dates.specs.declared.Part.{Part}
use Rattle.civil_dates.specs.Parts.{total, part}
use Rattle.civil_dates.specs.Dates.{month_days, month_long, year_long, day_number, date_of}
use Rattle.civil_dates.proofs.PartLaws.{total-more, total_none, total_le, total_some, in_part, one_part}
use Rattle.civil_dates.proofs.DateLaws.{year_some}

total_next : (long : ℕ → ℕ) (i : ℕ) → total long (i + 1) ≡ total long i + long i
total_next long i = ap (total long) (add-one i) ∙ total-more long i

-- ---- pieces taken off: so many are, and x is how long the next one is

pub record Taking (long : ℕ → ℕ) (n whole rest x : ℕ) : Type 0 where
  pub sum : total long whole + rest ≡ n
  pub next : x ≡ long whole

pub taking : (long : ℕ → ℕ) (n x : ℕ) → x ≡ long 0 → Taking long n 0 n x
taking long n x e = record { sum = omega (arith, total_none long); next = e }

pub taking_more : (long : ℕ → ℕ) (n w r x y : ℕ) → Taking long n w r x → x ≤ r → y ≡ long (w + 1) → Taking long n (w + 1) (r - x) y
taking_more long n w r x y t l e = record { sum = omega (arith, t.sum, t.next, total_next long w); next = e }

module _ (long : ℕ → ℕ) (some : (i : ℕ) → 1 ≤ long i) (n w r x : ℕ) (t : Taking long n w r x) where
  pub taking_few : w + r ≤ n
  taking_few = omega (arith, t.sum, total_some long some w)

  pub taking_less : x ≤ r → r - x < r
  taking_less l = omega (arith, t.next, some w)

  pub taken : r < x → record { whole = w; rest = r } ≡ part long n
  taken l =
      let i = in_part long some n in
      let (a, b) = one_part long w (part long n).whole r (part long n).rest (t.sum ∙ sym i.sum) (omega (arith, t.next)) i.less in
      λ k. record { whole = a k; rest = b k }

-- ---- pieces added up

pub record Adding (long : ℕ → ℕ) (n whole days : ℕ) : Type 0 where
  pub few : whole ≤ n
  pub sum : days ≡ total long whole

pub adding : (long : ℕ → ℕ) (n : ℕ) → Adding long n 0 0
adding long n = record { few = omega arith; sum = sym (total_none long) }

module _ (long : ℕ → ℕ) (n w d : ℕ) (a : Adding long n w d) where
  pub adding_bound : (x : ℕ) → w < n → x ≡ long w → d + x ≤ total long n
  adding_bound x l e = omega (arith, a.sum, total-more long w, total_le long (suc w) n (omega arith))

  pub adding_more : (x : ℕ) → w < n → x ≡ long w → Adding long n (w + 1) (d + x)
  adding_more x l e = record { few = omega arith; sum = omega (arith, a.sum, total_next long w) }

  pub added : n ≤ w → d ≡ total long n
  added g = let e : w ≡ n = omega (arith, a.few) in a.sum ∙ ap (total long) e

-- ---- months are counted from 1, pieces from 0

pub month_after : (y m x : ℕ) → x ≡ month_days y (m + 1) → x ≡ month_long y m
month_after y m x e = e ∙ ap (month_days y) (add-one m)

-- ---- the date, of its years and months

pub rest_in_year : (n : ℕ) (y : Part) → y ≡ part year_long n → y.rest < total (month_long (1970 + y.whole)) 12
rest_in_year n y e = rw e (in_part year_long year_some n).less

pub date-made : (n : ℕ) (y m : Part) → y ≡ part year_long n → m ≡ part (month_long (1970 + y.whole)) y.rest
    → record { year = 1970 + y.whole; month = m.whole + 1; day = m.rest + 1 } ≡ date_of n
unfolding date_of
date-made n y m e f =
    let years : 1970 + y.whole ≡ 1970 + (part year_long n).whole = ap (λ (p : Part). 1970 + p.whole) e in
    let months : m ≡ part (month_long (1970 + (part year_long n).whole)) (part year_long n).rest = f ∙ ap (λ (p : Part). part (month_long (1970 + p.whole)) p.rest) e in
    λ k.
    record {
      year = years k;
      month = (add-one m.whole ∙ ap (λ (p : Part). suc p.whole) months) k;
      day = (add-one m.rest ∙ ap (λ (p : Part). suc p.rest) months) k;
    }

pub number_parts : (d : Date) → day_number d ≡ total year_long (d.year - 1970) + (total (month_long d.year) (d.month - 1) + (d.day - 1))
unfolding day_number
number_parts d = refl
