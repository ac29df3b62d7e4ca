-- How long months and years are, and that each day has one date. Assumes nothing.
use Prim.Native.Nat.{ℕ, zero, suc, ◌+◌, ◌*◌, ◌-◌, ◌%◌, ◌≤◌, ◌<◌}
use mathlib.Core.Path.{◌≡◌, refl, sym, ap, ap₂, ◌∙◌}
use mathlib.Core.Logic.{◌↔◌}
use mathlib.Core.Bool.{Bool, true, cond, ◌||◌}
use native.Mathlib.Omega.{arith}
use lib.Dec.{eqb, leb}
use borrow.Author.Tests.{leb-true, le-leb}
use Rattle.basics.proofs.Bools.{either, by, and_left, and_right, and_join}
use Rattle.civil_dates.specs.declared.Date.{Date}
use Rattle.civil_dates.specs.declared.Part.{Part}
use Rattle.civil_dates.specs.Parts.{total, part}
use Rattle.civil_dates.specs.Dates.{leap, month_days, month_long, year_long, IsDate, is_date, day_number, date_of, last_day}
use Rattle.civil_dates.proofs.PartLaws.{total-more, total_none, total_le, In, in_part, one_part}

-- ---- how long months and years are

pub month_bounds : (y m : ℕ) → (28 ≤ month_days y m) × (month_days y m ≤ 31)
unfolding month_days
month_bounds y m =
    either (eqb m 2)
    (λ t. rw t (either (leap y) (λ u. rw u (omega arith, omega arith)) (λ u. rw u (omega arith, omega arith))))
    (λ f. rw f (either (eqb m 4 || (eqb m 6 || (eqb m 9 || eqb m 11))) (λ u. rw u (omega arith, omega arith)) (λ u. rw u (omega arith, omega arith))))

pub month_some : (y m : ℕ) → 1 ≤ month_long y m
month_some y m = omega (arith, (month_bounds y (suc m)).0)

pub year_some : (n : ℕ) → 1 ≤ year_long n
year_some n = omega (arith, total_le (month_long (1970 + n)) 1 12 (omega arith), total-more (month_long (1970 + n)) 0, month_some (1970 + n) 0)

pub year_days : (y : ℕ) → total (month_long y) 12 ≡ cond (leap y) 366 365
unfolding total month_days
year_days y = either (leap y) (λ t. rw t) (λ f. rw f)

pub year_bound : (y : ℕ) → total (month_long y) 12 ≤ 366
year_bound y = either (leap y) (λ t. rw (year_days y, t) (omega arith)) (λ f. rw (year_days y, f) (omega arith))

-- the calendar repeats after 400 years
leap_again : (y : ℕ) → leap (y + 400) ≡ leap y
unfolding leap
leap_again y =
    let a : (y + 400) % 4 ≡ y % 4 = omega arith in
    let b : (y + 400) % 100 ≡ y % 100 = omega arith in
    let c : (y + 400) % 400 ≡ y % 400 = omega arith in
    rw (a, b, c)

year_again : (n : ℕ) → year_long (n + 400) ≡ year_long n
year_again n =
    let y : 1970 + (n + 400) ≡ 1970 + n + 400 = omega arith in
    year_days (1970 + (n + 400)) ∙ ap (λ (b : Bool). cond b 366 365) (ap leap y ∙ leap_again (1970 + n)) ∙ sym (year_days (1970 + n))

first_400 : total year_long 400 ≡ 146097
unfolding total month_days leap
first_400 = refl

years_again : (n : ℕ) → total year_long (n + 400) ≡ total year_long n + 146097
years_again zero = omega (arith, first_400, total_none year_long)
years_again (suc n) =
    let s : suc n + 400 ≡ suc (n + 400) = omega arith in
    ap (total year_long) s ∙ omega (arith, years_again n, year_again n, total-more year_long (n + 400), total-more year_long n)

first_30 : total year_long 30 ≡ 10957
unfolding total month_days leap
first_30 = refl

-- every year from 1970 to 9999
pub years_all : total year_long 8030 ≡ 2932897
years_all = go 20
  where
    go : (k : ℕ) → total year_long (30 + k * 400) ≡ 10957 + k * 146097
    go zero = first_30
    go (suc k) =
        let e : 30 + suc k * 400 ≡ (30 + k * 400) + 400 = omega arith in
        ap (total year_long) e ∙ years_again (30 + k * 400) ∙ omega (arith, go k)

-- ---- a day's date

month_few : (y n : ℕ) (p : Part) → In (month_long y) n p → n < total (month_long y) 12 → p.whole < 12
month_few y n p c h = by p.whole 12 (λ l. l) (λ g. absurd (omega (arith, c.sum, total_le (month_long y) 12 p.whole g)))

number_of : (w a b : ℕ) → day_number (record { year = 1970 + w; month = suc a; day = suc b }) ≡ total year_long w + (total (month_long (1970 + w)) a + b)
unfolding day_number
number_of w a b =
    let e : 1970 + w - 1970 ≡ w = omega arith in
    let f : suc a - 1 ≡ a = omega arith in
    let g : suc b - 1 ≡ b = omega arith in
    ap₂ (λ (x y : ℕ). total year_long x + y) e (ap₂ (λ (x y : ℕ). total (month_long (1970 + w)) x + y) f g)

-- each day has a date, and it is that day
pub date_of_lem : (n : ℕ) → IsDate (date_of n) × (day_number (date_of n) ≡ n)
unfolding date_of
date_of_lem n =
    let y = part year_long n in
    let cy = in_part year_long year_some n in
    let m = part (month_long (1970 + y.whole)) y.rest in
    let cm = in_part (month_long (1970 + y.whole)) (month_some (1970 + y.whole)) y.rest in
    let f = month_few (1970 + y.whole) y.rest m cm cy.less in (
      record {
        year_from = omega arith;
        month_from = omega arith;
        month_to = omega (arith, f);
        day_from = omega arith;
        day_to = omega (arith, cm.less);
      },
      number_of y.whole m.whole m.rest ∙ ap (λ (x : ℕ). total year_long y.whole + x) cm.sum ∙ cy.sum,
    )

-- the parts that a date is
module _ (d : Date) (is : IsDate d) where
  pub date_month : In (month_long d.year) (total (month_long d.year) (d.month - 1) + (d.day - 1)) (record { whole = d.month - 1; rest = d.day - 1 })
  date_month =
      let e : suc (d.month - 1) ≡ d.month = omega (arith, is.month_from) in
      let t : month_days d.year (suc (d.month - 1)) ≡ month_days d.year d.month = ap (month_days d.year) e in
      record { sum = refl; less = omega (arith, t, is.day_from, is.day_to) }

  pub date_year : In year_long (day_number d) (record { whole = d.year - 1970; rest = total (month_long d.year) (d.month - 1) + (d.day - 1) })
  unfolding day_number
  date_year =
      let e : 1970 + (d.year - 1970) ≡ d.year = omega (arith, is.year_from) in
      let t : total (month_long (1970 + (d.year - 1970))) 12 ≡ total (month_long d.year) 12 = ap (λ (y : ℕ). total (month_long y) 12) e in
      record {
        sum = refl;
        less = omega (arith, t, total-more (month_long d.year) (d.month - 1), date_month.less, total_le (month_long d.year) (suc (d.month - 1)) 12 (omega (arith, is.month_from, is.month_to)));
      }

-- no two dates are one day
pub one_date : (d e : Date) → IsDate d → IsDate e → day_number d ≡ day_number e → d ≡ e
one_date d e p q h =
    let a = date_year d p in
    let b = date_year e q in
    let (s, t) = one_part year_long (d.year - 1970) (e.year - 1970) _ _ (a.sum ∙ h ∙ sym b.sum) a.less b.less in
    let years : d.year ≡ e.year = omega (arith, s, p.year_from, q.year_from) in
    let u = date_month d p in
    let v = date_month e q in
    let w : total (month_long e.year) (d.month - 1) + (d.day - 1) ≡ total (month_long e.year) (e.month - 1) + (e.day - 1) = ap (λ (y : ℕ). total (month_long y) (d.month - 1) + (d.day - 1)) (sym years) ∙ t in
    let l : d.day - 1 < month_long e.year (d.month - 1) = rw years at u.less in
    let (i, j) = one_part (month_long e.year) (d.month - 1) (e.month - 1) (d.day - 1) (e.day - 1) w l v.less in
    let months : d.month ≡ e.month = omega (arith, i, p.month_from, q.month_from) in
    let days : d.day ≡ e.day = omega (arith, j, p.day_from, q.day_from) in
    λ k. record { year = years k; month = months k; day = days k }

-- a year up to 9999, and a day up to its last
pub day_year : (d : Date) → IsDate d → (day_number d ≤ last_day → d.year ≤ 9999) × (d.year ≤ 9999 → day_number d ≤ last_day)
day_year d p =
    let a = date_year d p in (
      λ l. by d.year 10000 (λ k. omega arith) (λ g. absurd (omega (arith, l, a.sum, years_all, total_le year_long 8030 (d.year - 1970) (omega arith)))),
      λ l. omega (arith, a.sum, a.less, years_all, total-more year_long (d.year - 1970), total_le year_long (suc (d.year - 1970)) 8030 (omega (arith, p.year_from))),
    )

-- the test of a date is the fact
pub is-date_iff : (d : Date) → is_date d ≡ true ↔ IsDate d
unfolding is_date
is-date_iff d = (
  λ h.
      let a = and_right (leb 1970 d.year) _ h in
      let b = and_right (leb 1 d.month) _ a in
      let c = and_right (leb d.month 12) _ b in
      record {
        year_from = leb-true 1970 d.year (and_left (leb 1970 d.year) _ h);
        month_from = leb-true 1 d.month (and_left (leb 1 d.month) _ a);
        month_to = leb-true d.month 12 (and_left (leb d.month 12) _ b);
        day_from = leb-true 1 d.day (and_left (leb 1 d.day) _ c);
        day_to = leb-true d.day (month_days d.year d.month) (and_right (leb 1 d.day) _ c);
      },
  λ p. and_join (le-leb 1970 d.year p.year_from) (and_join (le-leb 1 d.month p.month_from) (and_join (le-leb d.month 12 p.month_to) (and_join (le-leb 1 d.day p.day_from) (le-leb d.day (month_days d.year d.month) p.day_to)))),
)
