-- Each day up to 9999-12-31 has one text, and a text of eight digits that is a date's is one day's. Assumes nothing.
use Prim.Native.Nat.{ℕ, ◌≤◌, ◌<◌}
use mathlib.Core.Path.{◌≡◌, sym, ap, ◌∙◌}
use mathlib.Core.Logic.{◌↔◌}
use mathlib.Core.Bool.{true}
use mathlib.Core.List.{List, [], ◌++◌, append-nil}
use Rattle.std.specs.Prelude.{Some}
use native.Mathlib.Omega.{arith}
use lib.Dec.{eqb}
use lib.ListN.{length, length-append}
use borrow.Author.Tests.{eqb-true}
use Rattle.basics.specs.Tests.{all}
use Rattle.basics.proofs.Bools.{and_join}
use Rattle.basics.proofs.Lists.{nothing, all_append}
use Rattle.civil_dates.specs.declared.Date.{Date}
use Rattle.civil_dates.specs.Dates.{IsDate, is_date, day_number, date_of, last_day}
use Rattle.civil_dates.proofs.DateLaws.{month_bounds, date_of_lem, one_date, day_year, is-date_iff}
use Rattle.calendar_format.specs.Texts.{padded, tens, number_at}
use Rattle.calendar_format.specs.DateTexts.{written, date_text, date_at, day_of}
use Rattle.calendar_format.proofs.AfterLaws.{then_form, then_some, cond_form}
use Rattle.calendar_format.proofs.RowLaws.{figure}
use Rattle.calendar_format.proofs.NumberLaws.{padded_long, padded_figures, number_form, number_same, hundred, ten_thousand}

written_then : (y m e : ℕ) → padded 4 y ++ (padded 2 m ++ (padded 2 e ++ [])) ≡ written (record { year = y; month = m; day = e })
unfolding written
written_then y m e = ap (λ (x : List ℕ). padded 4 y ++ (padded 2 m ++ x)) (append-nil (padded 2 e))

pub date_at_form : (t : List ℕ) (d : Date) → date_at t ≡ Some d → (d.year < tens 4) × (t ≡ written d)
unfolding date_at
date_at_form t d h =
    let (y, ey, hy) = then_form (number_at 4 t) _ d h in
    let (m, em, hm) = then_form (number_at 2 y.1) _ d hy in
    let (e, ee, he) = then_form (number_at 2 m.1) _ d hm in
    let (z, q) = cond_form (eqb (length e.1) 0) (record { year = y.0; month = m.0; day = e.0 }) d he in
    joined y.0 m.0 e.0 y.1 m.1 e.1 ey em ee (nothing e.1 (eqb-true (length e.1) 0 z)) q
  where
    joined : (y m e : ℕ) (a b c : List ℕ) → number_at 4 t ≡ Some (y, a) → number_at 2 a ≡ Some (m, b) → number_at 2 b ≡ Some (e, c) → c ≡ []
        → ◌≡◌ {A = Date} (record { year = y; month = m; day = e }) d → (d.year < tens 4) × (t ≡ written d)
    joined y m e a b c ey em ee z q =
        let (k, f) = number_form 4 t y a ey in
        let g = (number_form 2 a m b em).1 in
        let h = (number_form 2 b e c ee).1 in
        let years : y ≡ d.year = ap (λ (x : Date). x.year) q in
        (rw years at k, f ∙ rw (g, h, z) (written_then y m e) ∙ ap written q)

date_at_same : (d : Date) → d.year < tens 4 → d.month < tens 2 → d.day < tens 2 → date_at (written d) ≡ Some d
unfolding date_at
date_at_same d a b c =
    ap date_at (sym (written_then d.year d.month d.day))
    ∙ then_some (number_at 4 (padded 4 d.year ++ (padded 2 d.month ++ (padded 2 d.day ++ [])))) _ _ (number_same 4 d.year _ a)
    ∙ then_some (number_at 2 (padded 2 d.month ++ (padded 2 d.day ++ []))) _ _ (number_same 2 d.month _ b)
    ∙ then_some (number_at 2 (padded 2 d.day ++ [])) _ _ (number_same 2 d.day [] c)

day_bound : (d : Date) → IsDate d → d.day ≤ 31
day_bound d p = omega (arith, p.day_to, (month_bounds d.year d.month).1)

pub day_form : (t : List ℕ) (n : ℕ) → day_of t ≡ Some n → (n ≤ last_day) × (t ≡ date_text n)
unfolding day_of date_text
day_form t n h =
    let (d, ed, hd) = then_form (date_at t) _ n h in
    let (i, q) = cond_form (is_date d) (day_number d) n hd in
    let p = (is-date_iff d).0 i in
    let (k, f) = date_at_form t d ed in
    let (po, eo) = date_of_lem n in
    (omega (arith, q, (day_year d p).1 (omega (arith, k, ten_thousand))), f ∙ ap written (one_date d (date_of n) p po (q ∙ sym eo)))

pub day_same : (n : ℕ) → n ≤ last_day → day_of (date_text n) ≡ Some n
unfolding day_of date_text
day_same n l =
    let (p, e) = date_of_lem n in
    let d = date_of n in
    let y : day_number d ≤ last_day = omega (arith, e) in
    then_some (date_at (written d)) _ d (date_at_same d (omega (arith, ten_thousand, (day_year d p).0 y)) (omega (arith, hundred, p.month_to)) (omega (arith, hundred, day_bound d p)))
    ∙ rw ((is-date_iff d).1 p) (ap Some e)

pub day_iff : (t : List ℕ) (n : ℕ) → day_of t ≡ Some n ↔ ((n ≤ last_day) × (t ≡ date_text n))
day_iff t n = (day_form t n, λ (l, e). ap day_of e ∙ day_same n l)

written_long : (d : Date) → length (written d) ≡ 8
unfolding written
written_long d =
    length-append (padded 4 d.year) _ ∙ omega (arith, length-append (padded 2 d.month) (padded 2 d.day), padded_long 4 d.year, padded_long 2 d.month, padded_long 2 d.day)

written_figures : (d : Date) → all figure (written d) ≡ true
unfolding written
written_figures d =
    all_append figure (padded 4 d.year) _
    ∙ and_join (padded_figures 4 d.year) (all_append figure (padded 2 d.month) (padded 2 d.day) ∙ and_join (padded_figures 2 d.month) (padded_figures 2 d.day))

pub date_long : (n : ℕ) → length (date_text n) ≡ 8
unfolding date_text
date_long n = written_long (date_of n)

pub date_figures : (n : ℕ) → all figure (date_text n) ≡ true
unfolding date_text
date_figures n = written_figures (date_of n)
