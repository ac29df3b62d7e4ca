-- The texts that are stamps. Assumes nothing.
use Prim.Native.Nat.{ℕ, ◌≤◌, ◌<◌}
use mathlib.Core.Path.{◌≡◌, refl, sym, ap, ◌∙◌}
use mathlib.Core.Logic.{◌↔◌}
use mathlib.Core.Bool.{true, false, cond}
use mathlib.Core.List.{List, [], ◌∷◌, ◌++◌}
use Rattle.std.specs.Prelude.{Option, None, Some}
use native.Mathlib.Omega.{arith}
use lib.Dec.{leb}
use lib.ListN.{length, length-append}
use borrow.Author.Tests.{leb-true, le-leb}
use Rattle.basics.specs.Tests.{all, same_numbers}
use Rattle.basics.proofs.Bools.{clash, and_left, and_right, and_join}
use Rattle.basics.proofs.Lists.{all_append, same_numbers_iff}
use Rattle.civil_dates.specs.Dates.{month_days}
use Rattle.civil_dates.proofs.DateLaws.{month_bounds}
use Rattle.calendar_format.specs.Texts.{padded, tens, after, then, or_else, number_at}
use Rattle.calendar_format.specs.Stamps.{Stamp, stamp_text, in_range, stamp_at, is_stamp}
use Rattle.calendar_format.proofs.AfterLaws.{after_form, after_same, then_form, then_some, cond_form}
use Rattle.calendar_format.proofs.RowLaws.{figure}
use Rattle.calendar_format.proofs.NumberLaws.{padded_long, padded_figures, number_form, number_same, hundred, ten_thousand}

abbrev stamp_of : ℕ → ℕ → ℕ → ℕ → ℕ → ℕ → Stamp
stamp_of y m d h i c = record { year = y; month = m; day = d; hour = h; minute = i; second = c }

abbrev time_text : ℕ → ℕ → ℕ → List ℕ
time_text h i c = padded 2 h ++ (padded 2 i ++ (padded 2 c ++ (90 ∷ [])))

abbrev text_of : ℕ → ℕ → ℕ → ℕ → ℕ → ℕ → List ℕ
text_of y m d h i c = padded 4 y ++ (padded 2 m ++ (padded 2 d ++ (84 ∷ time_text h i c)))

text_of_lem : (x : Stamp) → stamp_text x ≡ text_of x.year x.month x.day x.hour x.minute x.second
unfolding stamp_text
text_of_lem x = refl

-- the time of day behind the date
abbrev time_at : ℕ → ℕ → ℕ → List ℕ → Option Stamp
time_at y m d t =
    then (number_at 2 t)
    (λ h. then (number_at 2 h.1)
    (λ i. then (number_at 2 i.1)
    (λ c. cond (same_numbers c.1 (90 ∷ [])) (Some (stamp_of y m d h.0 i.0 c.0)) None)))

time_joined : (h i c : ℕ) (t f g k : List ℕ) → number_at 2 t ≡ Some (h, f) → number_at 2 f ≡ Some (i, g) → number_at 2 g ≡ Some (c, k) → k ≡ 90 ∷ []
    → t ≡ time_text h i c
time_joined h i c t f g k eh ei ec z =
    (number_form 2 t h f eh).1 ∙ rw ((number_form 2 f i g ei).1, (number_form 2 g c k ec).1, z)

time_form : (y m d : ℕ) (t : List ℕ) (x : Stamp) → time_at y m d t ≡ Some x
    → (h : ℕ) × (i : ℕ) × (c : ℕ) × (t ≡ time_text h i c) × (stamp_of y m d h i c ≡ x)
time_form y m d t x w =
    let (h, eh, hh) = then_form (number_at 2 t) _ x w in
    let (i, ei, hi) = then_form (number_at 2 h.1) _ x hh in
    let (c, ec, hc) = then_form (number_at 2 i.1) _ x hi in
    let (z, q) = cond_form (same_numbers c.1 (90 ∷ [])) (stamp_of y m d h.0 i.0 c.0) x hc in
    (h.0, i.0, c.0, time_joined h.0 i.0 c.0 t h.1 i.1 c.1 eh ei ec ((same_numbers_iff c.1 (90 ∷ [])).0 z), q)

joined : (s : List ℕ) (x : Stamp) (y m d h i c : ℕ) (a b e t : List ℕ)
    → number_at 4 s ≡ Some (y, a) → number_at 2 a ≡ Some (m, b) → number_at 2 b ≡ Some (d, e) → after (84 ∷ []) e ≡ Some t → t ≡ time_text h i c → stamp_of y m d h i c ≡ x
    → (x.year < tens 4) × (s ≡ stamp_text x)
joined s x y m d h i c a b e t ey em ed et ft q =
    let (l, fs) = number_form 4 s y a ey in
    let fa = (number_form 2 a m b em).1 in
    let fb = (number_form 2 b d e ed).1 in
    let fe : e ≡ 84 ∷ t = after_form (84 ∷ []) e t et in
    let years : y ≡ x.year = ap (λ (v : Stamp). v.year) q in
    (rw years at l, fs ∙ rw (fa, fb, fe, ft) (sym (text_of_lem (stamp_of y m d h i c))) ∙ ap stamp_text q)

stamp_at_form : (s : List ℕ) (x : Stamp) → stamp_at s ≡ Some x → (x.year < tens 4) × (s ≡ stamp_text x)
unfolding stamp_at
stamp_at_form s x w =
    let (y, ey, hy) = then_form (number_at 4 s) _ x w in
    let (m, em, hm) = then_form (number_at 2 y.1) _ x hy in
    let (d, ed, hd) = then_form (number_at 2 m.1) _ x hm in
    let (t, et, ht) = then_form (after (84 ∷ []) d.1) (time_at y.0 m.0 d.0) x hd in
    let (h, i, c, ft, q) = time_form y.0 m.0 d.0 t x ht in
    joined s x y.0 m.0 d.0 h i c y.1 m.1 d.1 t ey em ed et ft q

pub record Ranges (x : Stamp) : Type 0 where
  pub month_from : 1 ≤ x.month
  pub month_to : x.month ≤ 12
  pub day_from : 1 ≤ x.day
  pub day_to : x.day ≤ month_days x.year x.month
  pub hours : x.hour ≤ 23
  pub minutes : x.minute ≤ 59
  pub seconds : x.second ≤ 60

pub ranges_iff : (x : Stamp) → in_range x ≡ true ↔ Ranges x
unfolding in_range
ranges_iff x = (
  λ h.
      let a = and_right (leb 1 x.month) _ h in
      let b = and_right (leb x.month 12) _ a in
      let c = and_right (leb 1 x.day) _ b in
      let d = and_right (leb x.day (month_days x.year x.month)) _ c in
      let e = and_right (leb x.hour 23) _ d in
      record {
        month_from = leb-true 1 x.month (and_left (leb 1 x.month) _ h);
        month_to = leb-true x.month 12 (and_left (leb x.month 12) _ a);
        day_from = leb-true 1 x.day (and_left (leb 1 x.day) _ b);
        day_to = leb-true x.day (month_days x.year x.month) (and_left (leb x.day (month_days x.year x.month)) _ c);
        hours = leb-true x.hour 23 (and_left (leb x.hour 23) _ d);
        minutes = leb-true x.minute 59 (and_left (leb x.minute 59) _ e);
        seconds = leb-true x.second 60 (and_right (leb x.minute 59) _ e);
      },
  λ r.
      and_join (le-leb 1 x.month r.month_from) (and_join (le-leb x.month 12 r.month_to) (and_join (le-leb 1 x.day r.day_from)
      (and_join (le-leb x.day (month_days x.year x.month) r.day_to) (and_join (le-leb x.hour 23 r.hours) (and_join (le-leb x.minute 59 r.minutes) (le-leb x.second 60 r.seconds)))))),
)

stamp_at_same : (x : Stamp) → Ranges x → x.year < tens 4 → stamp_at (stamp_text x) ≡ Some x
unfolding stamp_at
stamp_at_same x r l =
    let days : x.day < tens 2 = omega (arith, hundred, r.day_to, (month_bounds x.year x.month).1) in
    ap stamp_at (text_of_lem x)
    ∙ then_some _ _ _ (number_same 4 x.year _ l)
    ∙ then_some _ _ _ (number_same 2 x.month _ (omega (arith, hundred, r.month_to)))
    ∙ then_some _ _ _ (number_same 2 x.day _ days)
    ∙ then_some _ _ _ (after_same (84 ∷ []) _)
    ∙ then_some _ _ _ (number_same 2 x.hour _ (omega (arith, hundred, r.hours)))
    ∙ then_some _ _ _ (number_same 2 x.minute _ (omega (arith, hundred, r.minutes)))
    ∙ then_some _ _ _ (number_same 2 x.second (90 ∷ []) (omega (arith, hundred, r.seconds)))
    ∙ rw ((same_numbers_iff (90 ∷ []) (90 ∷ [])).1 refl)

or_form : (o : Option Stamp) → or_else o in_range false ≡ true → (x : Stamp) × (o ≡ Some x) × (in_range x ≡ true)
unfolding or_else
or_form None h = absurd (clash h refl)
or_form (Some x) h = (x, refl, h)

or_same : (o : Option Stamp) (x : Stamp) → o ≡ Some x → or_else o in_range false ≡ in_range x
unfolding or_else
or_same o x e = rw e

-- a stamp is the text of numbers in their ranges, and nothing else is
pub stamp_iff : (s : List ℕ) → is_stamp s ≡ true ↔ ((x : Stamp) × Ranges x × (x.year ≤ 9999) × (s ≡ stamp_text x))
unfolding is_stamp
stamp_iff s = (
  λ h.
      let (x, e, i) = or_form (stamp_at s) h in
      let (l, f) = stamp_at_form s x e in
      (x, (ranges_iff x).0 i, omega (arith, ten_thousand), f),
  λ (x, r, l, f). or_same (stamp_at s) x (ap stamp_at f ∙ stamp_at_same x r (omega (arith, ten_thousand))) ∙ (ranges_iff x).1 r,
)

text_long : (x : Stamp) → length (stamp_text x) ≡ 16
text_long x =
    ap length (text_of_lem x)
    ∙ simp length-append (omega (arith, padded_long 4 x.year, padded_long 2 x.month, padded_long 2 x.day, padded_long 2 x.hour, padded_long 2 x.minute, padded_long 2 x.second))

text_figures : (x : Stamp) → all figure (stamp_text x) ≡ true
unfolding all
text_figures x =
    ap (all figure) (text_of_lem x)
    ∙ front 4 x.year _ (front 2 x.month _ (front 2 x.day _ (front 2 x.hour _ (front 2 x.minute _ (front 2 x.second (90 ∷ []) refl)))))
  where
    front : (k n : ℕ) (t : List ℕ) → all figure t ≡ true → all figure (padded k n ++ t) ≡ true
    front k n t h = all_append figure (padded k n) t ∙ and_join (padded_figures k n) h

pub stamp_long : (s : List ℕ) → is_stamp s ≡ true → length s ≡ 16
stamp_long s h = let (x, r, l, f) = (stamp_iff s).0 h in ap length f ∙ text_long x

pub stamp_figures : (s : List ℕ) → is_stamp s ≡ true → all figure s ≡ true
stamp_figures s h = let (x, r, l, f) = (stamp_iff s).0 h in ap (all figure) f ∙ text_figures x
