-- A date and a stamp are their numbers, side by side. Assumes nothing.
use Prim.Native.Nat.{ℕ, ◌+◌, ◌-◌, ◌≤◌}
use mathlib.Core.Path.{◌≡◌, refl, sym, ap, ap₂, ◌∙◌}
use mathlib.Core.Bool.{Bool, true, false, not, cond}
use mathlib.Core.List.{List, [], ◌∷◌}
use Rattle.std.specs.Prelude.{Option, None, Some}
use native.Mathlib.Omega.{arith}
use lib.Dec.{eqb}
use lib.ListN.{length, get_or, take, drop, length-drop, drop_of_length-le}
use lib.Seq.{length-take-le, take-take, drop-drop, drop-cons, take_all}
use borrow.Author.Tests.{eq-eqb, ne_eqb, not-true, not-false}
use Rattle.basics.specs.Tests.{same_numbers}
use Rattle.basics.proofs.Bools.{either, eqb_sym}
use Rattle.basics.proofs.Maps.{drop-take}
use Rattle.decimals.specs.Reading.{read_on}
use Rattle.civil_dates.specs.declared.Date.{Date}
use Rattle.civil_dates.specs.Dates.{IsDate, is_date, day_number}
use Rattle.civil_dates.proofs.DateLaws.{is-date_iff}
use Rattle.calendar_format.specs.Texts.{after, then, or_else, value_from, number_at}
use Rattle.calendar_format.specs.DateTexts.{date_at, day_of}
use Rattle.calendar_format.specs.Stamps.{Stamp, in_range, stamp_at, is_stamp}
use Rattle.calendar_format.proofs.AfterLaws.{then_some, then_none}
use Rattle.calendar_format.proofs.NumberLaws.{then_ap, then_assoc, ten_thousand}
use Rattle.calendar_format.proofs.DateTextLaws.{date_at_form}
use Rattle.calendar_format.proofs.StampLaws.{stamp_long}
use Rattle.calendar_stamps.specs.declared.Time.{Time}
use Rattle.calendar_stamps.specs.Fields.{time_at}
use Rattle.calendar_stamps.proofs.ValueLaws.{read_value, number_here}

-- the number that k digits from a place on are
abbrev pub value : ℕ → ℕ → List ℕ → Option ℕ
value at k l = value_from 0 (take k (drop at l))

abbrev date : ℕ → ℕ → ℕ → Date
date y m d = record { year = y; month = m; day = d }

then_no : {A B : Type 0} (x : Option A) (f : A → Option B) → ((a : A) → f a ≡ None) → then x f ≡ None
unfolding then
then_no None f h = refl
then_no (Some a) f h = h a

-- ---- a date

module _ (t : List ℕ) (long : length t ≡ 8) where
  last : (y m d : ℕ) → cond (eqb (length (drop 2 (drop 2 (drop 4 t)))) 0) (Some (date y m d)) None ≡ Some (date y m d)
  last y m d = let e : length (drop 2 (drop 2 (drop 4 t))) ≡ 0 = simp length-drop (omega arith) in rw (eq-eqb _ _ e)

  pub date-fields : date_at t ≡ then (value 0 4 t) (λ y. then (value 4 2 t) (λ m. then (value 6 2 t) (λ d. Some (date y m d))))
  unfolding date_at
  date-fields =
      number_here 4 t _ (omega arith)
      ∙ then_ap (value 0 4 t) _ _ (λ y.
      number_here 2 (drop 4 t) _ (simp length-drop (omega arith))
      ∙ then_ap (value 4 2 t) _ _ (λ m.
      number_here 2 (drop 2 (drop 4 t)) _ (simp length-drop (omega arith))
      ∙ then_ap (value_from 0 (take 2 (drop 2 (drop 4 t)))) _ _ (λ d. last y m d)
      ∙ ap (λ (l : List ℕ). then (value_from 0 (take 2 l)) (λ d. Some (date y m d))) (drop-drop 2 4 t)))

-- what `read_digits` tells of k digits from a place on
read_there : (t : List ℕ) (at k : ℕ) (r : Option ℕ) → at + k ≤ length t → k ≤ 4 → r ≡ read_on 0 (take k (drop at t)) → r ≡ value at k t
read_there t at k r h f e =
    let long : length (take k (drop at t)) ≡ k = length-take-le k (drop at t) (simp length-drop (omega arith)) in
    e ∙ read_value (take k (drop at t)) (omega arith)

module _ (t : List ℕ) (long : length t ≡ 8) (y : Option ℕ) (ey : y ≡ read_on 0 (take 4 t)) where
  year_is : y ≡ value 0 4 t
  year_is = read_there t 0 4 y (omega arith) (omega arith) ey

  pub no_year : y ≡ None → None ≡ date_at t
  no_year q = sym (date-fields t long ∙ then_none (value 0 4 t) _ (sym year_is ∙ q))

  module _ (year : ℕ) (qy : y ≡ Some year) (m : Option ℕ) (em : m ≡ read_on 0 (take 2 (drop 4 t))) where
    month_is : m ≡ value 4 2 t
    month_is = read_there t 4 2 m (omega arith) (omega arith) em

    behind_year : date_at t ≡ then (value 4 2 t) (λ m. then (value 6 2 t) (λ d. Some (date year m d)))
    behind_year = date-fields t long ∙ then_some (value 0 4 t) _ year (sym year_is ∙ qy)

    pub no_month : m ≡ None → None ≡ date_at t
    no_month q = sym (behind_year ∙ then_none (value 4 2 t) _ (sym month_is ∙ q))

    module _ (month : ℕ) (qm : m ≡ Some month) (d : Option ℕ) (ed : d ≡ read_on 0 (take 2 (drop 6 t))) where
      day_is : d ≡ value 6 2 t
      day_is = read_there t 6 2 d (omega arith) (omega arith) ed

      behind_month : date_at t ≡ then (value 6 2 t) (λ d. Some (date year month d))
      behind_month = behind_year ∙ then_some (value 4 2 t) _ month (sym month_is ∙ qm)

      pub no_day : d ≡ None → None ≡ date_at t
      no_day q = sym (behind_month ∙ then_none (value 6 2 t) _ (sym day_is ∙ q))

      pub whole-date : (day : ℕ) → d ≡ Some day → Some (date year month day) ≡ date_at t
      whole-date day q = sym (behind_month ∙ then_some (value 6 2 t) _ day (sym day_is ∙ q))

-- ---- the time of a stamp

abbrev stamp : ℕ → ℕ → ℕ → ℕ → ℕ → ℕ → Stamp
stamp y m d h i c = record { year = y; month = m; day = d; hour = h; minute = i; second = c }

-- what `stamp_at` does behind the date
abbrev time_on : List ℕ → ℕ → ℕ → ℕ → Option Stamp
time_on l y m d =
    then (after (84 ∷ []) l)
    (λ t. then (number_at 2 t)
    (λ h. then (number_at 2 h.1)
    (λ i. then (number_at 2 i.1)
    (λ c. cond (same_numbers c.1 (90 ∷ [])) (Some (stamp y m d h.0 i.0 c.0)) None))))

after_one : (p b : ℕ) (l : List ℕ) → after (p ∷ []) (b ∷ l) ≡ cond (eqb p b) (Some l) None
unfolding after
after_one p b l = refl

same_one : (b c : ℕ) → same_numbers (b ∷ []) (c ∷ []) ≡ eqb b c
unfolding same_numbers
same_one b c = either (eqb b c) (λ t. rw t) (λ f. rw f)

module _ (l : List ℕ) (long : length l ≡ 8) (y m d : ℕ) where
  abbrev last_octet : ℕ
  last_octet = get_or l 7 0

  front : l ≡ get_or l 0 0 ∷ drop 1 l
  front = drop-cons l 0 0 (omega arith)

  after-t : after (84 ∷ []) l ≡ cond (eqb (get_or l 0 0) 84) (Some (drop 1 l)) None
  after-t = ap (after (84 ∷ [])) front ∙ after_one 84 (get_or l 0 0) (drop 1 l) ∙ ap (λ (b : Bool). cond b (Some (drop 1 l)) None) (eqb_sym 84 (get_or l 0 0))

  at_seven : drop 2 (drop 2 (drop 2 (drop 1 l))) ≡ last_octet ∷ []
  at_seven =
      ap (drop 2) (ap (drop 2) (drop-drop 2 1 l) ∙ drop-drop 2 3 l) ∙ drop-drop 2 5 l
      ∙ drop-cons l 7 0 (omega arith) ∙ ap (λ (t : List ℕ). last_octet ∷ t) (let past : length l ≤ 8 = omega arith in drop_of_length-le l past)

  -- the three numbers, whatever is made of them
  three : {B : Type 0} (f : ℕ → ℕ → ℕ → List ℕ → Option B)
      → then (number_at 2 (drop 1 l)) (λ h. then (number_at 2 h.1) (λ i. then (number_at 2 i.1) (λ c. f h.0 i.0 c.0 c.1)))
      ≡ then (value 1 2 l) (λ h. then (value 3 2 l) (λ i. then (value 5 2 l) (λ c. f h i c (last_octet ∷ []))))
  three f =
      number_here 2 (drop 1 l) _ (simp length-drop (omega arith))
      ∙ then_ap (value 1 2 l) _ _ (λ h.
      number_here 2 (drop 2 (drop 1 l)) _ (simp length-drop (omega arith))
      ∙ then_ap (value_from 0 (take 2 (drop 2 (drop 1 l)))) _ _ (λ i.
      number_here 2 (drop 2 (drop 2 (drop 1 l))) _ (simp length-drop (omega arith))
      ∙ then_ap (value_from 0 (take 2 (drop 2 (drop 2 (drop 1 l))))) _ _ (λ c. ap (f h i c) at_seven)
      ∙ ap (λ (u : List ℕ). then (value_from 0 (take 2 u)) (λ c. f h i c (last_octet ∷ []))) (ap (drop 2) (drop-drop 2 1 l) ∙ drop-drop 2 3 l))
      ∙ ap (λ (u : List ℕ). then (value_from 0 (take 2 u)) (λ i. then (value 5 2 l) (λ c. f h i c (last_octet ∷ [])))) (drop-drop 2 1 l))

  abbrev told : Time → Option Stamp
  told x = Some (stamp y m d x.hour x.minute x.second)

  starts_with_t : eqb (get_or l 0 0) 84 ≡ true → (b : Bool) → eqb last_octet 90 ≡ b → time_on l y m d ≡ then (time_at l) told
  unfolding time_at
  starts_with_t t true z =
      then_some (after (84 ∷ []) l) _ (drop 1 l) (after-t ∙ rw t)
      ∙ three (λ h i c r. cond (same_numbers r (90 ∷ [])) (Some (stamp y m d h i c)) None)
      ∙ rw (same_one last_octet 90, t, z)
      (sym (then_assoc (value 1 2 l) _ told
      ∙ then_ap (value 1 2 l) _ _ (λ h. then_assoc (value 3 2 l) _ told
      ∙ then_ap (value 3 2 l) _ _ (λ i. then_assoc (value 5 2 l) _ told
      ∙ then_ap (value 5 2 l) _ _ (λ c. then_some _ told _ refl)))))
  starts_with_t t false z =
      then_some (after (84 ∷ []) l) _ (drop 1 l) (after-t ∙ rw t)
      ∙ three (λ h i c r. cond (same_numbers r (90 ∷ [])) (Some (stamp y m d h i c)) None)
      ∙ rw (same_one last_octet 90, t, z)
      (then_no (value 1 2 l) _ (λ h. then_no (value 3 2 l) _ (λ i. then_no (value 5 2 l) _ (λ c. refl)))
      ∙ sym (then_none None told refl))

  starts_otherwise : eqb (get_or l 0 0) 84 ≡ false → time_on l y m d ≡ then (time_at l) told
  unfolding time_at
  starts_otherwise f = then_none (after (84 ∷ []) l) _ (after-t ∙ rw f) ∙ sym (then_none _ told (rw f))

  time_fields : time_on l y m d ≡ then (time_at l) told
  time_fields = either (eqb (get_or l 0 0) 84) (λ t. starts_with_t t (eqb last_octet 90) refl) starts_otherwise

-- ---- the same, number by number as it is read

module _ (t : List ℕ) (long : length t ≡ 8) where
  pub other_start : (get_or t 0 0 ≡ 84 → ⊥) → None ≡ time_at t
  unfolding time_at
  other_start n = rw (ne_eqb _ _ n)

  pub other_end : get_or t 0 0 ≡ 84 → (get_or t 7 0 ≡ 90 → ⊥) → None ≡ time_at t
  unfolding time_at
  other_end a n = rw (eq-eqb _ _ a, ne_eqb _ _ n)

  module _ (a : get_or t 0 0 ≡ 84) (b : get_or t 7 0 ≡ 90) (h : Option ℕ) (eh : h ≡ read_on 0 (take 2 (drop 1 t))) where
    letters : time_at t ≡ then (value 1 2 t) (λ h. then (value 3 2 t) (λ m. then (value 5 2 t) (λ s. Some (record { hour = h; minute = m; second = s }))))
    unfolding time_at
    letters = rw (eq-eqb _ _ a, eq-eqb _ _ b)

    hour_is : h ≡ value 1 2 t
    hour_is = read_there t 1 2 h (omega arith) (omega arith) eh

    pub no_hour : h ≡ None → None ≡ time_at t
    no_hour q = sym (letters ∙ then_none (value 1 2 t) _ (sym hour_is ∙ q))

    module _ (hour : ℕ) (qh : h ≡ Some hour) (m : Option ℕ) (em : m ≡ read_on 0 (take 2 (drop 3 t))) where
      minute_is : m ≡ value 3 2 t
      minute_is = read_there t 3 2 m (omega arith) (omega arith) em

      behind_hour : time_at t ≡ then (value 3 2 t) (λ m. then (value 5 2 t) (λ s. Some (record { hour = hour; minute = m; second = s })))
      behind_hour = letters ∙ then_some (value 1 2 t) _ hour (sym hour_is ∙ qh)

      pub no_minute : m ≡ None → None ≡ time_at t
      no_minute q = sym (behind_hour ∙ then_none (value 3 2 t) _ (sym minute_is ∙ q))

      module _ (minute : ℕ) (qm : m ≡ Some minute) (s : Option ℕ) (es : s ≡ read_on 0 (take 2 (drop 5 t))) where
        second_is : s ≡ value 5 2 t
        second_is = read_there t 5 2 s (omega arith) (omega arith) es

        behind_minute : time_at t ≡ then (value 5 2 t) (λ s. Some (record { hour = hour; minute = minute; second = s }))
        behind_minute = behind_hour ∙ then_some (value 3 2 t) _ minute (sym minute_is ∙ qm)

        pub no_second : s ≡ None → None ≡ time_at t
        no_second q = sym (behind_minute ∙ then_none (value 5 2 t) _ (sym second_is ∙ q))

        pub whole_time : (second : ℕ) → s ≡ Some second → Some (record { hour = hour; minute = minute; second = second }) ≡ time_at t
        whole_time second q = sym (behind_minute ∙ then_some (value 5 2 t) _ second (sym second_is ∙ q))

-- ---- a stamp

module _ (s : List ℕ) (long : length s ≡ 16) where
  abbrev made : Date → Time → Stamp
  made d x = stamp d.year d.month d.day x.hour x.minute x.second

  eight : length (take 8 s) ≡ 8
  eight = length-take-le 8 s (omega arith)

  second-half : drop 2 (drop 2 (drop 4 s)) ≡ drop 8 s
  second-half = ap (drop 2) (drop-drop 2 4 s) ∙ drop-drop 2 6 s

  numbers : stamp_at s ≡ then (value 0 4 s) (λ y. then (value 4 2 s) (λ m. then (value 6 2 s) (λ d. time_on (drop 8 s) y m d)))
  unfolding stamp_at
  numbers =
      number_here 4 s _ (omega arith)
      ∙ then_ap (value 0 4 s) _ _ (λ y.
      number_here 2 (drop 4 s) _ (simp length-drop (omega arith))
      ∙ then_ap (value 4 2 s) _ _ (λ m.
      number_here 2 (drop 2 (drop 4 s)) _ (simp length-drop (omega arith))
      ∙ ap₂ (λ (u w : List ℕ). then (value_from 0 (take 2 u)) (λ d. time_on w y m d)) (drop-drop 2 4 s) second-half))

  same-value : (at k : ℕ) → at + k ≤ 8 → value at k (take 8 s) ≡ value at k s
  same-value at k h = ap (value_from 0) (ap (take k) (drop-take at 8 s) ∙ take-take k (8 - at) (drop at s) (omega arith))

  dates : date_at (take 8 s) ≡ then (value 0 4 s) (λ y. then (value 4 2 s) (λ m. then (value 6 2 s) (λ d. Some (date y m d))))
  dates = date-fields (take 8 s) eight ∙ rw (same-value 0 4 (omega arith), same-value 4 2 (omega arith), same-value 6 2 (omega arith))

  pub stamp-fields : stamp_at s ≡ then (date_at (take 8 s)) (λ d. then (time_at (drop 8 s)) (λ x. Some (made d x)))
  stamp-fields =
      numbers
      ∙ then_ap (value 0 4 s) _ _ (λ y. then_ap (value 4 2 s) _ _ (λ m. then_ap (value 6 2 s) _ _ (λ d. time_fields (drop 8 s) (simp length-drop (omega arith)) y m d)))
      ∙ sym (ap (λ (o : Option Date). then o rest) dates
      ∙ then_assoc (value 0 4 s) _ rest
      ∙ then_ap (value 0 4 s) _ _ (λ y. then_assoc (value 4 2 s) _ rest
      ∙ then_ap (value 4 2 s) _ _ (λ m. then_assoc (value 6 2 s) _ rest
      ∙ then_ap (value 6 2 s) _ _ (λ d. then_some (Some (date y m d)) rest (date y m d) refl))))
    where
      rest : Date → Option Stamp
      rest d = then (time_at (drop 8 s)) (λ x. Some (made d x))

  -- as the two halves are told
  module _ (a : Option Date) (ea : a ≡ date_at (take 8 s)) where
    pub no_date : a ≡ None → false ≡ is_stamp s
    unfolding is_stamp or_else
    no_date q = rw (stamp-fields ∙ then_none (date_at (take 8 s)) _ (sym ea ∙ q))

    module _ (d : Date) (qa : a ≡ Some d) (b : Option Time) (eb : b ≡ time_at (take 8 (drop 8 s))) where
      behind-date : stamp_at s ≡ then (time_at (drop 8 s)) (λ x. Some (made d x))
      behind-date = stamp-fields ∙ then_some (date_at (take 8 s)) _ d (sym ea ∙ qa)

      time_is : b ≡ time_at (drop 8 s)
      time_is = eb ∙ ap time_at (take_all 8 (drop 8 s) (simp length-drop (omega arith)))

      pub no_time : b ≡ None → false ≡ is_stamp s
      unfolding is_stamp or_else
      no_time q = rw (behind-date ∙ then_none (time_at (drop 8 s)) _ (sym time_is ∙ q))

      pub date_and_time : (x : Time) → b ≡ Some x → in_range (made d x) ≡ is_stamp s
      unfolding is_stamp or_else
      date_and_time x q = rw (behind-date ∙ then_some (time_at (drop 8 s)) _ _ (sym time_is ∙ q))

pub not_long : (s : List ℕ) → (length s ≡ 16 → ⊥) → false ≡ is_stamp s
not_long s n = either (is_stamp s) (λ t. absurd (n (stamp_long s t))) (λ f. sym f)

-- ---- the day of a date

module _ (t : List ℕ) (a : Option Date) (ea : a ≡ date_at t) where
  pub no_date_at_all : a ≡ None → None ≡ day_of t
  unfolding day_of
  no_date_at_all q = sym (then_none (date_at t) _ (sym ea ∙ q))

  module _ (d : Date) (qa : a ≡ Some d) where
    day_by_date : day_of t ≡ cond (is_date d) (Some (day_number d)) None
    unfolding day_of
    day_by_date = then_some (date_at t) _ d (sym ea ∙ qa)

    module _ (b : Bool) (eb : b ≡ is_date d) where
      pub no_such_date : not b ≡ true → None ≡ day_of t
      no_such_date f = sym (day_by_date ∙ rw (sym eb ∙ not-true b f))

      pub date_to_number : not b ≡ false → IsDate d × (d.year ≤ 9999)
      date_to_number f = ((is-date_iff d).0 (sym eb ∙ not-false b f), omega (arith, ten_thousand, (date_at_form t d (sym ea ∙ qa)).0))

      pub its_number : not b ≡ false → (n : ℕ) → n ≡ day_number d → Some n ≡ day_of t
      its_number f n e = ap Some e ∙ sym (day_by_date ∙ rw (sym eb ∙ not-false b f))
