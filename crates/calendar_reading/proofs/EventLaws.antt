-- An event, a row that is tried, and all rows. Assumes nothing.
use Prim.Native.Nat.{ℕ, zero, suc, ◌+◌, ◌-◌, ◌≤◌, ◌<◌}
use mathlib.Core.Path.{◌≡◌, refl, sym, ap, ap₂, ◌∙◌}
use mathlib.Core.Bool.{Bool, true, false, cond}
use mathlib.Core.List.{List, [], ◌∷◌, ◌++◌, append_assoc, append-nil}
use Rattle.std.specs.Prelude.{Option, None, Some}
use native.Mathlib.Omega.{arith}
use lib.ListN.{length, set, take, drop, length-append, length-set}
use lib.Seq.{length-take-le, take_at, length-sets}
use Rattle.basics.specs.Tests.{same_numbers}
use Rattle.basics.proofs.Bools.{either, clash}
use Rattle.basics.proofs.Lists.{same_numbers_iff}
use Rattle.outputs.proofs.Writing.{sets_front}
use Rattle.written_text.specs.Wrote.{Wrote}
use Rattle.civil_dates.specs.Dates.{last_day}
use Rattle.calendar_format.specs.Texts.{after, then}
use Rattle.calendar_format.specs.DateTexts.{date_text, day_of}
use Rattle.calendar_format.specs.Format.{Duty, closing, lead, rest}
use Rattle.calendar_format.specs.Slices.{duty, InFronts}
use Rattle.calendar_format.specs.Reading.{prepend, event_at, events_from}
use Rattle.decimals.proofs.DigitLaws.{digits_three}
use Rattle.calendar_format.proofs.AfterLaws.{after_form, after_same, then_some, then_none, some_pair}
use Rattle.calendar_format.proofs.DateTextLaws.{day_form, date_long}
use Rattle.calendar_format.proofs.SliceLaws.{none_in_front, one_more_lem}
use Rattle.calendar_format.proofs.ReadBack.{from_end, from_skip, from-event, none_where}
use Rattle.calendar_reading.specs.declared.events.Reached.{Reached}
use Rattle.calendar_writing.proofs.PieceLaws.{lead_long, rest_long}
use Rattle.calendar_reading.specs.Places.{from, PlaceIs, CopiedIs, nothing}
use Rattle.std.proofs.lemmas.Option.{MatchOption-at_none, MatchOption-at_some}
use Rattle.calendar_reading.specs.Events.{Tried}

-- ---- an event

-- what was written to the front of a slice stands there
text_in_front : (s t xs : List ℕ) (n : ℕ) → Wrote s 0 xs t n → length xs ≤ length s → take n t ≡ xs
text_in_front s t xs n w l =
    let e : n ≡ length xs = omega (arith, w.place) in
    ap₂ take e (w.bytes ∙ sets_front xs s l) ∙ take_at xs (drop (length xs) s) (length xs) refl

pub take_short : (i : ℕ) (u : List ℕ) → length u < i → length (take i u) < i
take_short zero u h = absurd (omega arith)
take_short (suc i) [] h = omega arith
take_short (suc i) (x ∷ u) h = omega (arith, take_short i u (omega arith))

module _ (s : List ℕ) (r : ℕ) (l : List ℕ) where
  no_lead : after (lead s r) l ≡ None → event_at s r l ≡ None
  unfolding event_at
  no_lead e = then_none (after (lead s r) l) _ e

  module _ (m : List ℕ) (e : after (lead s r) l ≡ Some m) where
    behind-lead : event_at s r l ≡ then (day_of (take 8 m)) (λ d. then (after (rest r d) (drop 8 m)) (λ n. Some (d, n)))
    unfolding event_at
    behind-lead = then_some (after (lead s r) l) _ m e

    too_short : length m < 8 → event_at s r l ≡ None
    too_short k =
        behind-lead ∙ then_none (day_of (take 8 m)) _ (none_where (day_of (take 8 m)) (λ n f. never n (day_form (take 8 m) n f).1))
      where
        never : (n : ℕ) → take 8 m ≡ date_text n → ⊥
        never n q = omega (arith, ap length q, date_long n, take_short 8 m k)

    no_day : day_of (take 8 m) ≡ None → event_at s r l ≡ None
    no_day f = behind-lead ∙ then_none (day_of (take 8 m)) _ f

    module _ (d : ℕ) (f : day_of (take 8 m) ≡ Some d) where
      behind_day : event_at s r l ≡ then (after (rest r d) (drop 8 m)) (λ n. Some (d, n))
      behind_day = behind-lead ∙ then_some (day_of (take 8 m)) _ d f

      no_rest : after (rest r d) (drop 8 m) ≡ None → event_at s r l ≡ None
      no_rest g = behind_day ∙ then_none (after (rest r d) (drop 8 m)) _ g

      whole-event : (n : List ℕ) → after (rest r d) (drop 8 m) ≡ Some n → event_at s r l ≡ Some (d, n)
      whole-event n g = behind_day ∙ then_some (after (rest r d) (drop 8 m)) _ n g

-- what is written to be compared fits
pub lead-fits : (s : List ℕ) (r : ℕ) → length s ≡ 16 → r < 128 → length (lead s r) ≤ 62
lead-fits s r h l = let k = digits_three r (omega arith) in omega (arith, lead_long s r)

pub rest-fits : (r d : ℕ) → r < 128 → length (rest r d) ≤ 62
rest-fits r d l = let k = digits_three r (omega arith) in omega (arith, rest_long r d)

-- the front that a text was written to
module _ (s t xs : List ℕ) (n : ℕ) (w : Wrote s 0 xs t n) (l : length xs ≤ length s) where
  pub front-within : n ≤ length t
  front-within = omega (arith, w.place, ap length w.bytes, length-sets s 0 xs)

  pub front_long : n ≡ length (take n t)
  front_long = sym (length-take-le n t front-within)

  -- what is looked for there is the text
  looked_for : (bytes m : List ℕ) (p : Option ℕ) → PlaceIs bytes (after (take n t) m) p → PlaceIs bytes (after xs m) p
  looked_for bytes m p q = rw (text_in_front s t xs n w l) at q

-- ---- the same, step by step as it is read

module _ (bytes s : List ℕ) (at r : ℕ) (long : length s ≡ 16) (row : r < 128) (t₀ t₁ : List ℕ) (n₁ : ℕ) (room₀ : length t₀ ≡ 62) (w₁ : Wrote t₀ 0 (lead s r) t₁ n₁)
    (p₁ : Option ℕ) (q₁ : PlaceIs bytes (after (take n₁ t₁) (from bytes at)) p₁) where
  lead-fits-here : length (lead s r) ≤ length t₀
  lead-fits-here = omega (arith, lead-fits s r long row)

  led : PlaceIs bytes (after (lead s r) (from bytes at)) p₁
  led = looked_for t₀ t₁ (lead s r) n₁ w₁ lead-fits-here bytes (from bytes at) p₁ q₁

  pub without-lead : p₁ ≡ None → event_at s r (from bytes at) ≡ None
  without-lead e = no_lead s r (from bytes at) (MatchOption-at_none _ _ e led)

  module _ (dated : ℕ) (e₁ : p₁ ≡ Some dated) where
    pub dated_within : dated ≤ length bytes
    dated_within = (MatchOption-at_some _ _ dated e₁ led).0

    behind : after (lead s r) (from bytes at) ≡ Some (from bytes dated)
    behind = (MatchOption-at_some _ _ dated e₁ led).1

    module _ (date : List ℕ) (p₂ : Option ℕ) (q₂ : CopiedIs bytes (from bytes dated) 8 date p₂) where
      pub without-date : p₂ ≡ None → event_at s r (from bytes at) ≡ None
      without-date e = too_short s r (from bytes at) (from bytes dated) behind (MatchOption-at_none _ _ e q₂)

      module _ (next : ℕ) (e₂ : p₂ ≡ Some next) where
        copied : (next ≤ length bytes) × (date ≡ take 8 (from bytes dated)) × (drop 8 (from bytes dated) ≡ from bytes next) × (8 ≤ length (from bytes dated))
        copied = MatchOption-at_some _ _ next e₂ q₂

        pub next_within : next ≤ length bytes
        next_within = copied.0

        module _ (y : Option ℕ) (q₃ : y ≡ day_of date) where
          day_is : y ≡ day_of (take 8 (from bytes dated))
          day_is = q₃ ∙ ap day_of copied.1

          pub without_day : y ≡ None → event_at s r (from bytes at) ≡ None
          without_day e = no_day s r (from bytes at) (from bytes dated) behind (sym day_is ∙ e)

          module _ (d : ℕ) (e₃ : y ≡ Some d) where
            on_day : day_of (take 8 (from bytes dated)) ≡ Some d
            on_day = sym day_is ∙ e₃

            pub day_in_range : d ≤ last_day
            day_in_range = (day_form (take 8 (from bytes dated)) d on_day).0

            module _ (t₂ : List ℕ) (n₂ : ℕ) (room₁ : length t₁ ≡ 62) (w₂ : Wrote t₁ 0 (rest r d) t₂ n₂) (p₄ : Option ℕ) (q₄ : PlaceIs bytes (after (take n₂ t₂) (from bytes next)) p₄) where
              rested : PlaceIs bytes (after (rest r d) (drop 8 (from bytes dated))) p₄
              rested = rw copied.2 (looked_for t₁ t₂ (rest r d) n₂ w₂ (omega (arith, rest-fits r d row)) bytes (from bytes next) p₄ q₄)

              pub without-rest : p₄ ≡ None → event_at s r (from bytes at) ≡ None
              without-rest e = no_rest s r (from bytes at) (from bytes dated) behind d on_day (MatchOption-at_none _ _ e rested)

              pub event_read : (end : ℕ) → p₄ ≡ Some end → (end ≤ length bytes) × (event_at s r (from bytes at) ≡ Some (d, from bytes end))
              event_read end e =
                  let (k, f) = MatchOption-at_some _ _ end e rested in
                  (k, whole-event s r (from bytes at) (from bytes dated) behind d on_day (from bytes end) f)

-- ---- a row

module _ (bytes : List ℕ) (row : ℕ) (read : Option (ℕ × List ℕ)) (rs ds : List ℕ) (at : Reached) (in_bytes : at.place ≤ length bytes) where
  pub row_skipped : read ≡ None → Tried bytes row read rs ds at rs ds at
  row_skipped e = record {
    within = in_bytes;
    rows_long = refl;
    days_long = refl;
    few = omega arith;
    skipped = λ f. (refl, refl, refl);
    added = λ day left f. let z : ◌≡◌ {A = ℕ} 0 1 = cc in absurd (omega arith);
  }

  pub row_added : (day next : ℕ) → next ≤ length bytes → read ≡ Some (day, from bytes next)
      → Tried bytes row read rs ds at (set rs at.count row) (set ds at.count day) (record { count = at.count + 1; place = next })
  row_added day next l e = record {
    within = l;
    rows_long = length-set rs at.count row;
    days_long = length-set ds at.count day;
    few = omega arith;
    skipped = λ f. let z : ◌≡◌ {A = ℕ} 0 1 = cc in absurd (omega arith);
    added = λ d left f.
        let q : ◌≡◌ {A = Option (ℕ × List ℕ)} (Some (d, left)) (Some (day, from bytes next)) = sym f ∙ e in
        let p = some_pair d day left (from bytes next) q in
        (ap (λ (x : ℕ × List ℕ). x.1) p, refl, refl, ap (λ (x : ℕ). set ds at.count x) (sym (ap (λ (x : ℕ × List ℕ). x.0) p)));
  }

-- ---- the rows, one after another

-- the duties so far, and then what is read behind them
unfoldable pub onto : List Duty → Option (List Duty) → Option (List Duty)
onto D None = None
onto D (Some E) = Some (D ++ E)

onto-nothing : (o : Option (List Duty)) → onto [] o ≡ o
unfolding onto
onto-nothing None = refl
onto-nothing (Some E) = refl

onto_one_more : (D : List Duty) (x : Duty) (o : Option (List Duty)) → onto D (prepend x o) ≡ onto (D ++ (x ∷ [])) o
unfolding onto prepend
onto_one_more D x None = refl
onto_one_more D x (Some E) = ap Some (sym (append_assoc D (x ∷ []) E))

-- k rows from r on are still to be tried; the duties so far stand in front
pub record Reading (whole : Option (List Duty)) (bytes s : List ℕ) (k r : ℕ) (at : Reached) (rs ds : List ℕ) : Type 0 where
  pub rows_long : length rs ≡ 128
  pub days_long : length ds ≡ 128
  pub rows_left : r + k ≡ 128
  pub few : at.count ≤ r
  pub within : at.place ≤ length bytes
  pub so_far : List Duty
  pub in_front : InFronts so_far rs ds at.count
  pub same : whole ≡ onto so_far (events_from k r s (from bytes at.place))

pub begins : (bytes s : List ℕ) (at : ℕ) (rs ds : List ℕ) → at ≤ length bytes → length rs ≡ 128 → length ds ≡ 128
    → Reading (events_from 128 0 s (from bytes at)) bytes s 128 0 (record { count = 0; place = at }) rs ds
begins bytes s at rs ds l e f = record {
  rows_long = e;
  days_long = f;
  rows_left = refl;
  few = omega arith;
  within = l;
  so_far = [];
  in_front = none_in_front rs ds;
  same = sym (onto-nothing _);
}

module _ (whole : Option (List Duty)) (bytes s : List ℕ) (k r : ℕ) (at : Reached) (rs ds : List ℕ) (w : Reading whole bytes s (suc k) r at rs ds) where
  module _ (rs' ds' : List ℕ) (next : Reached) (t : Tried bytes r (event_at s r (from bytes at.place)) rs ds at rs' ds' next) where
    skipped : event_at s r (from bytes at.place) ≡ None → Reading whole bytes s k (r + 1) next rs' ds'
    skipped e =
        let (a, b, c) = t.skipped e in
        let r1 : suc r ≡ r + 1 = omega arith in
        record {
          rows_long = t.rows_long ∙ w.rows_long;
          days_long = t.days_long ∙ w.days_long;
          rows_left = omega (arith, w.rows_left);
          few = omega (arith, ap (λ (x : Reached). x.count) a, w.few);
          within = t.within;
          so_far = w.so_far;
          in_front = rw (a, b, c) w.in_front;
          same = w.same ∙ ap (onto w.so_far) (from_skip k r s _ e ∙ rw (r1, a));
        }

    added : (d : ℕ) (l : List ℕ) → event_at s r (from bytes at.place) ≡ Some (d, l) → Reading whole bytes s k (r + 1) next rs' ds'
    added d l e =
        let (a, b, c, f) = t.added d l e in
        let r1 : suc r ≡ r + 1 = omega arith in
        let roomy : at.count < 128 = omega (arith, w.few, w.rows_left) in
        record {
          rows_long = t.rows_long ∙ w.rows_long;
          days_long = t.days_long ∙ w.days_long;
          rows_left = omega (arith, w.rows_left);
          few = omega (arith, b, w.few);
          within = t.within;
          so_far = w.so_far ++ (duty r d ∷ []);
          in_front = rw (b, c, f) (one_more_lem w.so_far rs ds at.count w.in_front r d (omega (arith, w.rows_long)) (omega (arith, w.days_long)));
          same = w.same ∙ ap (onto w.so_far) (from-event k r s _ d l e) ∙ onto_one_more w.so_far (duty r d) _ ∙ rw (r1, a);
        }

    row-tried : Reading whole bytes s k (r + 1) next rs' ds'
    row-tried = cases (event_at s r (from bytes at.place)) refl
      where
        cases : (o : Option (ℕ × List ℕ)) → event_at s r (from bytes at.place) ≡ o → Reading whole bytes s k (r + 1) next rs' ds'
        cases None e = skipped e
        cases (Some (d, l)) e = added d l e

-- as the loop counts: a row more, and no row left
pub row_turn : (whole : Option (List Duty)) (bytes s : List ℕ) (r : ℕ) (at : Reached) (rs ds : List ℕ) → r < 128 → Reading whole bytes s (128 - r) r at rs ds
    → (rs' ds' : List ℕ) (next : Reached) → Tried bytes r (event_at s r (from bytes at.place)) rs ds at rs' ds' next → Reading whole bytes s (128 - (r + 1)) (r + 1) next rs' ds'
row_turn whole bytes s r at rs ds l w rs' ds' next t =
    let e : 128 - r ≡ suc (128 - (r + 1)) = omega arith in
    row-tried whole bytes s (128 - (r + 1)) r at rs ds (rw e at w) rs' ds' next t

pub rows_done : (whole : Option (List Duty)) (bytes s : List ℕ) (r : ℕ) (at : Reached) (rs ds : List ℕ) → 128 ≤ r → Reading whole bytes s (128 - r) r at rs ds → Reading whole bytes s 0 r at rs ds
rows_done whole bytes s r at rs ds l w = let e : 128 - r ≡ 0 = omega arith in rw e at w

-- ---- the end

nothing_is : (l : List ℕ) → nothing l ≡ true → l ≡ []
unfolding nothing
nothing_is [] t = refl
nothing_is (b ∷ l) t = absurd (clash t refl)

something_is : (l : List ℕ) → nothing l ≡ false → 0 < length l
unfolding nothing
something_is [] f = absurd (clash refl f)
something_is (b ∷ l) f = omega arith

module _ (whole : Option (List Duty)) (bytes s : List ℕ) (r : ℕ) (at : Reached) (rs ds : List ℕ) (w : Reading whole bytes s 0 r at rs ds) where
  abbrev left : List ℕ
  left = from bytes at.place

  whole_is : (b : Bool) → same_numbers left closing ≡ b → whole ≡ onto w.so_far (cond b (Some []) None)
  whole_is b e = w.same ∙ ap (onto w.so_far) (from_end r s left ∙ rw e)

  nothing_read : (b : Bool) → same_numbers left closing ≡ b → b ≡ false → whole ≡ None
  unfolding onto
  nothing_read b e f = whole_is b e ∙ rw f

  pub no_closing : after closing left ≡ None → whole ≡ None
  no_closing n =
      either (same_numbers left closing)
      (λ t. absurd (never ((same_numbers_iff left closing).0 t)))
      (λ f. nothing_read _ refl f)
    where
      never : left ≡ closing → ⊥
      never q =
          let y : after closing left ≡ Some [] = ap (after closing) (q ∙ sym (append-nil closing)) ∙ after_same closing [] in
          let z : ◌≡◌ {A = ℕ} 0 1 = cc in omega arith

  module _ (m : List ℕ) (c : after closing left ≡ Some m) where
    pub more-behind : nothing m ≡ false → whole ≡ None
    more-behind f =
        either (same_numbers left closing)
        (λ t. absurd (never ((same_numbers_iff left closing).0 t)))
        (λ g. nothing_read _ refl g)
      where
        never : left ≡ closing → ⊥
        never q = omega (arith, something_is m f, ap length (sym q ∙ after_form closing left m c), length-append closing m)

    pub all_read : nothing m ≡ true → (D : List Duty) × (whole ≡ Some D) × InFronts D rs ds at.count
    unfolding onto
    all_read t =
        let q : left ≡ closing = after_form closing left m c ∙ ap (λ (x : List ℕ). closing ++ x) (nothing_is m t) ∙ append-nil closing in
        (w.so_far, whole_is true ((same_numbers_iff left closing).1 q) ∙ ap Some (append-nil w.so_far), w.in_front)
