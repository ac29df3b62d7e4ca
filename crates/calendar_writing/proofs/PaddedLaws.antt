-- Writing so many digits of a number, from the last to the first. Assumes nothing.
use Prim.Native.Nat.{ℕ, zero, suc, ◌+◌, ◌-◌, ◌/◌, ◌≤◌, ◌<◌}
use mathlib.Core.Path.{◌≡◌, refl, sym, ap, ◌∙◌}
use mathlib.Core.List.{List, [], ◌∷◌, ◌++◌, append_assoc}
use native.Mathlib.Omega.{arith}
use lib.ListN.{length, set, length-set}
use lib.Seq.{sets}
use Rattle.basics.proofs.Maps.{sets_append}
use Rattle.decimals.specs.Decimals.{last_digit}
use Rattle.decimals.proofs.WritingLaws.{sets_before}
use Rattle.written_text.specs.Wrote.{Wrote}
use Rattle.civil_dates.specs.declared.Date.{Date}
use Rattle.civil_dates.specs.Dates.{date_of}
use Rattle.calendar_format.specs.Texts.{padded}
use Rattle.calendar_format.specs.DateTexts.{written, date_text}
use Rattle.calendar_format.proofs.NumberLaws.{padded_long}

-- `left` digits of `rest` are still to be written, those behind stand in s already, where `width` of n go into t
pub record Backwards (s : List ℕ) (left rest : ℕ) (t : List ℕ) (at width n : ℕ) : Type 0 where
  pub long : length s ≡ length t
  pub fewer : left ≤ width
  pub same : sets s at (padded left rest) ≡ sets t at (padded width n)

pub begins : (t : List ℕ) (at width n : ℕ) → Backwards t width n t at width n
begins t at width n = record { long = refl; fewer = omega arith; same = refl }

padded_one_more : (left rest : ℕ) → 0 < left → padded left rest ≡ padded (left - 1) (rest / 10) ++ (last_digit rest ∷ [])
unfolding padded
padded_one_more zero rest l = absurd (omega arith)
padded_one_more (suc k) rest l = let e : suc k - 1 ≡ k = omega arith in rw e

padded_none : (left rest : ℕ) → left ≤ 0 → padded left rest ≡ []
unfolding padded
padded_none zero rest l = refl
padded_none (suc k) rest l = absurd (omega arith)

last_behind : (s : List ℕ) (at : ℕ) (xs : List ℕ) (k x y : ℕ) → length xs ≡ k → x ≡ y → set (sets s at xs) (at + k) x ≡ sets s at (xs ++ (y ∷ []))
last_behind s at xs k x y l e = rw (← l, e) (sym (sets_append s at xs (y ∷ [])))

module _ (s : List ℕ) (left rest : ℕ) (t : List ℕ) (at width n : ℕ) (w : Backwards s left rest t at width n) where
  pub one_written : 0 < left → (x : ℕ) → x ≡ last_digit rest → Backwards (set s (at + (left - 1)) x) (left - 1) (rest / 10) t at width n
  one_written l x e =
      let k = padded_long (left - 1) (rest / 10) in
      record {
        long = length-set s (at + (left - 1)) x ∙ w.long;
        fewer = omega (arith, w.fewer);
        same =
            sets_before s at (padded (left - 1) (rest / 10)) (at + (left - 1)) x (omega arith)
            ∙ last_behind s at (padded (left - 1) (rest / 10)) (left - 1) x (last_digit rest) k e
            ∙ ap (sets s at) (sym (padded_one_more left rest l))
            ∙ w.same;
      }

  pub all-written : left ≤ 0 → Wrote t at (padded width n) s (at + width)
  all-written l = record {
    place = ap (λ (k : ℕ). at + k) (sym (padded_long width n));
    bytes = ap (sets s at) (sym (padded_none left rest l)) ∙ w.same;
  }

-- a date, number by number
pub date_pieces : (day : ℕ) (d : Date) → d ≡ date_of day → (padded 4 d.year ++ padded 2 d.month) ++ padded 2 d.day ≡ date_text day
unfolding date_text written
date_pieces day d e = append_assoc (padded 4 d.year) (padded 2 d.month) (padded 2 d.day) ∙ ap written e
