-- Duties in two slices: one more, all of them, and what each slice is. Assumes nothing.
use Prim.Native.Nat.{ℕ, suc, ◌+◌, ◌≤◌, ◌<◌}
use mathlib.Core.Path.{◌≡◌, refl, sym, ap, ap₂, ◌∙◌}
use mathlib.Core.Bool.{true}
use mathlib.Core.List.{List, [], ◌∷◌, ◌++◌}
use native.Mathlib.Numerals.{add-one}
use native.Mathlib.Omega.{arith}
use lib.Dec.{leb}
use lib.ListN.{length, get_or, set, take, drop, length-set, drop_of_length-le}
use lib.Seq.{drop-cons, length-take-le}
use borrow.Author.Tests.{leb-true}
use Rattle.basics.specs.Tests.{all_below}
use Rattle.basics.proofs.Below.{all-below, all_below_at}
use Rattle.basics.proofs.Maps.{take-written}
use Rattle.civil_dates.specs.Dates.{last_day}
use Rattle.calendar_format.specs.Format.{Duty}
use Rattle.calendar_format.specs.Slices.{duty, paired, duty_rows, duty_days, datable, InFronts}

-- ---- two slices of one length

pub length-paired : (rs ds : List ℕ) → length rs ≡ length ds → length (paired rs ds) ≡ length rs
unfolding paired
length-paired [] ds h = refl
length-paired (r ∷ rs) [] h = absurd (omega arith)
length-paired (r ∷ rs) (d ∷ ds) h = ap suc (length-paired rs ds (omega arith))

pub rows_paired : (rs ds : List ℕ) → length rs ≡ length ds → duty_rows (paired rs ds) ≡ rs
unfolding paired duty_rows
rows_paired [] ds h = refl
rows_paired (r ∷ rs) [] h = absurd (omega arith)
rows_paired (r ∷ rs) (d ∷ ds) h = ap (λ (l : List ℕ). r ∷ l) (rows_paired rs ds (omega arith))

pub days_paired : (rs ds : List ℕ) → length rs ≡ length ds → duty_days (paired rs ds) ≡ ds
unfolding paired duty_days
days_paired [] [] h = refl
days_paired [] (d ∷ ds) h = absurd (omega arith)
days_paired (r ∷ rs) [] h = absurd (omega arith)
days_paired (r ∷ rs) (d ∷ ds) h = ap (λ (l : List ℕ). d ∷ l) (days_paired rs ds (omega arith))

-- one more at the end
paired-behind : (rs ds : List ℕ) (r d : ℕ) → length rs ≡ length ds → paired (rs ++ (r ∷ [])) (ds ++ (d ∷ [])) ≡ paired rs ds ++ (duty r d ∷ [])
unfolding paired
paired-behind [] [] r d h = refl
paired-behind [] (e ∷ ds) r d h = absurd (omega arith)
paired-behind (q ∷ rs) [] r d h = absurd (omega arith)
paired-behind (q ∷ rs) (e ∷ ds) r d h = ap (λ (L : List Duty). duty q e ∷ L) (paired-behind rs ds r d (omega arith))

-- from a place on: the duty there, and those behind; past the end none
module _ (rs ds : List ℕ) (i : ℕ) where
  pub paired-from : length rs ≡ length ds → i < length rs
      → paired (drop i rs) (drop i ds) ≡ duty (get_or rs i 0) (get_or ds i 0) ∷ paired (drop (i + 1) rs) (drop (i + 1) ds)
  unfolding paired
  paired-from h l = let k : i < length ds = omega arith in rw (drop-cons rs i 0 l, drop-cons ds i 0 k, add-one i)

  pub paired_end : length rs ≤ i → paired (drop i rs) (drop i ds) ≡ []
  unfolding paired
  paired_end l = rw (drop_of_length-le rs l)

-- the test of days, place by place
pub datable-below : (ds : List ℕ) → datable ds ≡ all_below (length ds) (λ (i : ℕ). leb (get_or ds i 0) last_day)
unfolding datable
datable-below ds = all-below (λ (d : ℕ). leb d last_day) 0 ds

pub datable_at : (ds : List ℕ) (i : ℕ) → datable ds ≡ true → i < length ds → get_or ds i 0 ≤ last_day
datable_at ds i h l = leb-true _ _ (all_below_at _ _ (sym (datable-below ds) ∙ h) i l)

-- ---- the fronts of two slices

pub none_in_front : (rs ds : List ℕ) → InFronts [] rs ds 0
unfolding paired
none_in_front rs ds = record { rows_room = omega arith; days_room = omega arith; are = refl }

module _ (D : List Duty) (rs ds : List ℕ) (n : ℕ) (w : InFronts D rs ds n) where
  as_many : length (take n rs) ≡ length (take n ds)
  as_many = length-take-le n rs w.rows_room ∙ sym (length-take-le n ds w.days_room)

  pub front_number : length D ≡ n
  front_number = ap length w.are ∙ length-paired (take n rs) (take n ds) as_many ∙ length-take-le n rs w.rows_room

  pub front_rows : take n rs ≡ duty_rows D
  front_rows = sym (ap duty_rows w.are ∙ rows_paired (take n rs) (take n ds) as_many)

  pub front_days : take n ds ≡ duty_days D
  front_days = sym (ap duty_days w.are ∙ days_paired (take n rs) (take n ds) as_many)

  -- a duty more
  pub one_more_lem : (r d : ℕ) → n < length rs → n < length ds → InFronts (D ++ (duty r d ∷ [])) (set rs n r) (set ds n d) (n + 1)
  one_more_lem r d k l = record {
    rows_room = simp length-set (omega arith);
    days_room = simp length-set (omega arith);
    are = ap (λ (L : List Duty). L ++ (duty r d ∷ [])) w.are ∙ sym (paired-behind (take n rs) (take n ds) r d as_many) ∙ sym (ap₂ paired (take-written rs n r k) (take-written ds n d l));
  }
