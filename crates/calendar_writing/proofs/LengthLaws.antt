-- How long an object is, row by row. Assumes nothing.
use Prim.Native.Nat.{ℕ, ◌+◌, ◌*◌, ◌≤◌, ◌<◌}
use mathlib.Core.Path.{◌≡◌, refl, sym, ◌∙◌}
use mathlib.Core.Bool.{true}
use mathlib.Core.List.{List}
use native.Mathlib.Numerals.{add-one}
use native.Mathlib.Omega.{arith}
use lib.Dec.{ltb}
use lib.ListN.{length, get_or, drop, drop_of_length-le}
use lib.Seq.{drop-cons}
use borrow.Author.Tests.{ltb-true}
use Rattle.basics.specs.Edits.{all_rows}
use Rattle.basics.proofs.Below.{all-below, all_below_at}
use Rattle.decimals.specs.Decimals.{digits}
use Rattle.decimals.proofs.DigitLaws.{digits_three}
use Rattle.calendar_format.specs.Slices.{events_long, object_long}

pub long_start : (rs : List ℕ) → 78 + events_long (drop 0 rs) ≡ object_long rs
unfolding object_long
long_start rs = refl

pub long_turn : (rs : List ℕ) (i : ℕ) → i < length rs → events_long (drop i rs) ≡ 125 + 2 * length (digits (get_or rs i 0)) + events_long (drop (i + 1) rs)
unfolding events_long
long_turn rs i l = rw (drop-cons rs i 0 l, add-one i)

pub long_end : (rs : List ℕ) (i : ℕ) → length rs ≤ i → events_long (drop i rs) ≡ 0
unfolding events_long
long_end rs i l = rw (drop_of_length-le rs l)

-- a row below 128 has three digits at most
pub three_digits : (rs : List ℕ) (i : ℕ) → all_rows 128 rs ≡ true → i < length rs → length (digits (get_or rs i 0)) ≤ 3
three_digits rs i h l =
    let k : get_or rs i 0 < 128 = ltb-true (get_or rs i 0) 128 (all_below_at _ _ (sym (all-below (λ (r : ℕ). ltb r 128) 0 rs) ∙ h) i l) in
    digits_three (get_or rs i 0) (omega arith)
