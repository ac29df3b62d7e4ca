-- Folds at a place, and the octets behind them. Assumes nothing.
use Prim.Native.Nat.{ℕ, suc, ◌+◌, ◌-◌, ◌≤◌, ◌<◌}
use mathlib.Core.Path.{◌≡◌, refl, sym, ap, ◌∙◌}
use mathlib.Core.Bool.{true, false, ◌&&◌}
use mathlib.Core.List.{List, [], ◌∷◌}
use native.Mathlib.Numerals.{add-one}
use native.Mathlib.Omega.{arith}
use lib.Dec.{eqb}
use lib.ListN.{length, get_or, drop, length-drop, drop_of_length-le}
use lib.Seq.{drop-cons}
use Rattle.basics.proofs.Bools.{clash}
use Rattle.calendar_format.specs.Folding.{is_blank, fold_here, unfold_by, unfolded}
use Rattle.calendar_reading.specs.Places.{from, Past}

-- ---- whether a fold stands there

short_of_a_fold : (l : List ℕ) → length l < 3 → fold_here l ≡ false
unfolding fold_here
short_of_a_fold [] h = refl
short_of_a_fold (a ∷ []) h = refl
short_of_a_fold (a ∷ b ∷ []) h = refl
short_of_a_fold (a ∷ b ∷ c ∷ l) h = absurd (omega arith)

three_octets : (a b c : ℕ) (l : List ℕ) → fold_here (a ∷ b ∷ c ∷ l) ≡ (eqb a 13 && (eqb b 10 && is_blank c))
unfolding fold_here
three_octets a b c l = refl

module _ (bytes : List ℕ) (at : ℕ) where
  pub no_fold_at_the_end : at ≤ length bytes → length bytes - at < 3 → false ≡ fold_here (drop at bytes)
  no_fold_at_the_end h l = sym (short_of_a_fold (drop at bytes) (simp length-drop (omega arith)))

  front_three : 3 ≤ length bytes - at → drop at bytes ≡ get_or bytes at 0 ∷ get_or bytes (at + 1) 0 ∷ get_or bytes (at + 2) 0 ∷ drop (at + 3) bytes
  front_three l =
      let a : at < length bytes = omega arith in
      let b : at + 1 < length bytes = omega arith in
      let c : at + 2 < length bytes = omega arith in
      let e : suc at ≡ at + 1 = omega arith in
      let f : suc (at + 1) ≡ at + 2 = omega arith in
      let g : suc (at + 2) ≡ at + 3 = omega arith in
      rw (drop-cons bytes at 0 a, e, drop-cons bytes (at + 1) 0 b, f, drop-cons bytes (at + 2) 0 c, g)

  pub fold_is : 3 ≤ length bytes - at → fold_here (drop at bytes) ≡ (eqb (get_or bytes at 0) 13 && (eqb (get_or bytes (at + 1) 0) 10 && is_blank (get_or bytes (at + 2) 0)))
  fold_is l = ap fold_here (front_three l) ∙ three_octets (get_or bytes at 0) (get_or bytes (at + 1) 0) (get_or bytes (at + 2) 0) (drop (at + 3) bytes)

-- ---- past a fold

fold_long : (l : List ℕ) → fold_here l ≡ true → 3 ≤ length l
unfolding fold_here
fold_long [] t = absurd (clash t refl)
fold_long (a ∷ []) t = absurd (clash t refl)
fold_long (a ∷ b ∷ []) t = absurd (clash t refl)
fold_long (a ∷ b ∷ c ∷ l) t = omega arith

fold_out : (a b c : ℕ) (l : List ℕ) → fold_here (a ∷ b ∷ c ∷ l) ≡ true → unfolded (a ∷ b ∷ c ∷ l) ≡ unfolded l
unfolding unfold_by
fold_out a b c l t = rw t

octet_stays : (a : ℕ) (l : List ℕ) → fold_here (a ∷ l) ≡ false → unfolded (a ∷ l) ≡ a ∷ unfolded l
unfolding unfold_by
octet_stays a l f = rw f

none_stay : unfolded [] ≡ []
unfolding unfold_by
none_stay = refl

module _ (bytes : List ℕ) (at : ℕ) where
  pub fold_room : at ≤ length bytes → fold_here (drop at bytes) ≡ true → at + 3 ≤ length bytes
  fold_room h t = let k = fold_long (drop at bytes) t in omega (arith, length-drop at bytes)

  pub past_one : at ≤ length bytes → fold_here (drop at bytes) ≡ true → from bytes at ≡ from bytes (at + 3)
  past_one h t =
      let k = fold_room h t in
      let e = front_three bytes at (omega arith) in
      ap unfolded e ∙ fold_out _ _ _ _ (ap fold_here (sym e) ∙ t)

pub past_yet : (bytes : List ℕ) (at place : ℕ) → place ≤ length bytes → from bytes at ≡ from bytes place → fold_here (drop place bytes) ≡ false → Past bytes at place
past_yet bytes at place l e f = record { within = l; same = e; no_fold = f }

-- ---- the octet there

module _ (bytes : List ℕ) (at place : ℕ) (w : Past bytes at place) where
  pub none_left : length bytes ≤ place → from bytes at ≡ []
  none_left l = w.same ∙ ap unfolded (drop_of_length-le bytes l) ∙ none_stay

  pub octet_there : place < length bytes → (place + 1 ≤ length bytes) × (from bytes at ≡ get_or bytes place 0 ∷ from bytes (place + 1))
  octet_there l =
      let e : drop place bytes ≡ get_or bytes place 0 ∷ drop (place + 1) bytes = rw add-one (drop-cons bytes place 0 l) in
      (omega arith, w.same ∙ ap unfolded e ∙ octet_stays (get_or bytes place 0) (drop (place + 1) bytes) (ap fold_here (sym e) ∙ w.no_fold))
