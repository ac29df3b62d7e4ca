-- What stands at a place of a rotated list, and that rotating only reorders. Assumes nothing.
use Prim.Native.Nat.{ℕ, ◌+◌, ◌-◌, ◌%◌, ◌≤◌, ◌<◌}
use mathlib.Core.Path.{◌≡◌, refl, sym, ap, subst, ◌∙◌}
use mathlib.Core.List.{List, [], ◌∷◌, ◌++◌, append-nil}
use native.Mathlib.Nat.{mod-lt, mod-eq_of_lt, mod-eq-sub-mod}
use native.Mathlib.Omega.{arith}
use lib.ListN.{length, get_or, take, drop, length-append, length-drop, length-take, take-append-drop, get_or-append}
use lib.Seq.{get_or-take, get_or-drop, get_or-append-add, take_at, drop_at, drop-drop}
use borrow.Rule.Slice.PartMut.{put_mid}
use Rattle.std.proofs.Common.{append_assoc}
use Rattle.std.proofs.lemmas.List.{take_all}
use Rattle.basics.specs.Tests.{list_below}
use Rattle.basics.specs.Sorting.{Reordered, same, skip, then}
use Rattle.basics.proofs.Bools.{by}
use Rattle.basics.proofs.Lists.{nothing}
use Rattle.basics.proofs.Below.{list_below-length, list_below_at}
use Rattle.basics.proofs.Reordered.{reordered_front}
use Rattle.outputs.proofs.Writing.{list_turn, list_end}
use Rattle.outputs.specs.Outputs.{fronted}
use Rattle.rotation.specs.Rotation.{rotated, place_round}

pub round_within : (k i n : ℕ) → i < n → place_round k i n < n
unfolding place_round
round_within k i n l = mod-lt (k % n + i) (omega arith)

-- two parts of a list, exchanged
swapped : {A : Type 0} (xs ys : List A) → Reordered (xs ++ ys) (ys ++ xs)
swapped xs [] = rw (append-nil xs) same
swapped xs (y ∷ ys) = then (reordered_front xs y ys) (skip y (swapped xs ys))

module _ {A : Type 0} (k : ℕ) (xs : List A) where
  abbrev n : ℕ
  n = length xs

  abbrev s : ℕ
  s = k % n

  pub length-rotated : length (rotated k xs) ≡ n
  unfolding rotated
  length-rotated = omega (arith, length-append (drop s xs) (take s xs), length-drop s xs, length-take s xs)

  pub rotated_reordered : Reordered xs (rotated k xs)
  unfolding rotated
  rotated_reordered = subst (λ (l : List A). Reordered l (drop s xs ++ take s xs)) (take-append-drop s xs) (swapped (take s xs) (drop s xs))

  pub rotated_at : (d : A) (i : ℕ) → i < n → get_or (rotated k xs) i d ≡ get_or xs (place_round k i n) d
  unfolding rotated place_round
  rotated_at d i l =
      by (s + i) n
      (λ h.
      get_or-append (drop s xs) (take s xs) d i (omega (arith, length-drop s xs))
      ∙ get_or-drop s xs i d
      ∙ ap (λ (j : ℕ). get_or xs j d) (sym (mod-eq_of_lt h)))
      (λ h.
      let below : s < n = mod-lt k (omega arith) in
      let e : i ≡ length (drop s xs) + (s + i - n) = omega (arith, length-drop s xs) in
      let q : s + i - n < n = omega arith in
      ap (λ (x : ℕ). get_or (drop s xs ++ take s xs) x d) e
      ∙ get_or-append-add (drop s xs) (take s xs) (s + i - n) d
      ∙ get_or-take s xs (s + i - n) d (omega arith)
      ∙ ap (λ (x : ℕ). get_or xs x d) (sym (mod-eq-sub-mod h ∙ mod-eq_of_lt q)))

-- the numbers below n, rotated: the place itself
pub places_at : (k n i : ℕ) → i < n → get_or (rotated k (list_below n (λ (j : ℕ). j))) i 0 ≡ place_round k i n
places_at k n i l =
    let long = list_below-length n (λ (j : ℕ). j) in
    rotated_at k (list_below n (λ (j : ℕ). j)) 0 i (rw long l)
    ∙ ap (λ (m : ℕ). get_or (list_below n (λ (j : ℕ). j)) (place_round k i m) 0) long
    ∙ list_below_at n (λ (j : ℕ). j) (place_round k i n) 0 (round_within k i n l)

-- a rotated list, one of it a turn
module _ (k : ℕ) (xs : List ℕ) (i : ℕ) where
  pub rotated_turn : i < length xs → drop i (rotated k xs) ≡ (get_or xs (place_round k i (length xs)) 0 ∷ []) ++ drop (i + 1) (rotated k xs)
  rotated_turn l =
      list_turn (rotated k xs) i (rw (length-rotated k xs) l)
      ∙ ap (λ (x : ℕ). (x ∷ []) ++ drop (i + 1) (rotated k xs)) (rotated_at k xs 0 i l)

  pub rotated_end : length xs ≤ i → drop i (rotated k xs) ≡ []
  rotated_end l = list_end (rotated k xs) i (rw (length-rotated k xs) l)

-- an empty list is written where nothing is
pub none_written : (k : ℕ) (xs out : List ℕ) → length xs ≡ 0 → out ≡ fronted (rotated k xs) out
none_written k xs out e = rw (nothing (rotated k xs) (length-rotated k xs ∙ e)) refl

-- a list written to the front in two parts: from a place on, and then what stands before it
module _ (k : ℕ) (xs out a b : List ℕ) (long : length xs ≤ length out) where
  pub halves_written : 0 < length xs → a ≡ take (length xs - k % length xs) (drop (k % length xs) xs) → b ≡ take (k % length xs) xs
      → put_mid (length xs - k % length xs) (length xs - (length xs - k % length xs)) (a ++ drop (length xs - k % length xs) out) b ≡ fronted (rotated k xs) out
  unfolding rotated
  halves_written pos e f =
      let n = length xs in
      let s = k % n in
      let less : s < n = mod-lt k pos in
      let whole : a ≡ drop s xs = e ∙ take_all (n - s) (drop s xs) (omega (arith, length-drop s xs)) in
      let front : length a ≡ n - s = ap length whole ∙ length-drop s xs in
      let back : n - s + (n - (n - s)) ≡ n = omega arith in
      let both : length (drop s xs ++ take s xs) ≡ n = length-rotated k xs in
      rw (
        take_at a (drop (n - s) out) (n - s) front,
        drop_at a (drop (n - s) out) (n - s) front,
        drop-drop (n - (n - s)) (n - s) out,
        back,
        both,
        whole,
        f,
      )
      (sym (append_assoc (drop s xs) (take s xs) (drop n out)))

-- the numbers below n, going round, one a turn
module _ (k n i : ℕ) where
  abbrev places : List ℕ
  places = rotated k (list_below n (λ (j : ℕ). j))

  length-places : length places ≡ n
  length-places = length-rotated k (list_below n (λ (j : ℕ). j)) ∙ list_below-length n (λ (j : ℕ). j)

  pub places_turn : i < n → drop i places ≡ place_round k i n ∷ drop (i + 1) places
  places_turn l =
      list_turn places i (rw length-places l)
      ∙ ap (λ (x : ℕ). (x ∷ []) ++ drop (i + 1) places) (places_at k n i l)

  pub places_end : n ≤ i → drop i places ≡ []
  places_end l = list_end places i (rw length-places l)
