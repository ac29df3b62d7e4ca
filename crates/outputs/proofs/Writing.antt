-- A loop that writes a list into a slice, a part of it in each turn. Assumes nothing.
use Prim.Native.Nat.{ℕ, ◌+◌, ◌-◌, ◌≤◌, ◌<◌}
use mathlib.Core.Path.{◌≡◌, refl, sym, ap, ◌∙◌}
use mathlib.Core.List.{List, [], ◌∷◌, ◌++◌, map}
use native.Mathlib.Nat.{zero-add, add-zero}
use native.Mathlib.Numerals.{add-one}
use native.Mathlib.Omega.{arith}
use lib.ListN.{length, get_or, drop, set, length-append, length-drop, drop_of_length-le}
use lib.Seq.{sets, sets-eq, length-sets, drop-append-add, drop-drop, drop-cons}
use Rattle.basics.proofs.Maps.{sets_append}
use Rattle.outputs.specs.Outputs.{fronted}

-- writing the rest, xs, into s from the place a on is writing all, ys, into t from b on
pub record Writing (s : List ℕ) (a : ℕ) (xs t : List ℕ) (b : ℕ) (ys : List ℕ) : Type 0 where
  pub long : length s ≡ length t
  pub ends : a + length xs ≡ b + length ys
  pub same : sets s a xs ≡ sets t b ys

pub begun : (s : List ℕ) (a : ℕ) (xs : List ℕ) → Writing s a xs s a xs
begun s a xs = record { long = refl; ends = refl; same = refl }

module _ (s : List ℕ) (a : ℕ) (xs t : List ℕ) (b : ℕ) (ys : List ℕ) (w : Writing s a xs t b ys) where
  module _ (now later : List ℕ) (e : xs ≡ now ++ later) where
    pub room : b + length ys ≤ length t → a + length now ≤ length s
    room h = omega (arith, ap length e, length-append now later, w.ends, w.long)

    pub turned : (c : ℕ) (u : List ℕ) → (c ≡ a + length now) × (u ≡ sets s a now) → Writing u c later t b ys
    turned c u h = record {
      long = ap length h.1 ∙ length-sets s a now ∙ w.long;
      ends = omega (arith, h.0, ap length e, length-append now later, w.ends);
      same = rw (h.0, h.1) (sym (sets_append s a now later) ∙ ap (sets s a) (sym e) ∙ w.same);
    }

  pub ended : xs ≡ [] → (a ≡ b + length ys) × (s ≡ sets t b ys)
  ended e = (omega (arith, ap length e, w.ends), ap (sets s a) (sym e) ∙ w.same)

-- a list, one of it a turn
module _ (xs : List ℕ) (i : ℕ) where
  pub list_turn : i < length xs → drop i xs ≡ (get_or xs i 0 ∷ []) ++ drop (i + 1) xs
  list_turn l = rw (drop-cons xs i 0 l, add-one i)

  pub list_end : length xs ≤ i → drop i xs ≡ []
  list_end l = drop_of_length-le xs l

-- the images of a list, one a turn
module _ (f : ℕ → ℕ) (xs : List ℕ) (i : ℕ) where
  pub map_turn : i < length xs → map f (drop i xs) ≡ (f (get_or xs i 0) ∷ []) ++ map f (drop (i + 1) xs)
  map_turn l = rw (drop-cons xs i 0 l, add-one i)

  pub map_end : length xs ≤ i → map f (drop i xs) ≡ []
  map_end l = ap (map f) (drop_of_length-le xs l)

  pub image_written : (s : List ℕ) (y : ℕ) → y ≡ f (get_or xs i 0) → (i + 1 ≡ i + length (f (get_or xs i 0) ∷ [])) × (set s i y ≡ sets s i (f (get_or xs i 0) ∷ []))
  image_written s y e = rw e (refl, refl)

-- what is written from the front
pub sets_front : (xs s : List ℕ) → length xs ≤ length s → sets s 0 xs ≡ fronted xs s
sets_front xs s h = sets-eq xs s 0 (omega arith) ∙ rw (zero-add (length xs))

-- and written over a front that is not longer
pub sets_over : (xs ys s : List ℕ) → length ys ≤ length xs → length xs ≤ length s → sets (fronted ys s) 0 xs ≡ fronted xs s
sets_over xs ys s e h =
    let long : length xs ≤ length (fronted ys s) = omega (arith, length-append ys (drop (length ys) s), length-drop (length ys) s) in
    let more : length xs ≡ length ys + (length xs - length ys) = omega arith in
    sets_front xs (fronted ys s) long
    ∙ ap (λ (l : List ℕ). xs ++ l)
    (ap (λ (k : ℕ). drop k (fronted ys s)) more
    ∙ drop-append-add ys (drop (length ys) s) (length xs - length ys)
    ∙ drop-drop (length xs - length ys) (length ys) s
    ∙ ap (λ (k : ℕ). drop k s) (sym more))

-- a list at a place, a cell a turn
pub begins_at : (out : List ℕ) (at : ℕ) (list : List ℕ) → Writing out (at + 0) (drop 0 list) out at list
begins_at out at list = rw (add-zero at) (begun out at list)

pub turns_at : (out₀ : List ℕ) (at : ℕ) (list out : List ℕ) (i : ℕ) → Writing out (at + i) (drop i list) out₀ at list → i < length list
    → Writing (set out (at + i) (get_or list i 0)) (at + (i + 1)) (drop (i + 1) list) out₀ at list
turns_at out₀ at list out i w l =
    let e : at + (i + 1) ≡ at + i + 1 = omega arith in
    turned _ _ _ _ _ _ w (get_or list i 0 ∷ []) (drop (i + 1) list) (list_turn list i l) (at + (i + 1)) (set out (at + i) (get_or list i 0)) (e, refl)
