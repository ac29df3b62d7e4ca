-- The values that a shift gives, one a turn; whether none is empty; and the edits that come of them. Assumes nothing.
use Prim.Native.Nat.{ℕ, ◌+◌, ◌≤◌, ◌<◌}
use mathlib.Core.Path.{◌≡◌, refl, sym, ap, ◌∙◌}
use mathlib.Core.Bool.{Bool, true, false, not}
use mathlib.Core.List.{List, [], ◌∷◌, ◌++◌, map}
use native.Mathlib.Omega.{arith}
use lib.ListN.{length, get_or, take, drop, length-append, length-map}
use lib.Seq.{take_at}
use borrow.Author.Tests.{eq-eqb, ne_eqb, not-true, not-false}
use Rattle.basics.specs.Tests.{all, all_below}
use Rattle.basics.specs.Edits.{rows_of, edits}
use Rattle.basics.proofs.Below.{all-below}
use Rattle.basics.proofs.Loops.{all_more, turn_fails, turn_end}
use Rattle.basics.proofs.Maps.{get_d_map_lt}
use Rattle.rules.specs.Board.{empty}
use Rattle.rules.specs.Roster.{Roster}
use Rattle.outputs.specs.Outputs.{fronted, InFront}
use Rattle.rotation.specs.Rotation.{rotated, place_round}
use Rattle.rotation.proofs.Rotating.{length-rotated, rotated_turn, rotated_end, round_within}
use Rattle.changed_edits.specs.Changed.{changed}
use Rattle.rematch_shift.specs.Shift.{shifted_values, not_empty, shift_edits}

-- ---- none of the numbers is empty

abbrev pub passes : List ℕ → ℕ → Bool
passes xs j = not_empty (get_or xs j 0)

module _ (xs : List ℕ) (i : ℕ) where
  pub empty-found : i < length xs → get_or xs i 0 ≡ empty → false ≡ all not_empty xs
  empty-found l e = rw (all-below not_empty 0 xs) (turn_fails (length xs) i (passes xs) _ l refl (ap not (eq-eqb _ _ e)))

  pub one_more_lem : all_below i (passes xs) ≡ true → (get_or xs i 0 ≡ empty → ⊥) → all_below (i + 1) (passes xs) ≡ true
  one_more_lem a n = all_more i (passes xs) a (ap not (ne_eqb _ _ n))

  pub none_found : i ≤ length xs → length xs ≤ i → all_below i (passes xs) ≡ true → true ≡ all not_empty xs
  none_found a b e = rw (all-below not_empty 0 xs) (turn_end (length xs) i (passes xs) a b e)

module _ (h : Roster) (W : List ℕ) (d : ℕ) where
  abbrev values : List ℕ
  values = shifted_values h W d

  pub length_shifted : length values ≡ length W
  unfolding shifted_values
  length_shifted = length-rotated d (map h W) ∙ length-map W h

  -- ---- the values, one a turn

  module _ (i : ℕ) where
    pub shifted_turn : i < length W → drop i values ≡ (h (get_or W (place_round d i (length W)) 0) ∷ []) ++ drop (i + 1) values
    unfolding shifted_values
    shifted_turn l =
        rotated_turn d (map h W) i (rw (length-map W h) l)
        ∙ ap (λ (x : ℕ). (x ∷ []) ++ drop (i + 1) (rotated d (map h W)))
        (ap (λ (n : ℕ). get_or (map h W) (place_round d i n) 0) (length-map W h) ∙ get_d_map_lt h 0 0 W (place_round d i (length W)) (round_within d i (length W) l))

    pub shifted_end : length W ≤ i → drop i values ≡ []
    unfolding shifted_values
    shifted_end l = rotated_end d (map h W) i (rw (length-map W h) l)

  -- ---- the edits: C are the cells whose front has the values

  module _ (C₀ C : List ℕ) (e : C ≡ fronted values C₀) where
    abbrev front : List ℕ
    front = take (length W) C

    front-is : front ≡ values
    front-is = ap (take (length W)) e ∙ take_at values (drop (length values) C₀) (length W) length_shifted

    pub front-within : length W ≤ length C
    front-within = omega (arith, ap length e, length-append values (drop (length values) C₀), length_shifted)

    pub front_long : length W ≡ length front
    front_long = sym (ap length front-is ∙ length_shifted)

    module _ (b : Bool) (f : b ≡ all not_empty front) (rs vs : List ℕ) where
      told : b ≡ all not_empty values
      told = f ∙ ap (all not_empty) front-is

      pub ruled_out : not b ≡ true → InFront (shift_edits h W d) rs vs rs vs 0
      unfolding shift_edits rows_of
      ruled_out t = rw (← told, not-true b t) (record { number = refl; rows = refl; values = refl })

      pub allowed : not b ≡ false → (rs' vs' : List ℕ) (n : ℕ) → InFront (changed h (edits W front)) rs vs rs' vs' n → InFront (shift_edits h W d) rs vs rs' vs' n
      unfolding shift_edits
      allowed t rs' vs' n q = rw (← told, not-false b t) (rw front-is at q)
