-- Trying the candidates of one row, and putting back the rows of a window: what each turn of the loops leaves. Assumes nothing.
use Prim.Native.Nat.{ℕ, ◌+◌, ◌*◌, ◌≤◌, ◌<◌}
use mathlib.Core.Path.{◌≡◌, refl, sym, ap, ◌∙◌}
use mathlib.Core.Bool.{Bool, true, false, not}
use mathlib.Core.List.{List, [], ◌∷◌}
use Rattle.std.specs.Prelude.{Option, None, Some}
use native.Mathlib.Omega.{arith}
use lib.ListN.{length, get_or, set, drop, length-take}
use lib.Dec.{leb}
use lib.Seq.{set-set}
use borrow.Author.Tests.{not-true, not-false, leb-true, lt-ltb, le-ltb}
use Rattle.basics.specs.Edits.{edits}
use Rattle.basics.proofs.Bools.{by, clash, and_left}
use Rattle.basics.proofs.Below.{all_below_at}
use Rattle.rules.specs.Board.{Board, empty, limited}
use Rattle.rules.specs.Roster.{Roster}
use Rattle.rules.specs.Reinsertion.{reinserts}
use Rattle.rotation.specs.Rotation.{rotated, place_round}
use Rattle.rotation.proofs.Rotating.{rotated_turn, rotated_end, rotated_at, places_turn, places_end}
use Rattle.assignment_tables.specs.declared.Shape.{Shape}
use Rattle.assignment_tables.specs.Layout.{candidates_start}
use Rattle.assignment_tables.specs.Tables.{count_at, candidates_at}
use Rattle.assignment_tables.specs.Refusal.{candidates_fit, all_candidates_fit}
use Rattle.ejection_turns.specs.Ejection.{first_that, is_there, or_empty, allowed_at, taken, stuck, Turned, turned, put_back, places_from}

-- ---- the candidates that are offered are few

module _ (S : Shape) (m : List ℕ) (fit : all_candidates_fit S m ≡ true) (r : ℕ) where
  counted : r < S.rows → count_at S m r ≤ 64
  unfolding all_candidates_fit candidates_fit
  counted l = leb-true _ _ (and_left (leb (count_at S m r) 64) _ (all_below_at (candidates_fit S m) S.rows fit r l))

  few_candidates : length (candidates_at S m r) ≤ 64
  unfolding candidates_at
  few_candidates =
      by r S.rows
      (λ l. rw (lt-ltb r S.rows l) (omega (arith, counted l, length-take (count_at S m r) (drop (candidates_start S + r * 64) m))))
      (λ l. rw (le-ltb r S.rows l) (omega arith))

  pub few_offered : (limit : Option ℕ) (xs : List ℕ) → xs ≡ limited limit (candidates_at S m r) → length xs ≤ 128
  unfolding limited
  few_offered None xs e = omega (arith, ap length e, few_candidates)
  few_offered (Some n) xs e = omega (arith, ap length e, few_candidates, length-take n (candidates_at S m r))

-- ---- the first that passes

pub first_none : (p : ℕ → Bool) → first_that p [] ≡ None
unfolding first_that
first_none p = refl

module _ (p : ℕ → Bool) (x : ℕ) (xs : List ℕ) where
  pub first-yes : p x ≡ true → first_that p (x ∷ xs) ≡ Some x
  unfolding first_that
  first-yes t = rw t

  pub first_no : p x ≡ false → first_that p (x ∷ xs) ≡ first_that p xs
  unfolding first_that
  first_no f = rw f

-- ---- one row: candidates c are tried from the j-th on, and only what stands at its position has changed

module _ (B : Board) (h : Roster) (attempt : ℕ) (window values : List ℕ) (i : ℕ) (c : List ℕ) where
  abbrev allowed : ℕ → Bool
  allowed = allowed_at B h window values i

  pub record Trying (now : List ℕ) (j : ℕ) : Type 0 where
    pub only_there : (y : ℕ) → set now i y ≡ set values i y
    pub left : first_that allowed (drop j (rotated attempt c)) ≡ first_that allowed (rotated attempt c)

  pub trying_begun : Trying values 0
  trying_begun = record { only_there = λ y. refl; left = refl }

  module _ (now : List ℕ) (j : ℕ) (w : Trying now j) where
    same_test : (v : ℕ) → allowed_at B h window now i v ≡ allowed v
    unfolding allowed_at
    same_test v = ap (λ (l : List ℕ). reinserts B h (edits window l) (get_or window i 0) v) (w.only_there v)

    module _ (l : j < length c) (v : ℕ) (e : v ≡ get_or (rotated attempt c) j 0) (b : Bool) (f : b ≡ allowed_at B h window now i v) where
      split : first_that allowed (v ∷ drop (j + 1) (rotated attempt c)) ≡ first_that allowed (rotated attempt c)
      split =
          ap (λ (x : ℕ). first_that allowed (x ∷ drop (j + 1) (rotated attempt c))) (e ∙ rotated_at attempt c 0 j l)
          ∙ ap (first_that allowed) (sym (rotated_turn attempt c j l))
          ∙ w.left

      pub trying_on : (next : List ℕ) → next ≡ set now i v → b ≡ false → Trying next (j + 1)
      trying_on next g n = record {
        only_there = λ y. ap (λ (u : List ℕ). set u i y) g ∙ set-set now i v y ∙ w.only_there y;
        left = sym (first_no allowed v _ (sym (same_test v) ∙ sym f ∙ n)) ∙ split;
      }

      found : b ≡ true → first_that allowed (rotated attempt c) ≡ Some v
      found t = sym split ∙ first-yes allowed v _ (sym (same_test v) ∙ sym f ∙ t)

      module _ (limit : Option ℕ) (k : c ≡ limited limit (B.candidates (get_or window i 0))) (t : b ≡ true) where
        is-taken : taken B h limit attempt window values i ≡ Some v
        unfolding taken
        is-taken = rw (← k) (found t)

        pub found_there : true ≡ is_there (taken B h limit attempt window values i)
        found_there = rw is-taken

        pub found_left : (next : List ℕ) → next ≡ set now i v → next ≡ set values i (or_empty (taken B h limit attempt window values i))
        found_left next g = rw is-taken (g ∙ w.only_there v)

    module _ (l : length c ≤ j) (limit : Option ℕ) (k : c ≡ limited limit (B.candidates (get_or window i 0))) where
      none_taken : taken B h limit attempt window values i ≡ None
      unfolding taken first_that
      none_taken = rw (← k) (sym w.left ∙ ap (first_that allowed) (rotated_end attempt c j l))

      pub none_there : false ≡ is_there (taken B h limit attempt window values i)
      none_there = rw none_taken

      pub none_left : set now i empty ≡ set values i (or_empty (taken B h limit attempt window values i))
      none_left = rw none_taken (w.only_there empty)

-- ---- whether that may stand

module _ (B : Board) (window : List ℕ) (i : ℕ) where
  pub none_stuck : B.required (get_or window i 0) ≡ stuck B window i None
  unfolding stuck
  none_stuck = refl

  some_free : (v : ℕ) → false ≡ stuck B window i (Some v)
  unfolding stuck
  some_free v = refl

  pub taken-stands : (o : Option ℕ) (b : Bool) → b ≡ is_there o → b ≡ true → true ≡ not (stuck B window i o)
  taken-stands None b e t = absurd (clash (sym e ∙ t) refl)
  taken-stands (Some v) b e t = ap not (some_free v)

  pub empty_stands : (o : Option ℕ) (b : Bool) → b ≡ is_there o → b ≡ false → (q : Bool) → q ≡ B.required (get_or window i 0)
      → not q ≡ not (stuck B window i o)
  empty_stands None b e f q g = ap not (g ∙ none_stuck)
  empty_stands (Some v) b e f q g = absurd (clash refl (sym e ∙ f))

-- ---- all rows: putting back those at the positions from the i-th on comes to putting back all

module _ (B : Board) (h : Roster) (limit : Option ℕ) (attempt : ℕ) (window : List ℕ) where
  abbrev back : List ℕ → List ℕ → Turned
  back = put_back B h limit attempt window

  abbrev P : List ℕ
  P = places_from attempt window

  module _ (k : ℕ) (is now : List ℕ) where
    pub put-stuck : stuck B window k (taken B h limit attempt window now k) ≡ true → back (k ∷ is) now ≡ turned false (set now k (or_empty (taken B h limit attempt window now k)))
    unfolding put_back
    put-stuck t = rw t

    pub put_next : stuck B window k (taken B h limit attempt window now k) ≡ false
        → back (k ∷ is) now ≡ back is (set now k (or_empty (taken B h limit attempt window now k)))
    unfolding put_back
    put_next f = rw f

  pub put_end : (now : List ℕ) → back [] now ≡ turned true now
  unfolding put_back
  put_end now = refl

  module _ (values now : List ℕ) (i : ℕ) (w : back (drop i P) now ≡ back P values) where
    module _ (l : i < length window) (k : ℕ) (e : k ≡ place_round attempt i (length window)) (b : Bool) (f : b ≡ not (stuck B window k (taken B h limit attempt window now k))) where
      here : back (k ∷ drop (i + 1) P) now ≡ back P values
      here =
          ap (λ (x : ℕ). back (x ∷ drop (i + 1) P) now) e
          ∙ ap (λ (is : List ℕ). back is now) (sym (places_turn attempt (length window) i l))
          ∙ w

      module _ (next : List ℕ) (g : next ≡ set now k (or_empty (taken B h limit attempt window now k))) where
        pub all-stuck : not b ≡ true → turned false next ≡ back P values
        all-stuck t =
            ap (turned false) g
            ∙ sym (put-stuck k (drop (i + 1) P) now (not-false _ (sym f ∙ not-true b t)))
            ∙ here

        pub all_on : not b ≡ false → back (drop (i + 1) P) next ≡ back P values
        all_on t =
            ap (back (drop (i + 1) P)) g
            ∙ sym (put_next k (drop (i + 1) P) now (not-true _ (sym f ∙ not-false b t)))
            ∙ here

    pub all_back : length window ≤ i → turned true now ≡ back P values
    all_back l = sym (put_end now) ∙ ap (λ (is : List ℕ). back is now) (sym (places_end attempt (length window) i l)) ∙ w
