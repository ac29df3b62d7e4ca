-- What the rows of a window have once all are put back: each has one of the candidates that it is offered, or it is empty and not required; and what
-- the list keeps of them. Assumes nothing.
use Prim.Native.Nat.{ℕ, ◌<◌}
use mathlib.Core.Path.{◌≡◌, refl, sym, ap, subst, ◌∙◌}
use mathlib.Core.Logic.{◌⊎◌, inl, inr, ⊎_elim}
use mathlib.Core.Bool.{Bool, true, false}
use mathlib.Core.List.Memᴰ.{cases_cons}
use mathlib.Core.List.Memᴰ.{head as here}
use mathlib.Core.List.Memᴰ.{not-nil}
use mathlib.Core.List.Memᴰ.{tail as there}
use mathlib.Core.List.{List, [], ◌∷◌}
use Rattle.std.specs.Prelude.{Option, None, Some}
use Rattle.std.proofs.lemmas.Option.{none-some, same_Some}
use native.Mathlib.Omega.{arith}
use lib.ListN.{length, get_or, set, replicate, length-set, length-replicate}
use lib.Seq.{get_or-set_same, get_or-set_other}
use Rattle.basics.specs.Tests.{among, list_below}
use Rattle.basics.specs.Edits.{Edit, edits, edit_at}
use Rattle.basics.proofs.Bools.{either, clash}
use Rattle.basics.proofs.Lists.{◌∈◌, at_place, place_of, among_at, among_not}
use Rattle.basics.proofs.Below.{list_below-length, list_below_at}
use Rattle.basics.proofs.Edits.{length-edits, get_d_edits}
use Rattle.basics.proofs.Reordered.{back, member_reordered}
use Rattle.rules.specs.Board.{Board, empty, limited}
use Rattle.rules.specs.Roster.{Roster}
use Rattle.rotation.specs.Rotation.{rotated}
use Rattle.rotation.proofs.Rotating.{rotated_reordered, places_end}
use Rattle.changed_edits.specs.Changed.{changed}
use Rattle.changed_edits.proofs.ChangedLaws.{changed-from}
use Rattle.ejection_turns.specs.Ejection.{first_that, or_empty, allowed_at, taken, stuck, Turned, turned, put_back, places_from, list_from, ejection}
use Rattle.ejection_turns.proofs.TurnLaws.{first_none, first-yes, first_no, none_stuck, put-stuck, put_next, put_end}

-- the first that passes is one of them
first-among : (p : ℕ → Bool) (xs : List ℕ) (v : ℕ) → first_that p xs ≡ Some v → v ∈ xs
first-among p [] v e = absurd (none-some v (sym (first_none p) ∙ e))
first-among p (x ∷ xs) v e =
    either (p x)
    (λ t. here (sym (same_Some x v (sym (first-yes p x xs t) ∙ e))))
    (λ f. there (first-among p xs v (sym (first_no p x xs f) ∙ e)))

module _ (B : Board) (h : Roster) (limit : Option ℕ) (attempt : ℕ) (window : List ℕ) where
  abbrev offered : ℕ → List ℕ
  offered i = limited limit (B.candidates (get_or window i 0))

  -- 9.2, 9.3: a candidate that the row at position i is offered; or nothing, and it is not required
  abbrev pub Rightful : ℕ → ℕ → Type 0
  Rightful i v = (v ∈ offered i) ⊎ ((v ≡ empty) × (B.required (get_or window i 0) ≡ false))

  abbrev back_from : List ℕ → List ℕ → Turned
  back_from = put_back B h limit attempt window

  abbrev takes : List ℕ → ℕ → Option ℕ
  takes = taken B h limit attempt window

  taken_rightful : (values : List ℕ) (i : ℕ) (o : Option ℕ) → takes values i ≡ o → stuck B window i o ≡ false → Rightful i (or_empty o)
  unfolding taken
  taken_rightful values i None e f = inr (refl, none_stuck B window i ∙ f)
  taken_rightful values i (Some v) e f =
      inl (member_reordered (back (rotated_reordered attempt (offered i))) (first-among (allowed_at B h window values i) (rotated attempt (offered i)) v e))

  step : (k : ℕ) (is values after : List ℕ) → back_from (k ∷ is) values ≡ turned true after
      → (stuck B window k (takes values k) ≡ false) × (back_from is (set values k (or_empty (takes values k))) ≡ turned true after)
  step k is values after e =
      either (stuck B window k (takes values k))
      (λ t. absurd (clash refl (ap (λ (x : Turned). x.stands) (sym e ∙ put-stuck B h limit attempt window k is values t))))
      (λ f. (f, sym (put_next B h limit attempt window k is values f) ∙ e))

  -- what stands elsewhere stays
  keeps : (is values after : List ℕ) → back_from is values ≡ turned true after → (i : ℕ) → (i ∈ is → ⊥) → get_or after i 0 ≡ get_or values i 0
  keeps [] values after e i n =
      ap (λ (l : List ℕ). get_or l i 0) (ap (λ (x : Turned). x.values) (sym e ∙ put_end B h limit attempt window values))
  keeps (k ∷ is) values after e i n =
      keeps is (set values k (or_empty (takes values k))) after (step k is values after e).1 i (λ m. n (there m))
      ∙ get_or-set_other values k i (or_empty (takes values k)) 0 (λ q. n (here q))

  entries : (is values after : List ℕ) → back_from is values ≡ turned true after → (i : ℕ) → i ∈ is → i < length values → Rightful i (get_or after i 0)
  entries [] values after e i m l = absurd (not-nil m)
  entries (k ∷ is) values after e i m l =
      let s = step k is values after e in
      let v = or_empty (takes values k) in
      either (among i is)
      (λ t. entries is (set values k v) after s.1 i (among_at i is t) (rw (length-set values k v) l))
      (λ f.
      let out = (among_not i is).0 f in
      let q : i ≡ k = ⊎_elim (λ r. r) (λ r. absurd (out r)) (cases_cons m) in
      let kept : get_or after i 0 ≡ v = keeps is (set values k v) after s.1 i out ∙ ap (λ (j : ℕ). get_or (set values k v) j 0) q ∙ get_or-set_same values k v 0 (rw (← q) l) in
      rw (kept, q) (taken_rightful values k (takes values k) refl s.0))

  -- every position of the window
  pub all_rightful : (values after : List ℕ) → length values ≡ length window → back_from (places_from attempt window) values ≡ turned true after
      → (i : ℕ) → i < length window → Rightful i (get_or after i 0)
  all_rightful values after e f i l =
      let places = list_below (length window) (λ (j : ℕ). j) in
      let there-it-is : i ∈ places = subst (λ (x : ℕ). x ∈ places) (list_below_at (length window) (λ (j : ℕ). j) i 0 l) (at_place 0 places i (rw (list_below-length (length window) (λ (j : ℕ). j)) l)) in
      entries (places_from attempt window) values after f i (member_reordered (rotated_reordered attempt places) there-it-is) (rw e l)

-- ---- the list that is given

given-stands : (h : Roster) (window : List ℕ) (t : Turned) (L : List Edit) → list_from h window t ≡ Some L
    → (t ≡ turned true t.values) × (changed h (edits window t.values) ≡ L)
given-stands h window t L e =
    either t.stands
    (λ y. (ap (λ (b : Bool). turned b t.values) y, same_Some _ L (sym (ap (λ (b : Bool). list_from h window (turned b t.values)) y) ∙ e)))
    (λ n. absurd (none-some L (sym (ap (λ (b : Bool). list_from h window (turned b t.values)) n) ∙ e)))

module _ (B : Board) (h : Roster) (limit : Option ℕ) (attempt : ℕ) (window : List ℕ) where
  long : (is values after : List ℕ) → put_back B h limit attempt window is values ≡ turned true after → length after ≡ length values
  long [] values after e = ap length (ap (λ (x : Turned). x.values) (sym e ∙ put_end B h limit attempt window values))
  long (k ∷ is) values after e =
      let v = or_empty (taken B h limit attempt window values k) in
      long is (set values k v) after (step B h limit attempt window k is values after e).1 ∙ length-set values k v

  -- 9.3: each edit is that of a position of the window; its value is the row's by right, and another than it holds
  pub listed : (L : List Edit) → ejection B h limit attempt window ≡ Some L → (e : Edit) → e ∈ L
      → (i : ℕ) × (i < length window) × (e.row ≡ get_or window i 0) × Rightful B h limit attempt window i e.value × (e.value ≡ h e.row → ⊥)
  unfolding ejection
  listed L f e m =
      let start = replicate (length window) empty in
      let t = put_back B h limit attempt window (places_from attempt window) start in
      let (q, g) = given-stands h window t L f in
      let after = t.values in
      let many : length after ≡ length window = long (places_from attempt window) start after q ∙ length-replicate (length window) empty in
      let r = changed-from h (edits window after) e (subst (λ (l : List Edit). e ∈ l) (sym g) m) in
      let (i, l, s) = place_of e r.0 in
      let below : i < length window = subst (λ (k : ℕ). i < k) (length-edits window after (sym many)) l in
      let is : edit_at window after i ≡ e = sym (get_d_edits window after i e (sym many) below) ∙ s in
      (i, below, sym (ap (λ (x : Edit). x.row) is), subst (Rightful B h limit attempt window i) (ap (λ (x : Edit). x.value) is) (all_rightful B h limit attempt window start after (length-replicate (length window) empty) q i below), r.1)

-- 9.3: an empty window gives an empty list
pub empty_window : (B : Board) (h : Roster) (limit : Option ℕ) (attempt : ℕ) → ejection B h limit attempt [] ≡ Some []
unfolding ejection put_back changed edits
empty_window B h limit attempt = ap (λ (is : List ℕ). list_from h [] (put_back B h limit attempt [] is [])) (places_end attempt 0 0 (omega arith))
