-- What is read at a place is what is read of the bytes from there on. Assumes nothing.
use Prim.Native.Nat.{ℕ, ◌+◌, ◌-◌, ◌≤◌, ◌<◌}
use mathlib.Core.Path.{◌≡◌, refl, sym, ap, ap₂, subst, ◌∙◌}
use mathlib.Core.List.{List, [], ◌∷◌}
use Rattle.std.specs.Prelude.{Option, None, Some}
use native.Mathlib.Numerals.{add-one}
use native.Mathlib.Omega.{arith}
use lib.Dec.{eqb}
use lib.ListN.{length, get_or, take, drop, length-drop, drop_of_length-le}
use lib.Seq.{drop-cons, drop-drop, length-take-le}
use borrow.Author.Tests.{eq-eqb, ne_eqb}
use Rattle.std.proofs.lemmas.Option.{MatchOption-at_none, MatchOption-at_some}
use Rattle.basics.proofs.Bools.{and_false}
use Rattle.decimals.specs.Decimals.{Reads}
use Rattle.decimals.specs.Reading.{decimal}
use Rattle.decimals.specs.Fields.{front}
use Rattle.decimals.proofs.ReadingLaws.{decimal-reads}
use Rattle.decimals.proofs.FieldLaws.{front-taken, front_short}
use Rattle.listing_format.specs.Parsing.{Read, content, after_comma, after_line, both, field_of, last_of, given, needed}
use Rattle.listing_format.proofs.LineReading.{then_some, then_none}
use Rattle.listing_fields.specs.declared.Field.{Field}
use Rattle.listing_fields.specs.Places.{PlaceIs, FieldIs}

-- ---- what closes a field

module _ (bytes : List ℕ) (end : ℕ) where
  rest_one : end < length bytes → drop end bytes ≡ get_or bytes end 0 ∷ drop (end + 1) bytes
  rest_one l = drop-cons bytes end 0 l ∙ ap (λ (k : ℕ). get_or bytes end 0 ∷ drop k bytes) (sym (add-one end))

  past_end : length bytes ≤ end → drop end bytes ≡ []
  past_end h = drop_of_length-le bytes h

  pub comma_missing : end ≡ length bytes → after_comma (drop end bytes) ≡ None
  unfolding after_comma
  comma_missing e = ap after_comma (past_end (omega arith))

  pub comma-other : end < length bytes → (get_or bytes end 0 ≡ 44 → ⊥) → after_comma (drop end bytes) ≡ None
  unfolding after_comma
  comma-other l f = rw (rest_one l, ne_eqb (get_or bytes end 0) 44 f)

  pub comma-here : end < length bytes → get_or bytes end 0 ≡ 44 → after_comma (drop end bytes) ≡ Some (drop (end + 1) bytes)
  unfolding after_comma
  comma-here l e = rw (rest_one l, eq-eqb (get_or bytes end 0) 44 e)

  pub line_missing : end ≡ length bytes → after_line (drop end bytes) ≡ Some (drop end bytes)
  unfolding after_line
  line_missing e = rw (past_end (omega arith))

  pub line_half : end < length bytes → length bytes - end < 2 → after_line (drop end bytes) ≡ None
  unfolding after_line
  line_half l h = let past : length bytes ≤ end + 1 = omega arith in rw (rest_one l, drop_of_length-le bytes past)

module _ (bytes : List ℕ) (end : ℕ) (l : end + 2 ≤ length bytes) where
  rest_two : drop end bytes ≡ get_or bytes end 0 ∷ get_or bytes (end + 1) 0 ∷ drop (end + 2) bytes
  rest_two =
      let e : end + 1 + 1 ≡ end + 2 = omega arith in
      rest_one bytes end (omega arith) ∙ ap (λ (t : List ℕ). get_or bytes end 0 ∷ t) (rest_one bytes (end + 1) (omega arith) ∙ rw e)

  pub line_no_return : (get_or bytes end 0 ≡ 13 → ⊥) → after_line (drop end bytes) ≡ None
  unfolding after_line
  line_no_return f = rw (rest_two, ne_eqb (get_or bytes end 0) 13 f)

  pub line_no_feed : (get_or bytes (end + 1) 0 ≡ 10 → ⊥) → after_line (drop end bytes) ≡ None
  unfolding after_line
  line_no_feed f = rw (rest_two, ne_eqb (get_or bytes (end + 1) 0) 10 f, and_false (eqb (get_or bytes end 0) 13))

  pub line_here : get_or bytes end 0 ≡ 13 → get_or bytes (end + 1) 0 ≡ 10 → after_line (drop end bytes) ≡ Some (drop (end + 2) bytes)
  unfolding after_line
  line_here e f = rw (rest_two, eq-eqb (get_or bytes end 0) 13 e, eq-eqb (get_or bytes (end + 1) 0) 10 f)

-- ---- what stands in it

module _ (left : List ℕ) where
  pub content-blank : (l : List ℕ) → length l ≡ 0 → both (content l) (Some left) ≡ Some (None, left)
  unfolding both content
  content-blank [] h = refl
  content-blank (b ∷ l) h = absurd (omega arith)

  pub content_number : (l : List ℕ) (r : Option ℕ) (n : ℕ) → (length l ≡ 0 → ⊥) → Reads l r → r ≡ Some n → both (content l) (Some left) ≡ Some (Some n, left)
  unfolding both content
  content_number [] r n h p e = absurd (h refl)
  content_number (b ∷ l) r n h p e = let d : decimal (b ∷ l) ≡ Some n = sym (decimal-reads (b ∷ l) r p) ∙ e in rw d

  pub content_neither : (l : List ℕ) (r : Option ℕ) → (length l ≡ 0 → ⊥) → Reads l r → r ≡ None → both (content l) (Some left) ≡ None
  unfolding both content
  content_neither [] r h p e = absurd (h refl)
  content_neither (b ∷ l) r h p e = let d : decimal (b ∷ l) ≡ None = sym (decimal-reads (b ∷ l) r p) ∙ e in rw d

module _ (bytes : List ℕ) (at end : ℕ) where
  pub between : at ≤ end → end ≤ length bytes → length (take (end - at) (drop at bytes)) ≡ end - at
  between a b = length-take-le (end - at) (drop at bytes) (simp length-drop (omega arith))

-- ---- a field

both_none : (x : Option (Option ℕ)) → both x None ≡ None
unfolding both
both_none None = refl
both_none (Some o) = refl

module _ (bytes : List ℕ) (at end : ℕ) (e : end ≡ at + length (front (drop at bytes))) where
  field_front : take (end - at) (drop at bytes) ≡ front (drop at bytes)
  field_front = let n : end - at ≡ length (front (drop at bytes)) = omega arith in ap (λ (k : ℕ). take k (drop at bytes)) n ∙ front-taken (drop at bytes)

  field_behind : drop end bytes ≡ drop (length (front (drop at bytes))) (drop at bytes)
  field_behind = rw e (sym (drop-drop (length (front (drop at bytes))) at bytes))

  pub field_within : at ≤ length bytes → (at ≤ end) × (end ≤ length bytes)
  field_within h = (omega arith, omega (arith, front_short (drop at bytes), length-drop at bytes))

  pub field_parts : field_of (drop at bytes) ≡ both (content (take (end - at) (drop at bytes))) (after_comma (drop end bytes))
  unfolding field_of
  field_parts = ap₂ (λ (f : List ℕ) (b : List ℕ). both (content f) (after_comma b)) (sym field_front) (sym field_behind)

  pub last_parts : last_of (drop at bytes) ≡ both (content (take (end - at) (drop at bytes))) (after_line (drop end bytes))
  unfolding last_of
  last_parts = ap₂ (λ (f : List ℕ) (b : List ℕ). both (content f) (after_line b)) (sym field_front) (sym field_behind)

-- what is read of a field whose end is told, w being what closes it
module _ (bytes : List ℕ) (read : Read (Option ℕ)) (x : Option (Option ℕ)) (w : Option (List ℕ)) (e : read ≡ both x w) where
  pub unclosed : (p : Option ℕ) → PlaceIs bytes w p → p ≡ None → read ≡ None
  unclosed p h m = let n : w ≡ None = MatchOption-at_none _ _ m h in e ∙ ap (both x) n ∙ both_none x

  pub closed : (p : Option ℕ) (next : ℕ) → PlaceIs bytes w p → p ≡ Some next → (r : Option Field) → FieldIs bytes (both x (Some (drop next bytes))) r → FieldIs bytes read r
  closed p next h m r f =
      let n : w ≡ Some (drop next bytes) = (MatchOption-at_some _ _ next m h).1 in
      subst (λ (y : Read (Option ℕ)). FieldIs bytes y r) (ap (both x) (sym n) ∙ sym e) f

pub place-within : (bytes : List ℕ) (w : Option (List ℕ)) (p : Option ℕ) (next : ℕ) → PlaceIs bytes w p → p ≡ Some next → next ≤ length bytes
place-within bytes w p next h m = (MatchOption-at_some _ _ next m h).0

-- ---- a field that may not be blank

pub needed_none : (l : List ℕ) → field_of l ≡ None → needed l ≡ None
unfolding needed
needed_none l e = then_none (field_of l) given e

module _ (l left : List ℕ) (k : Option ℕ) (e : field_of l ≡ Some (k, left)) where
  pub needed-blank : k ≡ None → needed l ≡ None
  unfolding needed given
  needed-blank a = then_some (field_of l) given k left e ∙ ap (λ (o : Option ℕ). given o left) a

  pub needed_number : (n : ℕ) → k ≡ Some n → needed l ≡ Some (n, left)
  unfolding needed given
  needed_number n a = then_some (field_of l) given k left e ∙ ap (λ (o : Option ℕ). given o left) a
