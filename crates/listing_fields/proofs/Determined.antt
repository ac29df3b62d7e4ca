-- No second result meets a contract of this crate. Assumes nothing.
use Prim.Native.Nat.{ℕ, ◌-◌, ◌≤◌}
use mathlib.Core.List.{List}
use Rattle.std.specs.Prelude.{Option, None, Some}
use mathlib.Core.Path.{◌≡◌, refl, sym, ap, ◌∙◌}
use native.Mathlib.Omega.{arith}
use lib.ListN.{length, drop, length-drop}
use Rattle.basics.specs.Promises.{FixesAnswer}
use Rattle.listing_fields.proofs.fields
use Rattle.listing_format.specs.Parsing.{Read}
use Rattle.listing_fields.specs.declared.Field.{Field}
use Rattle.listing_fields.specs.declared.Needed.{Needed}
use Rattle.listing_fields.specs.Places.{PlaceIs, FieldIs, NeededIs}

-- two places in a text from which the same is left
same_place : (bytes : List ℕ) (n m : ℕ) → n ≤ length bytes → m ≤ length bytes → drop n bytes ≡ drop m bytes → n ≡ m
same_place bytes n m a b e =
    let l : length bytes - n ≡ length bytes - m = sym (length-drop n bytes) ∙ ap length e ∙ length-drop m bytes in omega arith

module _ {A : Type 0} where
  -- what is read is not also unreadable
  not_both : {w : Option A} {x : A} → w ≡ Some x → w ≡ None → ⊥
  not_both p q = let e = sym p ∙ q in let z : ◌≡◌ {A = ℕ} 0 1 = cc in omega arith

  same_read : {w : Option A} {x y : A} → w ≡ Some x → w ≡ Some y → x ≡ y
  same_read p q = let e = sym p ∙ q in cc

module _ (bytes : List ℕ) where
  one_place : (w : Option (List ℕ)) (r s : Option ℕ) → PlaceIs bytes w r → PlaceIs bytes w s → r ≡ s
  one_place w (Some n) (Some m) p q = ap Some (same_place bytes n m p.0 q.0 (same_read p.1 q.1))
  one_place w (Some n) None p q = absurd (not_both p.1 q)
  one_place w None (Some m) p q = absurd (not_both q.1 p)
  one_place w None None p q = refl

  one_field : (read : Read (Option ℕ)) (r s : Option Field) → FieldIs bytes read r → FieldIs bytes read s → r ≡ s
  one_field read (Some f) (Some g) p q =
      let pair = same_read p.1 q.1 in
      let key : f.key ≡ g.key = ap (λ z. z.0) pair in
      let next : f.next ≡ g.next = same_place bytes f.next g.next p.0 q.0 (ap (λ z. z.1) pair) in
      ap Some (λ k. record { key = key k; next = next k })
  one_field read (Some f) None p q = absurd (not_both p.1 q)
  one_field read None (Some g) p q = absurd (not_both q.1 p)
  one_field read None None p q = refl

  one_needed : (read : Read ℕ) (r s : Option Needed) → NeededIs bytes read r → NeededIs bytes read s → r ≡ s
  one_needed read (Some f) (Some g) p q =
      let pair = same_read p.1 q.1 in
      let number : f.number ≡ g.number = ap (λ z. z.0) pair in
      let next : f.next ≡ g.next = same_place bytes f.next g.next p.0 q.0 (ap (λ z. z.1) pair) in
      ap Some (λ k. record { number = number k; next = next k })
  one_needed read (Some f) None p q = absurd (not_both p.1 q)
  one_needed read None (Some g) p q = absurd (not_both q.1 p)
  one_needed read None None p q = refl

pub after_line : FixesAnswer fields.after_line.Reads.Post
after_line κs a r s e f p q = one_place _ _ r s p q

pub read_field : FixesAnswer fields.read_field.Reads.Post
read_field κs a r s e f p q = one_field _ _ r s p q

pub read_last : FixesAnswer fields.read_last.Reads.Post
read_last κs a r s e f p q = one_field _ _ r s p q

pub read_needed : FixesAnswer fields.read_needed.Reads.Post
read_needed κs a r s e f p q = one_needed _ _ r s p q
