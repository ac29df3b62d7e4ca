-- What is remembered at first, and once one more pair is. Assumes nothing.
use Prim.Native.Nat.{ℕ, ◌%◌, ◌<◌}
use mathlib.Core.Path.{◌≡◌, ap, ◌∙◌}
use mathlib.Core.Bool.{false, ◌&&◌, ◌||◌}
use mathlib.Core.List.{List}
use native.Mathlib.Omega.{arith}
use lib.Dec.{eqb}
use lib.ListN.{length, get_or, length-replicate, length-set}
use lib.Seq.{get_or-set_same, get_or-set_other}
use borrow.Author.Tests.{eqb-true, eqb-false, eq-eqb, ne_eqb}
use Rattle.basics.proofs.Bools.{either, same_test}
use Rattle.basics.proofs.Maps.{get_d_replicate_any}
use Rattle.word_bits.specs.Bits.{bit_at}
use Rattle.judged_pairs.specs.Judged.{word_of, is_judged, none_judged, judged_with}
use Rattle.word_bits.proofs.Bits.{no_bits, bit-set}

pub none_length : length none_judged ≡ 256
unfolding none_judged
none_length = length-replicate {A = ℕ} 256 0

pub none_judged_lem : (l r : ℕ) → is_judged none_judged l r ≡ false
unfolding is_judged none_judged
none_judged_lem l r = ap (λ (w : ℕ). bit_at w (r % 64)) (get_d_replicate_any 256 (word_of l r) 0) ∙ no_bits (r % 64)

pub judged_with_length : (J : List ℕ) (l r : ℕ) → length (judged_with J l r) ≡ length J
unfolding judged_with
judged_with_length J l r = simp length-set

-- in one word two pairs are told apart by their bits
same_word : (l r l' r' : ℕ) → r < 128 → r' < 128 → word_of l' r' ≡ word_of l r → eqb l' l && eqb r' r ≡ eqb (r' % 64) (r % 64)
same_word l r l' r' h h' e =
    let row : l' ≡ l = omega arith in
    rw (eq-eqb l' l row)
    (same_test (eqb r' r) (eqb (r' % 64) (r % 64))
    (λ t. let q = eqb-true r' r t in eq-eqb (r' % 64) (r % 64) (omega arith))
    (λ t. let q = eqb-true (r' % 64) (r % 64) t in eq-eqb r' r (omega arith)))

-- a pair of another word is another pair
other_word : (l r l' r' : ℕ) → (word_of l' r' ≡ word_of l r → ⊥) → eqb l' l && eqb r' r ≡ false
other_word l r l' r' n =
    either (eqb l' l) (λ t. let p = eqb-true l' l t in rw t (ne_eqb r' r (λ q. n (omega arith)))) (λ t. rw t)

-- the pair is remembered then, and those that were
pub judged_with_lem : (J : List ℕ) (l r l' r' : ℕ) → length J ≡ 256 → l < 128 → r < 128 → r' < 128 → is_judged J l r ≡ false
    → is_judged (judged_with J l r) l' r' ≡ (eqb l' l && eqb r' r) || is_judged J l' r'
unfolding is_judged judged_with
judged_with_lem J l r l' r' n hl hr hr' f =
    either (eqb (word_of l' r') (word_of l r))
    (λ t. let e = eqb-true (word_of l' r') (word_of l r) t in
    rw (same_word l r l' r' hr hr' e, e, get_or-set_same J (word_of l r) _ 0 (omega arith)) (bit-set (r % 64) (get_or J (word_of l r) 0) (r' % 64) f))
    (λ t. let e = eqb-false (word_of l' r') (word_of l r) t in
    rw (other_word l r l' r' e, get_or-set_other J (word_of l r) (word_of l' r') _ 0 e))
