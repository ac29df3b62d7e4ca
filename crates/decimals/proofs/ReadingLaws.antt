-- Reading digit by digit gives back the number of a decimal form, and takes nothing else. Assumes nothing.
use Prim.Native.Nat.{ℕ, suc, ◌+◌, ◌*◌, ◌/◌, ◌^◌, ◌-◌, ◌≤◌, ◌<◌}
use mathlib.Core.Path.{◌≡◌, refl, sym, ap, ap₂, ◌∙◌}
use mathlib.Core.List.{List, [], ◌∷◌, ◌++◌, append-nil}
use native.Mathlib.Numerals.{add-one}
use native.Mathlib.Omega.{arith}
use lib.Dec.{eqb}
use lib.ListN.{length, get_or, drop, drop_of_length-le}
use lib.Seq.{append_snoc, drop-cons}
use borrow.Author.Tests.{le-leb, lt-leb, eqb-true, eqb-false, eq-eqb, ne_eqb}
use Rattle.basics.proofs.Bools.{by, either}
use Rattle.std.specs.Prelude.{Option, None, Some}
use Rattle.decimals.specs.Decimals.{last_digit, digits, Reads}
use Rattle.decimals.specs.Reading.{digit, read_on, zero_then, decimal}
use Rattle.decimals.proofs.DigitLaws.{digits_one, digits_more, digit_by_digit, first-digit, digits-behind}

-- ---- one digit

pub digit-taken : (v b : ℕ) → 48 ≤ b → b ≤ 57 → v * 10 + (b - 48) < 2 ^ 64 → digit v b ≡ Some (v * 10 + (b - 48))
unfolding digit
digit-taken v b l h s = rw (le-leb 48 b l, le-leb b 57 h, le-leb (v * 10 + (b - 48)) 18446744073709551615 (omega arith))

pub digit_under : (v b : ℕ) → b < 48 → digit v b ≡ None
unfolding digit
digit_under v b l = rw (lt-leb 48 b l)

pub digit-over : (v b : ℕ) → 57 < b → digit v b ≡ None
unfolding digit
digit-over v b l = by b 48 (λ h. absurd (omega arith)) (λ h. rw (le-leb 48 b h, lt-leb b 57 l))

pub digit_too_large : (v b : ℕ) → 48 ≤ b → b ≤ 57 → 2 ^ 64 ≤ v * 10 + (b - 48) → digit v b ≡ None
unfolding digit
digit_too_large v b l h s = rw (le-leb 48 b l, le-leb b 57 h, lt-leb (v * 10 + (b - 48)) 18446744073709551615 (omega arith))

-- what a digit that was taken says
pub record Taken (v b w : ℕ) : Type 0 where
  pub low : 48 ≤ b
  pub high : b ≤ 57
  pub sum : w ≡ v * 10 + (b - 48)
  pub small : w < 2 ^ 64

pub taken : (v b w : ℕ) → digit v b ≡ Some w → Taken v b w
taken v b w e =
    by b 48
    (λ l. absurd (never (sym (digit_under v b l) ∙ e)))
    (λ l. by 57 b
    (λ h. absurd (never (sym (digit-over v b h) ∙ e)))
    (λ h. by (v * 10 + (b - 48)) (2 ^ 64)
    (λ s. let q : Some (v * 10 + (b - 48)) ≡ Some w = sym (digit-taken v b l h s) ∙ e in let p : w ≡ v * 10 + (b - 48) = cc in record { low = l; high = h; sum = p; small = omega arith })
    (λ s. absurd (never (sym (digit_too_large v b l h s) ∙ e)))))
  where
    never : {n : ℕ} → None ≡ Some n → ⊥
    never q = let z : ◌≡◌ {A = ℕ} 0 1 = cc in omega arith

-- ---- digit after digit

pub read_more : (v b w : ℕ) (l : List ℕ) → digit v b ≡ Some w → read_on v (b ∷ l) ≡ read_on w l
unfolding read_on
read_more v b w l e = rw e

pub read_fails : (v b : ℕ) (l : List ℕ) → digit v b ≡ None → read_on v (b ∷ l) ≡ None
unfolding read_on
read_fails v b l e = rw e

pub read_end : (v : ℕ) → read_on v [] ≡ Some v
unfolding read_on
read_end v = refl

-- a proof by whether a digit is taken
by_digit : {P : Type 0} (v b : ℕ) → ((w : ℕ) → digit v b ≡ Some w → P) → (digit v b ≡ None → P) → P
by_digit {P} v b f g = cases (digit v b) refl
  where
    cases : (d : Option ℕ) → digit v b ≡ d → P
    cases (Some w) e = f w e
    cases None e = g e

read_first : (v b n : ℕ) (l : List ℕ) → read_on v (b ∷ l) ≡ Some n → (w : ℕ) × (digit v b ≡ Some w) × (read_on w l ≡ Some n)
read_first v b n l h =
    by_digit v b
    (λ w e. (w, e, sym (read_more v b w l e) ∙ h))
    (λ e. let q : None ≡ Some n = sym (read_fails v b l e) ∙ h in let z : ◌≡◌ {A = ℕ} 0 1 = cc in absurd (omega arith))

read_append : (v w : ℕ) (xs ys : List ℕ) → read_on v xs ≡ Some w → read_on v (xs ++ ys) ≡ read_on w ys
read_append v w [] ys h = let q : Some v ≡ Some w = sym (read_end v) ∙ h in let e : v ≡ w = cc in ap (λ (u : ℕ). read_on u ys) e
read_append v w (x ∷ xs) ys h = let (u, d, rest) = read_first v x w xs h in read_more v x u (xs ++ ys) d ∙ read_append u w xs ys rest

-- ---- what is read of a decimal form is its number

read_form : (n : ℕ) → n < 2 ^ 64 → read_on 0 (digits n) ≡ Some n
read_form =
    digit_by_digit (λ (n : ℕ). n < 2 ^ 64 → read_on 0 (digits n) ≡ Some n)
    (λ n l s.
    let sum : 0 * 10 + (last_digit n - 48) ≡ n = omega arith in
    let d : digit 0 (last_digit n) ≡ Some n = digit-taken 0 (last_digit n) (omega arith) (omega arith) (omega arith) ∙ ap Some sum in
    ap (read_on 0) (digits_one n l) ∙ read_more 0 (last_digit n) n [] d ∙ read_end n)
    (λ n g rest s.
    let sum : n / 10 * 10 + (last_digit n - 48) ≡ n = omega arith in
    let d : digit (n / 10) (last_digit n) ≡ Some n = digit-taken (n / 10) (last_digit n) (omega arith) (omega arith) (omega arith) ∙ ap Some sum in
    ap (read_on 0) (digits_more n g) ∙ read_append 0 (n / 10) (digits (n / 10)) (last_digit n ∷ []) (rest (omega arith)) ∙ read_more (n / 10) (last_digit n) n [] d ∙ read_end n)

decimal_plain : (l : List ℕ) → 49 ≤ get_or l 0 0 → decimal l ≡ read_on 0 l
unfolding decimal
decimal_plain [] h = absurd (omega arith)
decimal_plain (b ∷ l) h = rw (ne_eqb b 48 (λ e. omega arith))

decimal_zero : decimal (48 ∷ []) ≡ Some 0
unfolding decimal zero_then
decimal_zero = refl

pub decimal-digits : (n : ℕ) → n < 2 ^ 64 → decimal (digits n) ≡ Some n
decimal-digits n s =
    by n 1
    (λ l. let e : n ≡ 0 = omega arith in rw (e, digits_one 0 (omega arith)) decimal_zero)
    (λ p. decimal_plain (digits n) (first-digit n p) ∙ read_form n s)

-- ---- and what is read is a decimal form

form_on : (l : List ℕ) (v n : ℕ) → 1 ≤ v → v < 2 ^ 64 → read_on v l ≡ Some n → (n < 2 ^ 64) × (digits v ++ l ≡ digits n)
form_on [] v n p s h =
    let q : Some v ≡ Some n = sym (read_end v) ∙ h in
    let e : v ≡ n = cc in
    (omega arith, append-nil (digits v) ∙ ap digits e)
form_on (b ∷ l) v n p s h =
    let (w, d, rest) = read_first v b n l h in
    let t = taken v b w d in
    let more = form_on l w n (omega (arith, t.sum)) t.small rest in
    let unit : b - 48 + 48 ≡ b = omega (arith, t.low) in
    let behind : digits w ≡ digits v ++ (b ∷ []) = ap digits t.sum ∙ digits-behind v (b - 48) p (omega (arith, t.high, t.low)) ∙ ap (λ (c : ℕ). digits v ++ (c ∷ [])) unit in
    (more.0, sym (append_snoc (digits v) b l) ∙ ap (λ (f : List ℕ). f ++ l) (sym behind) ∙ more.1)

zero_form : (l : List ℕ) (n : ℕ) → zero_then l ≡ Some n → (n ≡ 0) × (l ≡ [])
unfolding zero_then
zero_form [] n h = let e : n ≡ 0 = cc in (e, refl)
zero_form (b ∷ l) n h = let z : ◌≡◌ {A = ℕ} 0 1 = cc in absurd (omega arith)

pub decimal_form : (l : List ℕ) (n : ℕ) → decimal l ≡ Some n → (n < 2 ^ 64) × (l ≡ digits n)
unfolding decimal
decimal_form [] n h = let z : ◌≡◌ {A = ℕ} 0 1 = cc in absurd (omega arith)
decimal_form (b ∷ l) n h =
    either (eqb b 48)
    (λ t. let (e, f) = zero_form l n (rw t at h) in
    (omega arith, ap₂ ◌∷◌ (eqb-true b 48 t) f ∙ sym (digits_one 0 (omega arith)) ∙ ap digits (sym e)))
    (λ f. let (w, d, rest) = read_first 0 b n l (rw f at h) in
    let t = taken 0 b w d in
    let other = eqb-false b 48 f in
    let small : w < 10 = omega (arith, t.sum, t.high) in
    let byte : last_digit w ≡ b = omega (arith, t.sum, t.high, t.low) in
    let positive : 1 ≤ w = by w 1 (λ z. absurd (other (omega (arith, t.sum, t.low)))) (λ p. p) in
    let more = form_on l w n positive t.small rest in
    (more.0, ap (λ (c : ℕ). c ∷ l) (sym byte) ∙ ap (λ (c : List ℕ). c ++ l) (sym (digits_one w small)) ∙ more.1))

-- ---- the answer that is right is `decimal`, and no other

pub reads-decimal : (l : List ℕ) → Reads l (decimal l)
reads-decimal l = cases (decimal l) refl
  where
    cases : (d : Option ℕ) → decimal l ≡ d → Reads l d
    cases (Some n) e = decimal_form l n e
    cases None e = λ n s f. let q : None ≡ Some n = sym e ∙ ap decimal f ∙ decimal-digits n s in let z : ◌≡◌ {A = ℕ} 0 1 = cc in omega arith

pub decimal-reads : (l : List ℕ) (r : Option ℕ) → Reads l r → r ≡ decimal l
decimal-reads l (Some n) (s, e) = sym (ap decimal e ∙ decimal-digits n s)
decimal-reads l None f = cases (decimal l) refl
  where
    cases : (d : Option ℕ) → decimal l ≡ d → None ≡ decimal l
    cases (Some n) e = let (s, form) = decimal_form l n e in absurd (f n s form)
    cases None e = sym e

-- ---- what the functions cite

module _ (field : List ℕ) (v i : ℕ) (l : i < length field) where
  pub read_turn : (w : ℕ) → digit v (get_or field i 0) ≡ Some w → read_on v (drop i field) ≡ read_on w (drop (i + 1) field)
  read_turn w e = rw (drop-cons field i 0 l, add-one i) (read_more v (get_or field i 0) w (drop (suc i) field) e)

  pub read_stop : digit v (get_or field i 0) ≡ None → read_on v (drop i field) ≡ None
  read_stop e = rw (drop-cons field i 0 l) (read_fails v (get_or field i 0) (drop (suc i) field) e)

pub read_done : (field : List ℕ) (v i : ℕ) → length field ≤ i → read_on v (drop i field) ≡ Some v
read_done field v i h = ap (read_on v) (drop_of_length-le field h) ∙ read_end v

pub decimal-empty : (l : List ℕ) → length l ≡ 0 → decimal l ≡ None
unfolding decimal
decimal-empty [] h = refl
decimal-empty (b ∷ l) h = absurd (omega arith)

pub decimal-other : (l : List ℕ) → (length l ≡ 0 → ⊥) → (get_or l 0 0 ≡ 48 → ⊥) → decimal l ≡ read_on 0 l
unfolding decimal
decimal-other [] h f = absurd (h refl)
decimal-other (b ∷ l) h f = rw (ne_eqb b 48 f)

pub decimal_nought : (l : List ℕ) → get_or l 0 0 ≡ 48 → length l ≡ 1 → decimal l ≡ Some 0
unfolding decimal zero_then
decimal_nought [] e h = absurd (omega arith)
decimal_nought (b ∷ []) e h = rw (eq-eqb b 48 e)
decimal_nought (b ∷ c ∷ l) e h = absurd (omega arith)

pub decimal_leading : (l : List ℕ) → get_or l 0 0 ≡ 48 → (length l ≡ 1 → ⊥) → decimal l ≡ None
unfolding decimal zero_then
decimal_leading [] e h = refl
decimal_leading (b ∷ []) e h = absurd (h refl)
decimal_leading (b ∷ c ∷ l) e h = rw (eq-eqb b 48 e)

pub right : (l : List ℕ) (r : Option ℕ) → decimal l ≡ r → Reads l r
right l r e = rw (← e) (reads-decimal l)
