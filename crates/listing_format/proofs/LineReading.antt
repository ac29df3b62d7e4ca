-- Reading a line gives back its record, and takes nothing else. Assumes nothing.
use Prim.Native.Nat.{ℕ, ◌+◌, ◌≤◌}
use mathlib.Core.Path.{◌≡◌, refl, sym, ap, ap₂, subst, ◌∙◌}
use mathlib.Core.Logic.{◌⊎◌, inl, inr}
use mathlib.Core.Bool.{true}
use mathlib.Core.List.{List, [], ◌∷◌, ◌++◌, append_assoc, append-nil}
use Rattle.std.specs.Prelude.{Option, None, Some}
use native.Mathlib.Omega.{arith}
use lib.ListN.{length, length-append}
use Rattle.basics.proofs.Bools.{and_left, and_right, and_join}
use Rattle.decimals.specs.Decimals.{digits}
use Rattle.decimals.proofs.DigitLaws.{length_pos}
use Rattle.listing_format.specs.Format.{Record, key, fields, small, small_key, small_record}
use Rattle.listing_format.specs.Parsing.{Read, and_then, given, field_of, last_of, needed, line_of}
use Rattle.listing_format.proofs.FieldReading.{field_form, last_form, field_key, last_key, last_key-cut}

-- ---- one step of reading

pub then_form : {A B : Type 0} (x : Read A) (f : A → List ℕ → Option B) (y : B) → and_then x f ≡ Some y → (a : A) × (l : List ℕ) × (x ≡ Some (a, l)) × (f a l ≡ Some y)
unfolding and_then
then_form None f y h = let z : ◌≡◌ {A = ℕ} 0 1 = cc in absurd (omega arith)
then_form (Some p) f y h = (p.0, p.1, refl, h)

pub then_some : {A B : Type 0} (x : Read A) (f : A → List ℕ → Option B) (a : A) (l : List ℕ) → x ≡ Some (a, l) → and_then x f ≡ f a l
unfolding and_then
then_some x f a l e = rw e

pub then_none : {A B : Type 0} (x : Read A) (f : A → List ℕ → Option B) → x ≡ None → and_then x f ≡ None
unfolding and_then
then_none x f e = rw e

-- ---- a number that must be there

given_form : (o : Option ℕ) (l : List ℕ) (n : ℕ) (rest : List ℕ) → given o l ≡ Some (n, rest) → (o ≡ Some n) × (l ≡ rest)
unfolding given
given_form None l n rest h = let z : ◌≡◌ {A = ℕ} 0 1 = cc in absurd (omega arith)
given_form (Some m) l n rest h = let q : ◌≡◌ {A = ℕ × List ℕ} (m, l) (n, rest) = cc in (ap Some (ap (λ (w : ℕ × List ℕ). w.0) q), ap (λ (w : ℕ × List ℕ). w.1) q)

key_some : (n : ℕ) → key (Some n) ≡ digits n
unfolding key
key_some n = refl

pub needed_form : (l : List ℕ) (n : ℕ) (rest : List ℕ) → needed l ≡ Some (n, rest) → (l ≡ digits n ++ (44 ∷ rest)) × (small n ≡ true)
unfolding needed
needed_form l n rest h =
    let (o, m, e, g) = then_form (field_of l) given (n, rest) h in
    let (f, s) = field_form l o m e in
    let (p, q) = given_form o m n rest g in
    (f ∙ ap₂ (λ (k : Option ℕ) (r : List ℕ). key k ++ (44 ∷ r)) p q ∙ ap (λ (k : List ℕ). k ++ (44 ∷ rest)) (key_some n), rw p at s)

pub needed_number : (n : ℕ) (rest : List ℕ) → small n ≡ true → needed (digits n ++ (44 ∷ rest)) ≡ Some (n, rest)
unfolding needed given key
needed_number n rest s = then_some (field_of (digits n ++ (44 ∷ rest))) given (Some n) rest (field_key (Some n) rest s)

-- ---- a line, and what stands behind it

abbrev fields_then : Record → List ℕ → List ℕ
fields_then r t =
    digits r.row ++ (44 ∷ (digits r.value ++ (44 ∷ (digits r.now ++ (44 ∷ (key r.capacity ++ (44 ∷ (key r.sequence ++ t))))))))

fields-then : (r : Record) (t : List ℕ) → fields r ++ t ≡ fields_then r t
unfolding fields
fields-then r t = simp append_assoc

-- the record was read, up to its line's end, or to the end of the text
pub record LineRead (l : List ℕ) (r : Record) (rest : List ℕ) : Type 0 where
  pub numbers : small_record r ≡ true
  pub text : (l ≡ fields r ++ (13 ∷ 10 ∷ rest)) ⊎ ((l ≡ fields r) × (rest ≡ []))

abbrev record_of : ℕ → ℕ → ℕ → Option ℕ → Option ℕ → Record
record_of row value now capacity sequence = record { row = row; value = value; now = now; capacity = capacity; sequence = sequence }

joined : (row value now : ℕ) (capacity sequence : Option ℕ) (l a b c d e : List ℕ)
    → l ≡ digits row ++ (44 ∷ a) → a ≡ digits value ++ (44 ∷ b) → b ≡ digits now ++ (44 ∷ c) → c ≡ key capacity ++ (44 ∷ d) → d ≡ key sequence ++ e
    → l ≡ fields (record_of row value now capacity sequence) ++ e
joined row value now capacity sequence l a b c d e p q r s t = p ∙ rw (q, r, s, t) (sym (fields-then _ e))

closes : (l d e : List ℕ) (r : Record) (k : Option ℕ) → ((d ≡ key k ++ (13 ∷ 10 ∷ e)) ⊎ ((d ≡ key k) × (e ≡ [])))
    → ((t : List ℕ) → d ≡ key k ++ t → l ≡ fields r ++ t)
    → (l ≡ fields r ++ (13 ∷ 10 ∷ e)) ⊎ ((l ≡ fields r) × (e ≡ []))
closes l d e r k (inl f) j = inl (j (13 ∷ 10 ∷ e) f)
closes l d e r k (inr p) j = inr (j [] (p.0 ∙ sym (append-nil (key k))) ∙ append-nil (fields r), p.1)

fields_read : (row value now : ℕ) (capacity sequence : Option ℕ) (l a b c d e : List ℕ)
    → needed l ≡ Some (row, a) → needed a ≡ Some (value, b) → needed b ≡ Some (now, c) → field_of c ≡ Some (capacity, d) → last_of d ≡ Some (sequence, e)
    → LineRead l (record_of row value now capacity sequence) e
unfolding small_record
fields_read row value now capacity sequence l a b c d e ea eb ec ed ee =
    let fa = needed_form l row a ea in
    let fb = needed_form a value b eb in
    let fc = needed_form b now c ec in
    let fd = field_form c capacity d ed in
    let fe = last_form d sequence e ee in
    record {
      numbers = and_join fa.1 (and_join fb.1 (and_join fc.1 (and_join fd.1 fe.1)));
      text = closes l d e (record_of row value now capacity sequence) sequence fe.0 (λ t. joined row value now capacity sequence l a b c d t fa.0 fb.0 fc.0 fd.0);
    }

some_pair : {A B : Type 0} (a c : A) (b d : B) → ◌≡◌ {A = Option (A × B)} (Some (a, b)) (Some (c, d)) → ◌≡◌ {A = A × B} (a, b) (c, d)
some_pair a c b d h = cc

pub line_form : (l : List ℕ) (r : Record) (rest : List ℕ) → line_of l ≡ Some (r, rest) → LineRead l r rest
unfolding line_of
line_form l r rest h =
    let (row, a, ea, ha) = then_form (needed l) _ (r, rest) h in
    let (value, b, eb, hb) = then_form (needed a) _ (r, rest) ha in
    let (now, c, ec, hc) = then_form (needed b) _ (r, rest) hb in
    let (capacity, d, ed, hd) = then_form (field_of c) _ (r, rest) hc in
    let (sequence, e, ee, he) = then_form (last_of d) _ (r, rest) hd in
    subst (λ (w : Record × List ℕ). LineRead l w.0 w.1) (some_pair (record_of row value now capacity sequence) r e rest he) (fields_read row value now capacity sequence l a b c d e ea eb ec ed ee)

-- ---- and back

record Small (r : Record) : Type 0 where
  row : small r.row ≡ true
  value : small r.value ≡ true
  now : small r.now ≡ true
  capacity : small_key r.capacity ≡ true
  sequence : small_key r.sequence ≡ true

smalls : (r : Record) → small_record r ≡ true → Small r
unfolding small_record
smalls r h =
    let a = and_right (small r.row) _ h in
    let b = and_right (small r.value) _ a in
    let c = and_right (small r.now) _ b in
    record {
      row = and_left (small r.row) _ h;
      value = and_left (small r.value) _ a;
      now = and_left (small r.now) _ b;
      capacity = and_left (small_key r.capacity) _ c;
      sequence = and_right (small_key r.capacity) _ c;
    }

line_then : (r : Record) (t e : List ℕ) → small_record r ≡ true → last_of (key r.sequence ++ t) ≡ Some (r.sequence, e) → line_of (fields r ++ t) ≡ Some (r, e)
unfolding line_of
line_then r t e s h =
    let m = smalls r s in
    ap line_of (fields-then r t)
    ∙ then_some _ _ _ _ (needed_number r.row _ m.row)
    ∙ then_some _ _ _ _ (needed_number r.value _ m.value)
    ∙ then_some _ _ _ _ (needed_number r.now _ m.now)
    ∙ then_some _ _ _ _ (field_key r.capacity _ m.capacity)
    ∙ then_some _ _ _ _ h

pub line_fields : (r : Record) (rest : List ℕ) → small_record r ≡ true → line_of (fields r ++ (13 ∷ 10 ∷ rest)) ≡ Some (r, rest)
line_fields r rest s = line_then r (13 ∷ 10 ∷ rest) rest s (last_key r.sequence rest (smalls r s).sequence)

pub line_fields-cut : (r : Record) → small_record r ≡ true → line_of (fields r) ≡ Some (r, [])
line_fields-cut r s =
    ap line_of (sym (append-nil (fields r)))
    ∙ line_then r [] [] s (ap last_of (append-nil (key r.sequence)) ∙ last_key-cut r.sequence (smalls r s).sequence)

-- ---- how long a line is

pub fields_long : (r : Record) → 7 ≤ length (fields r)
unfolding fields
fields_long r =
    simp length-append
    (omega (arith, length_pos r.row, length_pos r.value, length_pos r.now))

pub line_used : (l : List ℕ) (r : Record) (rest : List ℕ) → line_of l ≡ Some (r, rest) → (7 + length rest ≤ length l) × ((rest ≡ [] → ⊥) → 9 + length rest ≤ length l)
line_used l r rest h = used (line_form l r rest h).text
  where
    used : (l ≡ fields r ++ (13 ∷ 10 ∷ rest)) ⊎ ((l ≡ fields r) × (rest ≡ [])) → (7 + length rest ≤ length l) × ((rest ≡ [] → ⊥) → 9 + length rest ≤ length l)
    used (inl e) = let k = ap length e ∙ length-append (fields r) (13 ∷ 10 ∷ rest) in let m = fields_long r in (omega arith, λ q. omega arith)
    used (inr p) = let k = ap length p.0 in let n = ap length p.1 in let m = fields_long r in (omega arith, λ q. absurd (q p.1))
