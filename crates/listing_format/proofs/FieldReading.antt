-- Reading a field gives back what was written there, and takes nothing else. Assumes nothing.
use Prim.Native.Nat.{ℕ, ◌^◌, ◌≤◌}
use mathlib.Core.Path.{◌≡◌, refl, sym, ap, ap₂, ◌∙◌}
use mathlib.Core.Logic.{◌⊎◌, inl, inr}
use mathlib.Core.Bool.{true, ◌&&◌}
use mathlib.Core.List.{List, [], ◌∷◌, ◌++◌, append-nil}
use Rattle.std.specs.Prelude.{Option, None, Some, option_map}
use native.Mathlib.Omega.{arith}
use lib.Dec.{eqb}
use lib.ListN.{length, drop, take-append-drop}
use lib.Seq.{drop_at, drop-length}
use borrow.Author.Tests.{ltb-true, lt-ltb, eqb-true}
use Rattle.basics.specs.Tests.{all}
use Rattle.basics.proofs.Bools.{either, and_left, and_right}
use Rattle.decimals.specs.Decimals.{digits}
use Rattle.decimals.specs.Reading.{decimal}
use Rattle.decimals.specs.Fields.{ends, front}
use Rattle.decimals.proofs.DigitLaws.{length_pos}
use Rattle.decimals.proofs.ReadingLaws.{decimal-digits, decimal_form}
use Rattle.decimals.proofs.FieldLaws.{Plain, digits_plain, front-before, front-whole, front-taken}
use Rattle.listing_format.specs.Format.{key, small_key}
use Rattle.listing_format.specs.Parsing.{content, after_comma, after_line, both, behind, field_of, last_of}

-- ---- the content of a field

number_form : (l : List ℕ) (d : Option ℕ) (o : Option ℕ) → decimal l ≡ d → option_map Some d ≡ Some o → (l ≡ key o) × (small_key o ≡ true)
unfolding key
number_form l (Some n) None e h = let q : Some n ≡ None = cc in let z : ◌≡◌ {A = ℕ} 0 1 = cc in absurd (omega arith)
number_form l (Some n) (Some m) e h = let q : n ≡ m = cc in let (s, f) = decimal_form l n e in (f ∙ ap digits q, lt-ltb m (2 ^ 64) (rw q at s))
number_form l None o e h = let z : ◌≡◌ {A = ℕ} 0 1 = cc in absurd (omega arith)

pub content_form : (l : List ℕ) (o : Option ℕ) → content l ≡ Some o → (l ≡ key o) × (small_key o ≡ true)
unfolding content key
content_form [] None h = (refl, refl)
content_form [] (Some n) h = let q : None ≡ Some n = cc in let z : ◌≡◌ {A = ℕ} 0 1 = cc in absurd (omega arith)
content_form (b ∷ l) o h = number_form (b ∷ l) (decimal (b ∷ l)) o refl h

content_number : (l : List ℕ) (n : ℕ) → 1 ≤ length l → decimal l ≡ Some n → content l ≡ Some (Some n)
unfolding content
content_number [] n p e = absurd (omega arith)
content_number (b ∷ l) n p e = rw e

pub content-key : (o : Option ℕ) → small_key o ≡ true → content (key o) ≡ Some o
unfolding key content
content-key None s = refl
content-key (Some n) s = content_number (digits n) n (length_pos n) (decimal-digits n (ltb-true n (2 ^ 64) s))

pub key_plain : (o : Option ℕ) → Plain (key o)
unfolding key all
key_plain None = refl
key_plain (Some n) = digits_plain n

-- ---- what closes it

after-comma_form : (l rest : List ℕ) → after_comma l ≡ Some rest → l ≡ 44 ∷ rest
unfolding after_comma
after-comma_form [] rest h = let z : ◌≡◌ {A = ℕ} 0 1 = cc in absurd (omega arith)
after-comma_form (b ∷ l) rest h =
    either (eqb b 44)
    (λ t. let q : Some l ≡ Some rest = rw t at h in ap₂ ◌∷◌ (eqb-true b 44 t) (cc))
    (λ f. let q : None ≡ Some rest = rw f at h in let z : ◌≡◌ {A = ℕ} 0 1 = cc in absurd (omega arith))

pub after_line_form : (l rest : List ℕ) → after_line l ≡ Some rest → (l ≡ 13 ∷ 10 ∷ rest) ⊎ ((l ≡ []) × (rest ≡ []))
unfolding after_line
after_line_form [] rest h = inr (refl, cc)
after_line_form (b ∷ []) rest h = let z : ◌≡◌ {A = ℕ} 0 1 = cc in absurd (omega arith)
after_line_form (b ∷ c ∷ l) rest h =
    either (eqb b 13 && eqb c 10)
    (λ t. let q : Some l ≡ Some rest = rw t at h in inl (ap₂ ◌∷◌ (eqb-true b 13 (and_left (eqb b 13) _ t)) (ap₂ ◌∷◌ (eqb-true c 10 (and_right (eqb b 13) _ t)) (cc))))
    (λ f. let q : None ≡ Some rest = rw f at h in let z : ◌≡◌ {A = ℕ} 0 1 = cc in absurd (omega arith))

-- ---- both

both_form : (x : Option (Option ℕ)) (y : Option (List ℕ)) (o : Option ℕ) (rest : List ℕ) → both x y ≡ Some (o, rest) → (x ≡ Some o) × (y ≡ Some rest)
unfolding both
both_form None y o rest h = let z : ◌≡◌ {A = ℕ} 0 1 = cc in absurd (omega arith)
both_form (Some p) None o rest h = let z : ◌≡◌ {A = ℕ} 0 1 = cc in absurd (omega arith)
both_form (Some p) (Some l) o rest h = let q : ◌≡◌ {A = Option ℕ × List ℕ} (p, l) (o, rest) = cc in (ap Some (ap (λ (w : Option ℕ × List ℕ). w.0) q), ap Some (ap (λ (w : Option ℕ × List ℕ). w.1) q))

split : (l : List ℕ) → front l ++ behind l ≡ l
split l = ap (λ (f : List ℕ). f ++ behind l) (sym (front-taken l)) ∙ take-append-drop (length (front l)) l

pub field_form : (l : List ℕ) (o : Option ℕ) (rest : List ℕ) → field_of l ≡ Some (o, rest) → (l ≡ key o ++ (44 ∷ rest)) × (small_key o ≡ true)
unfolding field_of
field_form l o rest h =
    let (x, y) = both_form _ _ o rest h in
    let (f, s) = content_form (front l) o x in
    (sym (split l) ∙ ap₂ ◌++◌ f (after-comma_form (behind l) rest y), s)

pub last_form : (l : List ℕ) (o : Option ℕ) (rest : List ℕ) → last_of l ≡ Some (o, rest)
    → ((l ≡ key o ++ (13 ∷ 10 ∷ rest)) ⊎ ((l ≡ key o) × (rest ≡ []))) × (small_key o ≡ true)
unfolding last_of
last_form l o rest h =
    let (x, y) = both_form _ _ o rest h in
    let (f, s) = content_form (front l) o x in
    (ends_so f (after_line_form (behind l) rest y), s)
  where
    ends_so : front l ≡ key o → (behind l ≡ 13 ∷ 10 ∷ rest) ⊎ ((behind l ≡ []) × (rest ≡ [])) → (l ≡ key o ++ (13 ∷ 10 ∷ rest)) ⊎ ((l ≡ key o) × (rest ≡ []))
    ends_so f (inl e) = inl (sym (split l) ∙ ap₂ ◌++◌ f e)
    ends_so f (inr p) = inr (sym (split l) ∙ ap₂ ◌++◌ f p.0 ∙ append-nil (key o), p.1)

-- ---- and back

closed : (o : Option ℕ) (b : ℕ) (rest : List ℕ) → ends b ≡ true → (front (key o ++ (b ∷ rest)) ≡ key o) × (behind (key o ++ (b ∷ rest)) ≡ b ∷ rest)
closed o b rest t =
    let f = front-before (key o) rest b (key_plain o) t in
    (f, ap (λ (k : List ℕ). drop (length k) (key o ++ (b ∷ rest))) f ∙ drop_at (key o) (b ∷ rest) (length (key o)) refl)

pub field_key : (o : Option ℕ) (rest : List ℕ) → small_key o ≡ true → field_of (key o ++ (44 ∷ rest)) ≡ Some (o, rest)
unfolding field_of both after_comma ends
field_key o rest s = let (f, b) = closed o 44 rest refl in rw (b, f, content-key o s)

pub last_key : (o : Option ℕ) (rest : List ℕ) → small_key o ≡ true → last_of (key o ++ (13 ∷ 10 ∷ rest)) ≡ Some (o, rest)
unfolding last_of both after_line ends
last_key o rest s = let (f, b) = closed o 13 (10 ∷ rest) refl in rw (b, f, content-key o s)

pub last_key-cut : (o : Option ℕ) → small_key o ≡ true → last_of (key o) ≡ Some (o, [])
unfolding last_of both after_line
last_key-cut o s =
    let f = front-whole (key o) (key_plain o) in
    let b : behind (key o) ≡ [] = ap (λ (k : List ℕ). drop (length k) (key o)) f ∙ drop-length (key o) in
    rw (b, f, content-key o s)
