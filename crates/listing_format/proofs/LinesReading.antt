-- Reading lines gives back their records, and takes nothing else, whether or not the last line has its end. Assumes nothing.
use Prim.Native.Nat.{ℕ, zero, suc, ◌≤◌}
use mathlib.Core.Path.{◌≡◌, refl, sym, ap, subst, ◌∙◌}
use mathlib.Core.Logic.{◌⊎◌, inl, inr}
use mathlib.Core.Bool.{true, false}
use mathlib.Core.List.{List, [], ◌∷◌, ◌++◌, append_assoc}
use Rattle.std.specs.Prelude.{Option, None, Some}
use native.Mathlib.Omega.{arith}
use lib.Dec.{eqb}
use lib.ListN.{length}
use borrow.Author.Tests.{ne_eqb, eq-eqb, eqb-true}
use Rattle.basics.specs.Tests.{all}
use Rattle.basics.proofs.Bools.{by, either, and_left, and_right, and_join}
use Rattle.basics.proofs.Lists.{nothing}
use Rattle.listing_format.specs.Format.{Record, line_end, fields, lines, small_record}
use Rattle.listing_format.specs.Parsing.{Read, and_then, line_of, prepend, lines_by, lines_of}
use Rattle.listing_format.proofs.LineReading.{LineRead, then_some, then_none, line_form, line_fields, line_fields-cut, line_used}

-- ---- the lines, one after another

by_nil : (k : ℕ) → lines_by k [] ≡ Some []
unfolding lines_by
by_nil zero = refl
by_nil (suc k) = refl

by_step : (k : ℕ) (l : List ℕ) → (length l ≡ 0 → ⊥) → lines_by (suc k) l ≡ and_then (line_of l) (λ r rest. prepend (r ∷ []) (lines_by k rest))
unfolding lines_by
by_step k l h = rw (ne_eqb (length l) 0 h)

-- more turns than there are bytes change nothing
by_enough : (k m : ℕ) (l : List ℕ) → length l ≤ k → length l ≤ m → lines_by k l ≡ lines_by m l
by_enough zero m l a b = let e = nothing l (omega arith) in rw e (by_nil zero ∙ sym (by_nil m))
by_enough (suc k) zero l a b = let e = nothing l (omega arith) in rw e (by_nil (suc k) ∙ sym (by_nil zero))
by_enough (suc k) (suc m) l a b =
    either (eqb (length l) 0)
    (λ t. let e = nothing l (eqb-true (length l) 0 t) in rw e (by_nil (suc k) ∙ sym (by_nil (suc m))))
    (λ f. let h = not_nothing f in by_step k l h ∙ turn (λ rest c d. by_enough k m rest c d) (line_of l) refl ∙ sym (by_step m l h))
  where
    not_nothing : eqb (length l) 0 ≡ false → length l ≡ 0 → ⊥
    not_nothing f e = let z : true ≡ false = sym (eq-eqb (length l) 0 e) ∙ f in let q : ◌≡◌ {A = ℕ} 0 1 = cc in omega arith

    turn : ((rest : List ℕ) → length rest ≤ k → length rest ≤ m → lines_by k rest ≡ lines_by m rest)
        → (x : Read Record)
        → line_of l ≡ x
        → and_then (line_of l) (λ r rest. prepend (r ∷ []) (lines_by k rest)) ≡ and_then (line_of l) (λ r rest. prepend (r ∷ []) (lines_by m rest))
    turn again None e = then_none _ _ e ∙ sym (then_none _ _ e)
    turn again (Some p) e =
        let u = line_used l p.0 p.1 e in
        then_some _ _ _ _ e
        ∙ ap (prepend (p.0 ∷ [])) (again p.1 (omega (arith, u.0)) (omega (arith, u.0)))
        ∙ sym (then_some _ (λ r rest. prepend (r ∷ []) (lines_by m rest)) _ _ e)

pub lines_none : lines_of [] ≡ Some []
unfolding lines_of
lines_none = by_nil 0

-- a line that is read, and those behind it; a line that is not
pub lines_more : (l : List ℕ) (r : Record) (rest : List ℕ) → line_of l ≡ Some (r, rest) → lines_of l ≡ prepend (r ∷ []) (lines_of rest)
unfolding lines_of
lines_more l r rest e =
    let u = (line_used l r rest e).0 in
    by_enough (length l) (suc (length l)) l (omega arith) (omega arith)
    ∙ by_step (length l) l (λ z. omega arith)
    ∙ then_some _ (λ s more. prepend (s ∷ []) (lines_by (length l) more)) r rest e
    ∙ ap (prepend (r ∷ [])) (by_enough (length l) (length rest) rest (omega arith) (omega arith))

pub lines_fail : (l : List ℕ) → (length l ≡ 0 → ⊥) → line_of l ≡ None → lines_of l ≡ None
unfolding lines_of
lines_fail l h e = by_enough (length l) (suc (length l)) l (omega arith) (omega arith) ∙ by_step (length l) l h ∙ then_none _ _ e

-- ---- what is read is what the text renders

pub prepended : (r : Record) (rs : List Record) → prepend (r ∷ []) (Some rs) ≡ Some (r ∷ rs)
unfolding prepend
prepended r rs = refl

-- lines, the last with or without its end
abbrev pub Lines : List ℕ → List Record → Type 0
Lines l rs = (l ≡ lines rs) ⊎ (l ++ line_end ≡ lines rs)

pub prepend_form : (r : Record) (x : Option (List Record)) (rs : List Record) → prepend (r ∷ []) x ≡ Some rs → (more : List Record) × (x ≡ Some more) × (rs ≡ r ∷ more)
unfolding prepend
prepend_form r None rs h = let z : ◌≡◌ {A = ℕ} 0 1 = cc in absurd (omega arith)
prepend_form r (Some more) rs h = (more, refl, cc)

pub lines_cons : (r : Record) (rs : List Record) → lines (r ∷ rs) ≡ fields r ++ (13 ∷ 10 ∷ lines rs)
unfolding lines
lines_cons r rs = append_assoc (fields r) line_end (lines rs)

pub lines_nil : lines [] ≡ []
unfolding lines
lines_nil = refl

no_lines : (l : List ℕ) (rs : List Record) → length l ≡ 0 → lines_of l ≡ Some rs → Lines l rs × (all small_record rs ≡ true)
unfolding all
no_lines l rs z h =
    let n = nothing l z in
    let q : Some [] ≡ Some rs = sym lines_none ∙ ap lines_of (sym n) ∙ h in
    let e : [] ≡ rs = cc in
    rw (← e) (inl (n ∙ sym lines_nil), refl)

one_more_lem : (l : List ℕ) (r : Record) (rest : List ℕ) (more : List Record) → LineRead l r rest → lines_of rest ≡ Some more → Lines rest more → Lines l (r ∷ more)
one_more_lem l r rest more f e m = first f.text m
  where
    none_left : rest ≡ [] → more ≡ []
    none_left z = let q : Some more ≡ Some [] = sym e ∙ ap lines_of z ∙ lines_none in cc

    first : (l ≡ fields r ++ (13 ∷ 10 ∷ rest)) ⊎ ((l ≡ fields r) × (rest ≡ [])) → Lines rest more → Lines l (r ∷ more)
    first (inl p) (inl q) = inl (p ∙ ap (λ (t : List ℕ). fields r ++ (13 ∷ 10 ∷ t)) q ∙ sym (lines_cons r more))
    first (inl p) (inr q) =
        inr (ap (λ (t : List ℕ). t ++ line_end) p ∙ append_assoc (fields r) (13 ∷ 10 ∷ rest) line_end ∙ ap (λ (t : List ℕ). fields r ++ (13 ∷ 10 ∷ t)) q ∙ sym (lines_cons r more))
    first (inr p) q =
        inr (ap (λ (t : List ℕ). t ++ line_end) p.0 ∙ ap (λ (t : List ℕ). fields r ++ (13 ∷ 10 ∷ t)) (sym lines_nil) ∙ ap (λ (t : List Record). fields r ++ (13 ∷ 10 ∷ lines t)) (sym (none_left p.1)) ∙ sym (lines_cons r more))

some_line : (l : List ℕ) (rs : List Record) → (length l ≡ 0 → ⊥) → lines_of l ≡ Some rs → (r : Record) × (rest : List ℕ) × (line_of l ≡ Some (r, rest))
some_line l rs b h = cases (line_of l) refl
  where
    cases : (x : Read Record) → line_of l ≡ x → (r : Record) × (rest : List ℕ) × (line_of l ≡ Some (r, rest))
    cases None e = let q : Some rs ≡ None = sym h ∙ lines_fail l b e in let z : ◌≡◌ {A = ℕ} 0 1 = cc in absurd (omega arith)
    cases (Some p) e = (p.0, p.1, e)

pub lines_form : (k : ℕ) (l : List ℕ) (rs : List Record) → length l ≤ k → lines_of l ≡ Some rs → Lines l rs × (all small_record rs ≡ true)
unfolding all
lines_form zero l rs b h = no_lines l rs (omega arith) h
lines_form (suc k) l rs b h =
    by (length l) 1
    (λ z. no_lines l rs (omega arith) h)
    (λ p.
    let (r, rest, e) = some_line l rs (λ z. omega arith) h in
    let (more, m, same) = prepend_form r (lines_of rest) rs (sym (lines_more l r rest e) ∙ h) in
    let f = line_form l r rest e in
    let g = lines_form k rest more (omega (arith, (line_used l r rest e).0)) m in
    subst (λ (s : List Record). Lines l s × (all small_record s ≡ true)) (sym same) (one_more_lem l r rest more f m g.0, and_join f.numbers g.1))

-- ---- and what renders records is read

pub lines-whole : (rs : List Record) → all small_record rs ≡ true → lines_of (lines rs) ≡ Some rs
unfolding all
lines-whole [] s = ap lines_of lines_nil ∙ lines_none
lines-whole (r ∷ rs) s =
    ap lines_of (lines_cons r rs)
    ∙ lines_more (fields r ++ (13 ∷ 10 ∷ lines rs)) r (lines rs) (line_fields r (lines rs) (and_left (small_record r) _ s))
    ∙ ap (prepend (r ∷ [])) (lines-whole rs (and_right (small_record r) _ s))
    ∙ prepended r rs

-- the lines of r and rs without the last line end
abbrev pub cut : Record → List Record → List ℕ
cut r [] = fields r
cut r (s ∷ rs) = fields r ++ (13 ∷ 10 ∷ cut s rs)

pub lines_cut : (r : Record) (rs : List Record) → lines (r ∷ rs) ≡ cut r rs ++ line_end
lines_cut r [] = lines_cons r [] ∙ ap (λ (t : List ℕ). fields r ++ (13 ∷ 10 ∷ t)) lines_nil
lines_cut r (s ∷ rs) =
    lines_cons r (s ∷ rs) ∙ ap (λ (t : List ℕ). fields r ++ (13 ∷ 10 ∷ t)) (lines_cut s rs) ∙ sym (append_assoc (fields r) (13 ∷ 10 ∷ cut s rs) line_end)

pub cut-whole : (r : Record) (rs : List Record) → all small_record (r ∷ rs) ≡ true → lines_of (cut r rs) ≡ Some (r ∷ rs)
unfolding all
cut-whole r [] s =
    lines_more (fields r) r [] (line_fields-cut r (and_left (small_record r) _ s)) ∙ ap (prepend (r ∷ [])) lines_none ∙ prepended r []
cut-whole r (t ∷ rs) s =
    lines_more (fields r ++ (13 ∷ 10 ∷ cut t rs)) r (cut t rs) (line_fields r (cut t rs) (and_left (small_record r) _ s))
    ∙ ap (prepend (r ∷ [])) (cut-whole t rs (and_right (small_record r) _ s))
    ∙ prepended r (t ∷ rs)
