-- Unfolding takes out what folding put in, wherever it did, and nothing else. Assumes nothing.
use Prim.Native.Nat.{ℕ}
use mathlib.Core.Path.{◌≡◌, refl, ap, ◌∙◌}
use mathlib.Core.Logic.{◌↔◌, ◌⊎◌, inl, inr, ⊎_elim}
use mathlib.Core.Bool.{true, false}
use mathlib.Core.List.{List, [], ◌∷◌}
use lib.Dec.{eqb}
use borrow.Author.Tests.{eqb-true, eq-eqb}
use Rattle.basics.proofs.Bools.{either, clash, and_left, and_right, and_false, or_left, or_right, or_cases}
use Rattle.calendar_format.specs.Folding.{is_blank, fold_here, unfold_by, unfolded, no_fold, Folded, done, octet, fold}

-- a space or a tab, and nothing else
pub blank_iff : (c : ℕ) → is_blank c ≡ true ↔ ((c ≡ 32) ⊎ (c ≡ 9))
unfolding is_blank
blank_iff c = (
  λ h. ⊎_elim (λ t. inl (eqb-true c 32 t)) (λ t. inr (eqb-true c 9 t)) (or_cases (eqb c 32) (eqb c 9) h),
  λ h. ⊎_elim (λ e. or_left (eqb c 32) (eqb c 9) (eq-eqb c 32 e)) (λ e. or_right (eqb c 32) (eqb c 9) (eq-eqb c 9 e)) h,
)

blank_not_return : is_blank 13 ≡ false
unfolding is_blank
blank_not_return = refl

-- a fold in the folded text that begins with one of the text's own octets is one of the text's own
own : (a : ℕ) {w l : List ℕ} → Folded w l → fold_here (a ∷ l) ≡ true → fold_here (a ∷ w) ≡ true
unfolding fold_here
own a done t = t
own a (fold c b f) t = absurd (clash t (and_false (eqb a 13)))
own a (octet b done) t = t
own a (octet b (octet c f)) t = t
own a (octet b (fold c k f)) t =
    absurd (clash (and_right (eqb b 10) _ (and_right (eqb a 13) _ t)) blank_not_return)

pub is_fold : (c : ℕ) (l : List ℕ) → is_blank c ≡ true → fold_here (13 ∷ 10 ∷ c ∷ l) ≡ true
unfolding fold_here
is_fold c l b = b

pub fold_form : (a b c : ℕ) (l : List ℕ) → fold_here (a ∷ b ∷ c ∷ l) ≡ true → (a ≡ 13) × (b ≡ 10) × (is_blank c ≡ true)
unfolding fold_here
fold_form a b c l t =
    let u = and_right (eqb a 13) _ t in
    (eqb-true a 13 (and_left (eqb a 13) _ t), eqb-true b 10 (and_left (eqb b 10) _ u), and_right (eqb b 10) _ u)

pub unfold_here : (a : ℕ) (l : List ℕ) → fold_here (a ∷ l) ≡ false → unfolded (a ∷ l) ≡ a ∷ unfolded l
unfolding unfold_by
unfold_here a l n = rw n

pub unfold_fold : (c : ℕ) (l : List ℕ) → is_blank c ≡ true → unfolded (13 ∷ 10 ∷ c ∷ l) ≡ unfolded l
unfolding unfold_by
unfold_fold c l b = rw (is_fold c l b)

no_fold_here : (a : ℕ) (l : List ℕ) → no_fold (a ∷ l) ≡ true → (fold_here (a ∷ l) ≡ false) × (no_fold l ≡ true)
unfolding no_fold
no_fold_here a l u =
    either (fold_here (a ∷ l))
    (λ t. let no : false ≡ true = rw t at u in absurd (clash no refl))
    (λ n. (n, rw n at u))

-- what was folded in is taken out, where the text itself has no fold
pub unfold_folded : {w l : List ℕ} → Folded w l → no_fold w ≡ true → unfolded l ≡ w
unfolding unfold_by
unfold_folded done u = refl
unfold_folded (fold {l = l} c b f) u = unfold_fold c l b ∙ unfold_folded f u
unfold_folded (octet {w} {l} a f) u =
    let (n, v) = no_fold_here a w u in
    either (fold_here (a ∷ l))
    (λ t. absurd (clash (own a f t) n))
    (λ m. unfold_here a l m ∙ ap (λ (x : List ℕ). a ∷ x) (unfold_folded f v))

-- a fold in front, and an octet that is kept
put : (a b c : ℕ) (l : List ℕ) → a ≡ 13 → b ≡ 10 → is_blank c ≡ true → Folded (unfolded l) l → Folded (unfolded (a ∷ b ∷ c ∷ l)) (a ∷ b ∷ c ∷ l)
put a b c l p q blank f = rw (p, q, unfold_fold c l blank) (fold c blank f)

kept : (a : ℕ) (l : List ℕ) → fold_here (a ∷ l) ≡ false → Folded (unfolded l) l → Folded (unfolded (a ∷ l)) (a ∷ l)
kept a l n f = rw (unfold_here a l n) (octet a f)

cases : (a b c : ℕ) (l : List ℕ) → Folded (unfolded l) l → Folded (unfolded (b ∷ c ∷ l)) (b ∷ c ∷ l) → Folded (unfolded (a ∷ b ∷ c ∷ l)) (a ∷ b ∷ c ∷ l)
cases a b c l f g =
    either (fold_here (a ∷ b ∷ c ∷ l))
    (λ t. let (p, q, blank) = fold_form a b c l t in put a b c l p q blank f)
    (λ n. kept a (b ∷ c ∷ l) n g)

-- what is left out are folds: the octets are what unfolding makes of them, folded
pub folded_unfolded : (l : List ℕ) → Folded (unfolded l) l
unfolding unfold_by fold_here
folded_unfolded [] = done
folded_unfolded (a ∷ []) = octet a done
folded_unfolded (a ∷ b ∷ []) = octet a (octet b done)
folded_unfolded (a ∷ b ∷ c ∷ l) = cases a b c l (folded_unfolded l) (folded_unfolded (b ∷ c ∷ l))
