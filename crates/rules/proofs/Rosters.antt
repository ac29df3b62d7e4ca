-- What a roster holds after a list: a row that the list names, the value of an edit of it; any other row, what it held. Assumes nothing.
use Prim.Native.Nat.{ℕ}
use mathlib.Core.Path.{◌≡◌, refl, sym, ap, ◌∙◌, fun_ext}
use mathlib.Core.Logic.{◌⊎◌, inl, inr, ⊎_elim}
use mathlib.Core.Bool.{true, false}
use mathlib.Core.List.Memᴰ.{head as here}
use mathlib.Core.List.Memᴰ.{tail as there}
use mathlib.Core.List.{List, [], ◌∷◌, ◌++◌}
use lib.Dec.{eqb}
use borrow.Author.Tests.{eqb-true, eqb-false, eq-eqb, ne_eqb}
use Rattle.basics.specs.Tests.{among, distinct}
use Rattle.basics.specs.Edits.{Edit, rows_of}
use Rattle.basics.proofs.Bools.{either, clash, or_none, or_neither, or_cases}
use Rattle.basics.proofs.Lists.{◌∈◌, distinct_cons}
use Rattle.rules.specs.Roster.{Roster, put, after}

pub put_same : (h : Roster) (r v : ℕ) → put h r v r ≡ v
unfolding put
put_same h r v = rw (eq-eqb r r refl)

pub put_other : (h : Roster) (r v : ℕ) {i : ℕ} → (i ≡ r → ⊥) → put h r v i ≡ h i
unfolding put
put_other h r v {i} n = rw (ne_eqb i r n)

-- two rosters that agree but perhaps at the row agree once it is set
pub put_alike : (g h : Roster) (r v i : ℕ) → ((i ≡ r → ⊥) → g i ≡ h i) → put g r v i ≡ put h r v i
unfolding put
put_alike g h r v i f = either (eqb i r) (λ t. rw t) (λ n. rw n (f (eqb-false i r n)))

pub after-append : (h : Roster) (L M : List Edit) → after h (L ++ M) ≡ after (after h L) M
unfolding after
after-append h [] M = refl
after-append h (e ∷ L) M = after-append (put h e.row e.value) L M

-- a row that no edit names
pub untouched : (h : Roster) (L : List Edit) {r : ℕ} → among r (rows_of L) ≡ false → after h L r ≡ h r
unfolding after among rows_of
untouched h [] n = refl
untouched h (e ∷ L) {r} n =
    let (other, rest) = or_none (eqb r e.row) _ n in
    untouched (put h e.row e.value) L rest ∙ put_other h e.row e.value (eqb-false r e.row other)

-- a row that an edit names
pub touched : (h : Roster) (L : List Edit) (r : ℕ) → among r (rows_of L) ≡ true → (e : Edit) × (e ∈ L) × (e.row ≡ r) × (after h L r ≡ e.value)
unfolding after among rows_of
touched h [] r y = absurd (clash y refl)
touched h (e ∷ L) r y =
    let S = put h e.row e.value in
    either (among r (rows_of L))
    (λ t. let (f, m, p, q) = touched S L r t in (f, there m, p, q))
    (λ n. let q = ⊎_elim (eqb-true r e.row) (λ t. absurd (clash t n)) (or_cases (eqb r e.row) _ y) in
    (e, here refl, sym q, untouched S L n ∙ ap S q ∙ put_same h e.row e.value))

-- so a row holds what it held, or the value of an edit of it
pub spot : (h : Roster) (L : List Edit) (r : ℕ) → (after h L r ≡ h r) ⊎ ((e : Edit) × (e ∈ L) × (e.row ≡ r) × (after h L r ≡ e.value))
spot h L r = either (among r (rows_of L)) (λ y. inr (touched h L r y)) (λ n. inl (untouched h L n))

-- where no row is named twice, that of the one edit
pub listed : {e : Edit} (h : Roster) {L : List Edit} → distinct (rows_of L) ≡ true → e ∈ L → after h L e.row ≡ e.value
unfolding after rows_of
listed h d (here {x} {xs} q) =
    rw q (untouched (put h x.row x.value) xs ((distinct_cons x.row (rows_of xs)).0 d).0 ∙ put_same h x.row x.value)
listed h d (there {x} {xs} m) = listed (put h x.row x.value) ((distinct_cons x.row (rows_of xs)).0 d).1 m

-- what a row held before matters only if no edit names it
pub overwritten : (g h : Roster) (L : List Edit) {r : ℕ} → (among r (rows_of L) ≡ false → g r ≡ h r) → after g L r ≡ after h L r
unfolding after among rows_of
overwritten g h [] f = f refl
overwritten g h (e ∷ L) {r} f =
    overwritten (put g e.row e.value) (put h e.row e.value) L
    (λ n. put_alike g h e.row e.value r (λ z. f (or_neither (ne_eqb r e.row z) n)))

-- setting a row that no edit names may come before the list or after it
pub late : (h : Roster) (r v : ℕ) (L : List Edit) → among r (rows_of L) ≡ false → after (put h r v) L ≡ put (after h L) r v
late h r v L n = fun_ext (λ i. either (eqb i r)
    (λ t. rw (eqb-true i r t) (untouched (put h r v) L n ∙ put_same h r v ∙ sym (put_same (after h L) r v)))
    (λ f. let other = eqb-false i r f in overwritten (put h r v) h L (λ _. put_other h r v other) ∙ sym (put_other (after h L) r v other)))
