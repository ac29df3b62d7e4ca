-- Reading a calendar gives back its duties, and takes nothing else. Assumes nothing.
use Prim.Native.Nat.{ℕ, zero, suc, ◌+◌, ◌^◌, ◌≤◌, ◌<◌}
use mathlib.Core.Path.{◌≡◌, refl, sym, ap, ◌∙◌}
use mathlib.Core.Bool.{true, cond}
use mathlib.Core.List.{List, [], ◌∷◌, ◌++◌}
use Rattle.std.specs.Prelude.{Option, None, Some}
use native.Mathlib.Omega.{arith}
use lib.ListN.{take}
use lib.Seq.{take_at}
use Rattle.basics.specs.Tests.{same_numbers}
use Rattle.basics.proofs.Bools.{either, by}
use Rattle.basics.proofs.Lists.{same_numbers_iff}
use Rattle.calendar_format.specs.Folding.{unfolded}
use Rattle.calendar_format.specs.Texts.{after, then, or_else}
use Rattle.calendar_format.specs.Stamps.{is_stamp}
use Rattle.calendar_format.specs.Format.{Duty, header, opening, closing, event, events, object, standing, Accepted}
use Rattle.calendar_format.specs.Reading.{prepend, event_at, events_from, stamped_events, duties_in}
use Rattle.calendar_format.proofs.AfterLaws.{after_form, after_same, then_form, then_some}
use Rattle.calendar_format.proofs.StampLaws.{stamp_long}
use Rattle.calendar_format.proofs.StandingLaws.{stands, stand, stand_none, stand_earlier, stand_later}
use Rattle.calendar_format.proofs.EventLaws.{events_none, events-more, event_form, event-same, event-opening, event-row, not_closing}

abbrev duty : ℕ → ℕ → Duty
duty r d = record { row = r; day = d }

or_none : {A B : Type 0} (x : Option A) (f : A → B) (b : B) → x ≡ None → or_else x f b ≡ b
unfolding or_else
or_none x f b e = rw e

or_some : {A B : Type 0} (x : Option A) (f : A → B) (b : B) (a : A) → x ≡ Some a → or_else x f b ≡ f a
unfolding or_else
or_some x f b a e = rw e

prepend_form : (x : Duty) (o : Option (List Duty)) (D : List Duty) → prepend x o ≡ Some D → (E : List Duty) × (o ≡ Some E) × (D ≡ x ∷ E)
unfolding prepend
prepend_form x None D h = let z : ◌≡◌ {A = ℕ} 0 1 = cc in absurd (omega arith)
prepend_form x (Some E) D h = (E, refl, cc)

prepend_some : (x : Duty) (o : Option (List Duty)) (E : List Duty) → o ≡ Some E → prepend x o ≡ Some (x ∷ E)
unfolding prepend
prepend_some x o E e = rw e

-- what is not found for any reason is not there
pub none_where : {A : Type 0} (x : Option A) → ((a : A) → x ≡ Some a → ⊥) → x ≡ None
none_where None f = refl
none_where (Some a) f = absurd (f a refl)

not_opening : (m : List ℕ) → opening ++ m ≡ closing → ⊥
unfolding opening closing
not_opening m e = let z : ◌≡◌ {A = ℕ} 66 69 = first e in omega arith
  where
    first : {a b : ℕ} {x y : List ℕ} → a ∷ x ≡ b ∷ y → a ≡ b
    first h = cc

-- ---- reading

pub from_end : (r : ℕ) (s l : List ℕ) → events_from 0 r s l ≡ cond (same_numbers l closing) (Some []) None
unfolding events_from
from_end r s l = refl

pub from_skip : (k r : ℕ) (s l : List ℕ) → event_at s r l ≡ None → events_from (suc k) r s l ≡ events_from k (suc r) s l
unfolding events_from
from_skip k r s l e = or_none (event_at s r l) _ _ e

pub from-event : (k r : ℕ) (s l : List ℕ) (d : ℕ) (t : List ℕ) → event_at s r l ≡ Some (d, t) → events_from (suc k) r s l ≡ prepend (duty r d) (events_from k (suc r) s t)
unfolding events_from
from-event k r s l d t e = or_some (event_at s r l) _ _ (d, t) e

from_form : (top k r : ℕ) (s l : List ℕ) (D : List Duty) → top ≡ r + k → events_from k r s l ≡ Some D → (standing top r D ≡ true) × (l ≡ events s D)
from_form top zero r s l D q h =
    either (same_numbers l closing)
    (λ t. let g : cond (same_numbers l closing) (Some []) None ≡ Some D = sym (from_end r s l) ∙ h in
    let e : Some [] ≡ Some D = rw t at g in
    let n : D ≡ [] = cc in
    rw n (stand_none top r, (same_numbers_iff l closing).0 t ∙ sym (events_none s)))
    (λ f. let g : cond (same_numbers l closing) (Some []) None ≡ Some D = sym (from_end r s l) ∙ h in
    let e : None ≡ Some D = rw f at g in
    let z : ◌≡◌ {A = ℕ} 0 1 = cc in absurd (omega arith))
from_form top (suc k) r s l D q h =
    go (event_at s r l) refl (λ m E g. from_form top k (suc r) s m E (omega arith) g)
  where
    go : (x : Option (ℕ × List ℕ)) → event_at s r l ≡ x
        → ((m : List ℕ) (E : List Duty) → events_from k (suc r) s m ≡ Some E → (standing top (suc r) E ≡ true) × (m ≡ events s E))
        → (standing top r D ≡ true) × (l ≡ events s D)
    go None e again =
        let (a, b) = again l D (sym (from_skip k r s l e) ∙ h) in
        (stand_earlier top r D a, b)
    go (Some p) e again =
        let d : ℕ = p.0 in
        let t : List ℕ = p.1 in
        let (E, eE, eD) = prepend_form (duty r d) (events_from k (suc r) s t) D (sym (from-event k r s l d t e) ∙ h) in
        let (a, b) = again t E eE in
        let (v, f) = event_form s r l d t e in
        rw eD (
          stand top r (duty r d) E (record { from = omega arith; below = omega arith; day = v; more = a }),
          f ∙ ap (λ (x : List ℕ). event s r d ++ x) b ∙ sym (events-more s (duty r d) E),
        )

no_event : (s : List ℕ) (r : ℕ) → event_at s r closing ≡ None
no_event s r = none_where (event_at s r closing) (λ p e. not_closing s r p.0 p.1 (event_form s r closing p.0 p.1 e).1)

other-event : (s : List ℕ) (r q d : ℕ) (t : List ℕ) → r < 2 ^ 64 → q < 2 ^ 64 → (r ≡ q → ⊥) → event_at s r (event s q d ++ t) ≡ None
other-event s r q d t k m n =
    none_where (event_at s r (event s q d ++ t))
    (λ p e. n (sym (event-row s q r d p.0 t p.1 m k (event_form s r (event s q d ++ t) p.0 p.1 e).1)))

from-same : (top k r : ℕ) (s : List ℕ) (D : List Duty) → top ≡ r + k → top ≤ 128 → standing top r D ≡ true → events_from k r s (events s D) ≡ Some D
from-same top zero r s [] q w h = from_end r s (events s []) ∙ rw ((same_numbers_iff (events s []) closing).1 (events_none s))
from-same top zero r s (x ∷ D) q w h = let c = stands top r x D h in absurd (omega (arith, c.from, c.below))
from-same top (suc k) r s [] q w h =
    from_skip k r s (events s []) (ap (event_at s r) (events_none s) ∙ no_event s r)
    ∙ from-same top k (suc r) s [] (omega arith) w (stand_none top (suc r))
from-same top (suc k) r s (x ∷ D) q w h =
    let c = stands top r x D h in
    by r x.row
    (λ l. from_skip k r s (events s (x ∷ D))
    (ap (event_at s r) (events-more s x D) ∙ other-event s r x.row x.day (events s D) (omega arith) (omega (arith, c.below)) (λ e. omega arith))
    ∙ from-same top k (suc r) s (x ∷ D) (omega arith) w (stand_later top r x D (λ e. omega arith) h))
    (λ g. let e : x.row ≡ r = omega (arith, c.from) in
    from-event k r s (events s (x ∷ D)) x.day (events s D)
    (ap (event_at s r) (events-more s x D ∙ ap (λ (y : ℕ). event s y x.day ++ events s D) e) ∙ event-same s r x.day (events s D) c.day)
    ∙ prepend_some (duty r x.day) _ D (from-same top k (suc r) s D (omega arith) w (rw e at c.more))
    ∙ ap (λ (y : ℕ). Some (duty y x.day ∷ D)) (sym e))

-- ---- the whole calendar

-- what is read
stamped_form : (l : List ℕ) (D : List Duty) → stamped_events l ≡ Some D → (s : List ℕ) × (is_stamp s ≡ true) × (D ≡ [] → ⊥) × (standing 128 0 D ≡ true) × (l ≡ events s D)
unfolding stamped_events
stamped_form l D h =
    let (m, em, hm) = then_form (after opening l) _ D h in
    either (is_stamp (take 16 m))
    (λ t. let (a, b) = from_form 128 _ 0 (take 16 m) l D (omega arith) (rw t at hm) in
    (take 16 m, t, (λ e. not_opening m (sym (after_form opening l m em) ∙ b ∙ ap (events (take 16 m)) e ∙ events_none (take 16 m))), a, b))
    (λ f. let g : None ≡ Some D = rw f at hm in let z : ◌≡◌ {A = ℕ} 0 1 = cc in absurd (omega arith))

stamped_same : (s : List ℕ) (D : List Duty) → is_stamp s ≡ true → (D ≡ [] → ⊥) → standing 128 0 D ≡ true → stamped_events (events s D) ≡ Some D
unfolding stamped_events
stamped_same s [] i n h = absurd (n refl)
stamped_same s (x ∷ D) i n h =
    let (u, e) = event-opening s x.row x.day (events s D) in
    let m : List ℕ = s ++ u in
    let o : after opening (events s (x ∷ D)) ≡ Some m = ap (after opening) (events-more s x D ∙ e) ∙ after_same opening m in
    let t : take 16 m ≡ s = take_at s u 16 (stamp_long s i) in
    then_some (after opening (events s (x ∷ D))) _ m o
    ∙ rw (t, i) (from-same 128 _ 0 s (x ∷ D) (omega arith) (omega arith) h)

pub read_form : (input : List ℕ) (D : List Duty) → duties_in input ≡ Some D → Accepted input D
unfolding duties_in object
read_form input D h =
    let (l, el, hl) = then_form (after header (unfolded input)) stamped_events D h in
    let (s, i, n, a, b) = stamped_form l D hl in
    record { stamp = s; stamped = i; duties = n; rows = a; text = after_form header (unfolded input) l el ∙ ap (λ (x : List ℕ). header ++ x) b }

pub read_accepted : (input : List ℕ) (D : List Duty) → Accepted input D → duties_in input ≡ Some D
unfolding duties_in object
read_accepted input D c =
    ap (λ (t : List ℕ). then (after header t) stamped_events) c.text
    ∙ then_some (after header (header ++ events c.stamp D)) stamped_events (events c.stamp D) (after_same header (events c.stamp D))
    ∙ stamped_same c.stamp D c.stamped c.duties c.rows
