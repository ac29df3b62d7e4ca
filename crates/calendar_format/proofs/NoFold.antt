-- No line of a calendar begins with a blank, so no fold stands in it. Assumes nothing.
use Prim.Native.Nat.{ℕ}
use mathlib.Core.Path.{◌≡◌, refl, ap, ◌∙◌}
use mathlib.Core.Bool.{Bool, true, false, not, ◌&&◌}
use mathlib.Core.List.{List, [], ◌∷◌, ◌++◌}
use native.Mathlib.Omega.{arith}
use lib.Dec.{eqb, leb}
use borrow.Author.Tests.{ne_eqb, leb-true, not-true}
use Rattle.basics.specs.Tests.{all}
use Rattle.basics.proofs.Bools.{either, and_left, and_right}
use Rattle.decimals.specs.Decimals.{digits}
use Rattle.calendar_format.specs.Folding.{is_blank, fold_here, no_fold}
use Rattle.calendar_format.specs.DateTexts.{date_text}
use Rattle.calendar_format.specs.Stamps.{is_stamp}
use Rattle.calendar_format.specs.Format.{Duty, header, opening, closing, named, starts, called, closed, event, events, object}
use Rattle.calendar_format.proofs.RowLaws.{figure, digits_figures}
use Rattle.calendar_format.proofs.DateTextLaws.{date_figures}
use Rattle.calendar_format.proofs.StampLaws.{stamp_figures}
use Rattle.calendar_format.proofs.EventLaws.{event-all, events_none, events-more}

-- no blank behind a line feed; the first argument says that one has just gone by
calm : Bool → List ℕ → Bool
calm a [] = true
calm a (b ∷ l) = not (a && is_blank b) && calm (eqb b 10) l

calm_here : (a : ℕ) (l : List ℕ) → calm (eqb a 10) l ≡ true → fold_here (a ∷ l) ≡ false
unfolding calm fold_here
calm_here a [] h = refl
calm_here a (b ∷ []) h = refl
calm_here a (b ∷ c ∷ l) h =
    let k = not-true (eqb b 10 && is_blank c) (and_left (not (eqb b 10 && is_blank c)) _ (and_right (not (eqb a 10 && is_blank b)) _ h)) in
    either (eqb a 13) (λ t. rw t k) (λ f. rw f)

calm_no_fold : (a : Bool) (l : List ℕ) → calm a l ≡ true → no_fold l ≡ true
unfolding calm no_fold
calm_no_fold a [] h = refl
calm_no_fold a (b ∷ l) h =
    let g = and_right (not (a && is_blank b)) _ h in
    rw (calm_here b l g) (calm_no_fold (eqb b 10) l g)

calm_run : (xs ys : List ℕ) → all figure xs ≡ true → calm false (xs ++ ys) ≡ calm false ys
unfolding all calm
calm_run [] ys h = refl
calm_run (x ∷ xs) ys h =
    let k = leb-true 48 x (and_left (leb 48 x) _ h) in
    rw (ne_eqb x 10 (λ e. omega arith)) (calm_run xs ys (and_right (leb 48 x) _ h))

at_header : (ys : List ℕ) → calm false (header ++ ys) ≡ calm true ys
unfolding calm header is_blank
at_header ys = refl

at_closing : calm true closing ≡ true
unfolding calm closing is_blank
at_closing = refl

at_opening : (ys : List ℕ) → calm true (opening ++ ys) ≡ calm false ys
unfolding calm opening is_blank
at_opening ys = refl

at_named : (ys : List ℕ) → calm false (named ++ ys) ≡ calm false ys
unfolding calm named is_blank
at_named ys = refl

at_hyphen : (ys : List ℕ) → calm false (45 ∷ ys) ≡ calm false ys
unfolding calm is_blank
at_hyphen ys = refl

at_starts : (ys : List ℕ) → calm false (starts ++ ys) ≡ calm false ys
unfolding calm starts is_blank
at_starts ys = refl

at_called : (ys : List ℕ) → calm false (called ++ ys) ≡ calm false ys
unfolding calm called is_blank
at_called ys = refl

at_closed : (ys : List ℕ) → calm false (closed ++ ys) ≡ calm true ys
unfolding calm closed is_blank
at_closed ys = refl

calm_event : (s : List ℕ) (r d : ℕ) (t : List ℕ) → is_stamp s ≡ true → calm true (event s r d ++ t) ≡ calm true t
calm_event s r d t i =
    ap (calm true) (event-all s r d t)
    ∙ at_opening _
    ∙ calm_run s _ (stamp_figures s i)
    ∙ at_named _
    ∙ calm_run (digits r) _ (digits_figures r)
    ∙ at_hyphen _
    ∙ calm_run (date_text d) _ (date_figures d)
    ∙ at_starts _
    ∙ calm_run (date_text d) _ (date_figures d)
    ∙ at_called _
    ∙ calm_run (digits r) _ (digits_figures r)
    ∙ at_closed t

calm_events : (s : List ℕ) (D : List Duty) → is_stamp s ≡ true → calm true (events s D) ≡ true
calm_events s [] i = ap (calm true) (events_none s) ∙ at_closing
calm_events s (x ∷ D) i = ap (calm true) (events-more s x D) ∙ calm_event s x.row x.day (events s D) i ∙ calm_events s D i

pub object_no_fold : (s : List ℕ) (D : List Duty) → is_stamp s ≡ true → no_fold (object s D) ≡ true
unfolding object
object_no_fold s D i = calm_no_fold false (header ++ events s D) (at_header (events s D) ∙ calm_events s D i)
