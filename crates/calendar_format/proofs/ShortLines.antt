-- No line of a calendar reaches 75 octets, so none is folded. Assumes nothing.
use Prim.Native.Nat.{ℕ, suc, ◌+◌, ◌≤◌, ◌<◌}
use mathlib.Core.Path.{◌≡◌, refl, sym, ap, ◌∙◌}
use mathlib.Core.Bool.{Bool, true, false, not}
use mathlib.Core.List.{List, [], ◌∷◌, ◌++◌}
use native.Mathlib.Omega.{arith}
use lib.Dec.{eqb, leb, ltb}
use lib.ListN.{length, drop}
use borrow.Author.Tests.{lt-ltb, ne_eqb, not-true, leb-true}
use Rattle.basics.specs.Tests.{all}
use Rattle.basics.proofs.Bools.{and_left, and_right}
use Rattle.decimals.specs.Decimals.{digits}
use Rattle.decimals.proofs.DigitLaws.{digits_three}
use Rattle.calendar_format.specs.DateTexts.{date_text}
use Rattle.calendar_format.specs.Stamps.{is_stamp}
use Rattle.calendar_format.specs.Format.{Duty, short_from, header, opening, closing, named, starts, called, closed, event, events, standing}
use Rattle.calendar_format.proofs.RowLaws.{figure, digits_figures}
use Rattle.calendar_format.proofs.DateTextLaws.{date_long, date_figures}
use Rattle.calendar_format.proofs.StampLaws.{stamp_long, stamp_figures}
use Rattle.calendar_format.proofs.StandingLaws.{stands}
use Rattle.calendar_format.proofs.EventLaws.{event-all, events_none, events-more}

-- no line feed
abbrev no_line_feed : ℕ → Bool
no_line_feed b = not (eqb b 10)

short_run : (used : ℕ) (xs ys : List ℕ) → all no_line_feed xs ≡ true → used + length xs ≤ 75 → short_from used (xs ++ ys) ≡ short_from (used + length xs) ys
unfolding all short_from
short_run used [] ys p h = let e : used + 0 ≡ used = omega arith in rw e
short_run used (x ∷ xs) ys p h =
    let n : eqb x 10 ≡ false = not-true (eqb x 10) (and_left (not (eqb x 10)) _ p) in
    let t : ltb used 75 ≡ true = lt-ltb used 75 (omega arith) in
    let e : used + suc (length xs) ≡ suc used + length xs = omega arith in
    rw (n, t) (short_run (suc used) xs ys (and_right (not (eqb x 10)) _ p) (omega arith) ∙ ap (λ (k : ℕ). short_from k ys) (sym e))

short_break : (used : ℕ) (ys : List ℕ) → used < 75 → short_from used (13 ∷ 10 ∷ ys) ≡ short_from 0 ys
unfolding short_from
short_break used ys h = rw (lt-ltb used 75 h)

figures_stay : (xs : List ℕ) → all figure xs ≡ true → all no_line_feed xs ≡ true
unfolding all
figures_stay [] h = refl
figures_stay (x ∷ xs) h =
    let k = leb-true 48 x (and_left (leb 48 x) _ h) in
    rw (ne_eqb x 10 (λ e. omega arith)) (figures_stay xs (and_right (leb 48 x) _ h))

-- the fixed texts; behind a line end the count begins again
pub at_header : (ys : List ℕ) → short_from 0 (header ++ ys) ≡ short_from 0 ys
unfolding short_from header
at_header ys = refl

at_closing : short_from 0 closing ≡ true
unfolding short_from closing
at_closing = refl

at_opening : (ys : List ℕ) → short_from 0 (opening ++ ys) ≡ short_from 8 ys
unfolding short_from opening
at_opening ys = refl

on_named : (ys : List ℕ) → short_from 0 (drop 2 named ++ ys) ≡ short_from 18 ys
unfolding short_from named
on_named ys = refl

at_named : (used : ℕ) (ys : List ℕ) → used < 75 → short_from used (named ++ ys) ≡ short_from 18 ys
unfolding named
at_named used ys h = short_break used (drop 2 named ++ ys) h ∙ on_named ys

on_starts : (ys : List ℕ) → short_from 0 (drop 2 starts ++ ys) ≡ short_from 19 ys
unfolding short_from starts
on_starts ys = refl

at_starts : (used : ℕ) (ys : List ℕ) → used < 75 → short_from used (starts ++ ys) ≡ short_from 19 ys
unfolding starts
at_starts used ys h = short_break used (drop 2 starts ++ ys) h ∙ on_starts ys

on_called : (ys : List ℕ) → short_from 0 (drop 2 called ++ ys) ≡ short_from 13 ys
unfolding short_from called
on_called ys = refl

at_called : (used : ℕ) (ys : List ℕ) → used < 75 → short_from used (called ++ ys) ≡ short_from 13 ys
unfolding called
at_called used ys h = short_break used (drop 2 called ++ ys) h ∙ on_called ys

on_closed : (ys : List ℕ) → short_from 0 (drop 2 closed ++ ys) ≡ short_from 0 ys
unfolding short_from closed
on_closed ys = refl

at_closed : (used : ℕ) (ys : List ℕ) → used < 75 → short_from used (closed ++ ys) ≡ short_from 0 ys
unfolding closed
at_closed used ys h = short_break used (drop 2 closed ++ ys) h ∙ on_closed ys

at_hyphen : (used : ℕ) (ys : List ℕ) → used < 75 → short_from used (45 ∷ ys) ≡ short_from (suc used) ys
unfolding short_from
at_hyphen used ys h = rw (lt-ltb used 75 h)

short_event : (s : List ℕ) (r d : ℕ) (t : List ℕ) → is_stamp s ≡ true → r < 1000 → short_from 0 (event s r d ++ t) ≡ short_from 0 t
short_event s r d t i l =
    let ls = stamp_long s i in
    let ld = date_long d in
    let lr = digits_three r l in
    let pr = figures_stay (digits r) (digits_figures r) in
    ap (short_from 0) (event-all s r d t)
    ∙ at_opening _
    ∙ short_run 8 s _ (figures_stay s (stamp_figures s i)) (omega arith)
    ∙ at_named (8 + length s) _ (omega arith)
    ∙ short_run 18 (digits r) _ pr (omega arith)
    ∙ at_hyphen (18 + length (digits r)) _ (omega arith)
    ∙ short_run (suc (18 + length (digits r))) (date_text d) _ (figures_stay (date_text d) (date_figures d)) (omega arith)
    ∙ at_starts (suc (18 + length (digits r)) + length (date_text d)) _ (omega arith)
    ∙ short_run 19 (date_text d) _ (figures_stay (date_text d) (date_figures d)) (omega arith)
    ∙ at_called (19 + length (date_text d)) _ (omega arith)
    ∙ short_run 13 (digits r) _ pr (omega arith)
    ∙ at_closed (13 + length (digits r)) t (omega arith)

pub short_events : (s : List ℕ) (r : ℕ) (D : List Duty) → is_stamp s ≡ true → standing 128 r D ≡ true → short_from 0 (events s D) ≡ true
short_events s r [] i h = ap (short_from 0) (events_none s) ∙ at_closing
short_events s r (x ∷ D) i h =
    let c = stands 128 r x D h in
    ap (short_from 0) (events-more s x D) ∙ short_event s x.row x.day (events s D) i (omega (arith, c.below)) ∙ short_events s (suc x.row) D i c.more
