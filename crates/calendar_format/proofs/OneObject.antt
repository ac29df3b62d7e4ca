-- No two lists of duties have the same events with one stamp; rows may stand in any order. Assumes nothing.
use Prim.Native.Nat.{ℕ, ◌^◌}
use mathlib.Core.Path.{◌≡◌, refl, sym, ap, ap₂, ◌∙◌}
use mathlib.Core.Bool.{true, ◌&&◌}
use mathlib.Core.List.{List, [], ◌∷◌, ◌++◌}
use Rattle.std.specs.Prelude.{Option, Some}
use lib.Dec.{leb, ltb}
use borrow.Author.Tests.{leb-true, ltb-true}
use Rattle.basics.specs.Tests.{all}
use Rattle.basics.proofs.Bools.{and_left, and_right}
use Rattle.civil_dates.specs.Dates.{last_day}
use Rattle.calendar_format.specs.Format.{Duty, event, events}
use Rattle.calendar_format.specs.Reading.{event_at}
use Rattle.calendar_format.proofs.AfterLaws.{some_pair}
use Rattle.calendar_format.proofs.EventLaws.{events_none, events-more, event-same, event-row, not_closing}

-- rows below 2^64, and days that can be written
abbrev pub Plain : List Duty → Type 0
Plain D = all (λ (x : Duty). ltb x.row (2 ^ 64) && leb x.day last_day) D ≡ true

pub same-events : (s : List ℕ) (D E : List Duty) → Plain D → Plain E → events s D ≡ events s E → D ≡ E
unfolding all
same-events s [] [] p q h = refl
same-events s [] (y ∷ E) p q h = absurd (not_closing s y.row y.day (events s E) (sym (events_none s) ∙ h ∙ events-more s y E))
same-events s (x ∷ D) [] p q h = absurd (not_closing s x.row x.day (events s D) (sym (events_none s) ∙ sym h ∙ events-more s x D))
same-events s (x ∷ D) (y ∷ E) p q h =
    let g : event s x.row x.day ++ events s D ≡ event s y.row y.day ++ events s E = sym (events-more s x D) ∙ h ∙ events-more s y E in
    let px = and_left (ltb x.row (2 ^ 64) && leb x.day last_day) _ p in
    let qy = and_left (ltb y.row (2 ^ 64) && leb y.day last_day) _ q in
    let rows : x.row ≡ y.row = event-row s x.row y.row x.day y.day (events s D) (events s E) (ltb-true x.row (2 ^ 64) (and_left _ _ px)) (ltb-true y.row (2 ^ 64) (and_left _ _ qy)) g in
    let f : event s x.row x.day ++ events s D ≡ event s x.row y.day ++ events s E = g ∙ ap (λ (r : ℕ). event s r y.day ++ events s E) (sym rows) in
    let o : ◌≡◌ {A = Option (ℕ × List ℕ)} (Some (x.day, events s D)) (Some (y.day, events s E)) =
    sym (event-same s x.row x.day (events s D) (leb-true x.day last_day (and_right (ltb x.row (2 ^ 64)) _ px)))
    ∙ ap (event_at s x.row) f
    ∙ event-same s x.row y.day (events s E) (leb-true y.day last_day (and_right (ltb y.row (2 ^ 64)) _ qy)) in
    let w = some_pair x.day y.day (events s D) (events s E) o in
    let days : x.day ≡ y.day = ap (λ (v : ℕ × List ℕ). v.0) w in
    let more : events s D ≡ events s E = ap (λ (v : ℕ × List ℕ). v.1) w in
    ap₂ ◌∷◌ (ap₂ (λ (r d : ℕ). record { row = r; day = d }) rows days) (same-events s D E (and_right (ltb x.row (2 ^ 64) && leb x.day last_day) _ p) (and_right (ltb y.row (2 ^ 64) && leb y.day last_day) _ q) more)
