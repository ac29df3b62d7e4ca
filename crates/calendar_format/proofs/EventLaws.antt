-- An event is read exactly where it stands, and no text begins with the events of two rows. Assumes nothing.
use Prim.Native.Nat.{ℕ, ◌^◌, ◌≤◌, ◌<◌}
use mathlib.Core.Path.{◌≡◌, refl, sym, ap, ap₂, ◌∙◌}
use mathlib.Core.Logic.{◌↔◌}
use mathlib.Core.List.{List, [], ◌∷◌, ◌++◌, append_assoc, append_cancel_left}
use Rattle.std.specs.Prelude.{Some}
use native.Mathlib.Omega.{arith}
use lib.ListN.{take, drop, take-append-drop}
use lib.Seq.{take_at, drop_at}
use Rattle.decimals.specs.Decimals.{digits}
use Rattle.civil_dates.specs.Dates.{last_day}
use Rattle.calendar_format.specs.Texts.{after}
use Rattle.calendar_format.specs.DateTexts.{date_text, day_of}
use Rattle.calendar_format.specs.Format.{Duty, opening, named, starts, called, closed, closing, lead, rest, event, events}
use Rattle.calendar_format.specs.Reading.{event_at}
use Rattle.calendar_format.proofs.AfterLaws.{after_form, after_same, then_form, then_some, some_pair}
use Rattle.calendar_format.proofs.DateTextLaws.{date_long, day_iff}
use Rattle.calendar_format.proofs.RowLaws.{same_row}

-- ---- the text, piece by piece

pub event-all : (s : List ℕ) (r d : ℕ) (t : List ℕ)
    → event s r d ++ t ≡ opening ++ (s ++ (named ++ (digits r ++ (45 ∷ (date_text d ++ (starts ++ (date_text d ++ (called ++ (digits r ++ (closed ++ t))))))))))
unfolding event lead rest
event-all s r d t = simp append_assoc

pub events_none : (s : List ℕ) → events s [] ≡ closing
unfolding events
events_none s = refl

pub events-more : (s : List ℕ) (x : Duty) (D : List Duty) → events s (x ∷ D) ≡ event s x.row x.day ++ events s D
unfolding events
events-more s x D = refl

pub event-then : (s : List ℕ) (r d : ℕ) (t : List ℕ) → event s r d ++ t ≡ lead s r ++ (date_text d ++ (rest r d ++ t))
unfolding event
event-then s r d t = append_assoc (lead s r) _ t ∙ ap (λ (x : List ℕ). lead s r ++ x) (append_assoc (date_text d) (rest r d) t)

-- ---- reading it

joined : (s : List ℕ) (r c d : ℕ) (l m n t : List ℕ) → after (lead s r) l ≡ Some m → day_of (take 8 m) ≡ Some c → after (rest r c) (drop 8 m) ≡ Some n
    → ◌≡◌ {A = ℕ × List ℕ} (c, n) (d, t) → (d ≤ last_day) × (l ≡ event s r d ++ t)
joined s r c d l m n t em ec en q =
    let qc : c ≡ d = ap (λ (w : ℕ × List ℕ). w.0) q in
    let qn : n ≡ t = ap (λ (w : ℕ × List ℕ). w.1) q in
    let (k, f) = (day_iff (take 8 m) c).0 ec in
    let fm : m ≡ date_text c ++ (rest r c ++ n) = sym (take-append-drop 8 m) ∙ ap₂ ◌++◌ f (after_form (rest r c) (drop 8 m) n en) in
    let fl : l ≡ event s r c ++ n = after_form (lead s r) l m em ∙ ap (λ (x : List ℕ). lead s r ++ x) fm ∙ sym (event-then s r c n) in
    (rw qc at k, fl ∙ ap₂ (λ (x : ℕ) (y : List ℕ). event s r x ++ y) qc qn)

pub event_form : (s : List ℕ) (r : ℕ) (l : List ℕ) (d : ℕ) (t : List ℕ) → event_at s r l ≡ Some (d, t) → (d ≤ last_day) × (l ≡ event s r d ++ t)
unfolding event_at
event_form s r l d t h =
    let (m, em, hm) = then_form (after (lead s r) l) _ (d, t) h in
    let (c, ec, hc) = then_form (day_of (take 8 m)) _ (d, t) hm in
    let (n, en, hn) = then_form (after (rest r c) (drop 8 m)) _ (d, t) hc in
    joined s r c d l m n t em ec en (some_pair c d n t hn)

pub event-same : (s : List ℕ) (r d : ℕ) (t : List ℕ) → d ≤ last_day → event_at s r (event s r d ++ t) ≡ Some (d, t)
unfolding event_at
event-same s r d t k =
    let m : List ℕ = date_text d ++ (rest r d ++ t) in
    let tm : take 8 m ≡ date_text d = take_at (date_text d) (rest r d ++ t) 8 (date_long d) in
    let dm : drop 8 m ≡ rest r d ++ t = drop_at (date_text d) (rest r d ++ t) 8 (date_long d) in
    ap (event_at s r) (event-then s r d t)
    ∙ then_some (after (lead s r) (lead s r ++ m)) _ m (after_same (lead s r) m)
    ∙ then_some (day_of (take 8 m)) _ d ((day_iff (take 8 m) d).1 (k, tm))
    ∙ then_some (after (rest r d) (drop 8 m)) _ t (ap (after (rest r d)) dm ∙ after_same (rest r d) t)

pub event_iff : (s : List ℕ) (r : ℕ) (l : List ℕ) (d : ℕ) (t : List ℕ) → event_at s r l ≡ Some (d, t) ↔ ((d ≤ last_day) × (l ≡ event s r d ++ t))
event_iff s r l d t = (event_form s r l d t, λ (k, e). ap (event_at s r) e ∙ event-same s r d t k)

lead-then : (s : List ℕ) (r : ℕ) (t : List ℕ) → lead s r ++ t ≡ opening ++ (s ++ (named ++ (digits r ++ (45 ∷ t))))
unfolding lead
lead-then s r t = simp append_assoc

-- an event's stamp stands behind its opening
pub event-opening : (s : List ℕ) (r d : ℕ) (t : List ℕ) → (u : List ℕ) × (event s r d ++ t ≡ opening ++ (s ++ u))
event-opening s r d t = (_, event-then s r d t ∙ lead-then s r _)

-- no text begins with the events of two rows
pub event-row : (s : List ℕ) (r q d e : ℕ) (t u : List ℕ) → r < 2 ^ 64 → q < 2 ^ 64 → event s r d ++ t ≡ event s q e ++ u → r ≡ q
event-row s r q d e t u k m h =
    let w = sym (event-then s r d t ∙ lead-then s r _) ∙ h ∙ (event-then s q e u ∙ lead-then s q _) in
    same_row r q _ _ k m (append_cancel_left named _ _ (append_cancel_left s _ _ (append_cancel_left opening _ _ w)))

-- nor with an event and the end
pub not_closing : (s : List ℕ) (r d : ℕ) (t : List ℕ) → closing ≡ event s r d ++ t → ⊥
unfolding closing opening
not_closing s r d t h = let (u, e) = event-opening s r d t in
    let z : ◌≡◌ {A = ℕ} 69 66 = first (h ∙ e) in omega arith
  where
    first : {a b : ℕ} {x y : List ℕ} → a ∷ x ≡ b ∷ y → a ≡ b
    first h = cc
