-- The pieces of an event, and the events one by one. Assumes nothing.
use Prim.Native.Nat.{ℕ, ◌+◌, ◌≤◌, ◌<◌}
use mathlib.Core.Path.{◌≡◌, refl, sym, ap, ◌∙◌}
use mathlib.Core.List.{List, [], ◌∷◌, ◌++◌, append_assoc, append-nil}
use native.Mathlib.Omega.{arith}
use lib.ListN.{length, get_or, drop, length-append}
use Rattle.outputs.proofs.Writing.{Writing, room, turned}
use Rattle.decimals.specs.Decimals.{digits}
use Rattle.written_text.specs.Wrote.{Wrote}
use Rattle.written_text.proofs.WroteLaws.{written}
use Rattle.calendar_format.specs.DateTexts.{date_text}
use Rattle.calendar_format.specs.Format.{header, opening, named, starts, called, closed, closing, lead, rest, event, events, object}
use Rattle.calendar_format.specs.Slices.{paired}
use Rattle.calendar_format.proofs.DateTextLaws.{date_long}
use Rattle.calendar_format.proofs.SliceLaws.{paired-from, paired_end}
use Rattle.calendar_format.proofs.EventLaws.{events_none, events-more}

module _ (s : List ℕ) (r : ℕ) where
  pub lead_pieces : (((opening ++ s) ++ named) ++ digits r) ++ (45 ∷ []) ≡ lead s r
  unfolding lead
  lead_pieces = simp append_assoc

  pub lead_long : length (lead s r) ≡ 22 + (length s + (20 + (length (digits r) + 1)))
  unfolding lead opening named
  lead_long = simp length-append (omega arith)

module _ (r d : ℕ) where
  pub rest_pieces : (((starts ++ date_text d) ++ called) ++ digits r) ++ closed ≡ rest r d
  unfolding rest
  rest_pieces = simp append_assoc

  pub rest_long : length (rest r d) ≡ 21 + (8 + (15 + (length (digits r) + 14)))
  unfolding rest starts called closed
  rest_long = simp length-append (omega (arith, date_long d))

module _ (s : List ℕ) (r d : ℕ) where
  pub event_pieces : (lead s r ++ date_text d) ++ rest r d ≡ event s r d
  unfolding event
  event_pieces = append_assoc (lead s r) (date_text d) (rest r d)

  pub event_long_lem : length (event s r d) ≡ length (lead s r) + (8 + length (rest r d))
  unfolding event
  event_long_lem = simp length-append (omega (arith, date_long d))

-- ---- the events, one a turn

module _ (stamp rs ds : List ℕ) (i : ℕ) where
  abbrev left : ℕ → List ℕ
  left j = events stamp (paired (drop j rs) (drop j ds))

  abbrev here : List ℕ
  here = event stamp (get_or rs i 0) (get_or ds i 0)

  event_turn : length rs ≡ length ds → i < length rs → left i ≡ here ++ left (i + 1)
  event_turn h l = ap (events stamp) (paired-from rs ds i h l) ∙ events-more stamp _ _

  module _ (s t : List ℕ) (a b : ℕ) (w : Writing s a (left i) t b (events stamp (paired rs ds))) where
    pub event-room : length rs ≡ length ds → i < length rs → b + length (events stamp (paired rs ds)) ≤ length t → a + length here ≤ length s
    event-room h l = room _ _ _ _ _ _ w here (left (i + 1)) (event_turn h l)

    pub event-written : length rs ≡ length ds → i < length rs → (u : List ℕ) (c : ℕ) → Wrote s a here u c
        → Writing u c (left (i + 1)) t b (events stamp (paired rs ds))
    event-written h l u c e = turned _ _ _ _ _ _ w here (left (i + 1)) (event_turn h l) c u (e.place, e.bytes)

    none_left : length rs ≤ i → left i ≡ closing
    none_left l = ap (events stamp) (paired_end rs ds i l) ∙ events_none stamp

    pub closing-room : length rs ≤ i → b + length (events stamp (paired rs ds)) ≤ length t → a + length closing ≤ length s
    closing-room l = room _ _ _ _ _ _ w closing [] (none_left l ∙ sym (append-nil closing))

    pub closing-written : length rs ≤ i → (u : List ℕ) (c : ℕ) → Wrote s a closing u c → Wrote t b (events stamp (paired rs ds)) u c
    closing-written l u c e =
        written _ _ _ _ _ _ (turned _ _ _ _ _ _ w closing [] (none_left l ∙ sym (append-nil closing)) c u (e.place, e.bytes)) refl

pub object_long_lem : (s rs ds : List ℕ) → length (object s (paired rs ds)) ≡ 63 + length (events s (paired rs ds))
unfolding object header
object_long_lem s rs ds = simp length-append (omega arith)
