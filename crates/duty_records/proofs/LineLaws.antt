-- A duty's line is short, and the lines come one a turn. Assumes nothing.
use Prim.Native.Nat.{ℕ, zero, suc, ◌+◌, ◌*◌, ◌/◌, ◌≤◌, ◌<◌}
use mathlib.Core.Path.{◌≡◌, refl, ap, ◌∙◌}
use mathlib.Core.List.{List, [], ◌∷◌, ◌++◌, append_assoc}
use native.Mathlib.Omega.{arith}
use lib.ListN.{length, get_or, drop, length-append}
use Rattle.basics.proofs.Bools.{by}
use Rattle.outputs.proofs.Writing.{Writing, turned}
use Rattle.decimals.specs.Decimals.{digits}
use Rattle.decimals.proofs.DigitLaws.{length_one, length_more}
use Rattle.written_text.specs.Wrote.{Wrote}
use Rattle.written_text.proofs.WroteLaws.{written}
use Rattle.calendar_format.specs.Texts.{tens}
use Rattle.calendar_format.specs.Format.{Duty}
use Rattle.calendar_format.specs.Slices.{duty, paired}
use Rattle.calendar_format.proofs.SliceLaws.{paired-from, paired_end}
use Rattle.duty_records.specs.Records.{duty_header, duty_line, duty_lines, duties_text}

-- ---- lengths

tenth : (n t : ℕ) → n < t * 10 → n / 10 < t
tenth n t h = omega arith

digits-within : (k n : ℕ) → n < tens (suc k) → length (digits n) ≤ suc k
unfolding tens
digits-within zero n h = omega (arith, length_one n (omega arith))
digits-within (suc k) n h =
    by n 10
    (λ l. omega (arith, length_one n l))
    (λ g. omega (arith, length_more n g, digits-within k (n / 10) (tenth n (tens (suc k)) h)))

twenty : tens 20 ≡ 100000000000000000000
unfolding tens
twenty = refl

pub digits_twenty : (n : ℕ) → n < 18446744073709551616 → length (digits n) ≤ 20
digits_twenty n l = digits-within 19 n (omega (arith, twenty))

module _ (r d : ℕ) where
  pub line_pieces : (digits r ++ (44 ∷ [])) ++ (digits d ++ (13 ∷ 10 ∷ [])) ≡ duty_line (duty r d)
  unfolding duty_line
  line_pieces = append_assoc (digits r) (44 ∷ []) _

  pub line_long : length (duty_line (duty r d)) ≡ (length (digits r) + 1) + (length (digits d) + 2)
  unfolding duty_line
  line_long = simp length-append (omega arith)

-- ---- the lines, one a turn

lines_none : duty_lines [] ≡ []
unfolding duty_lines
lines_none = refl

lines_more : (x : Duty) (D : List Duty) → duty_lines (x ∷ D) ≡ duty_line x ++ duty_lines D
unfolding duty_lines
lines_more x D = refl

module _ (rs ds : List ℕ) (i : ℕ) where
  abbrev left : ℕ → List ℕ
  left j = duty_lines (paired (drop j rs) (drop j ds))

  abbrev here : List ℕ
  here = duty_line (duty (get_or rs i 0) (get_or ds i 0))

  line_turn : length rs ≡ length ds → i < length rs → left i ≡ here ++ left (i + 1)
  line_turn h l = ap duty_lines (paired-from rs ds i h l) ∙ lines_more _ _

  module _ (s t : List ℕ) (a b : ℕ) (w : Writing s a (left i) t b (duty_lines (paired rs ds))) where
    pub line_written : length rs ≡ length ds → i < length rs → (u : List ℕ) (c : ℕ) → Wrote s a here u c → Writing u c (left (i + 1)) t b (duty_lines (paired rs ds))
    line_written h l u c e = turned _ _ _ _ _ _ w here (left (i + 1)) (line_turn h l) c u (e.place, e.bytes)

    pub lines-written : length rs ≤ i → Wrote t b (duty_lines (paired rs ds)) s a
    lines-written l = written _ _ _ _ _ _ w (ap duty_lines (paired_end rs ds i l) ∙ lines_none)

pub text_pieces : (D : List Duty) → (114 ∷ 111 ∷ 119 ∷ 44 ∷ 100 ∷ 97 ∷ 121 ∷ 13 ∷ 10 ∷ []) ++ duty_lines D ≡ duties_text D
unfolding duties_text duty_header
text_pieces D = refl
