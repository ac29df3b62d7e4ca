-- The lines of moves, piece by piece. Assumes nothing.
use Prim.Native.Nat.{ℕ, ◌+◌, ◌≤◌, ◌<◌}
use mathlib.Core.Path.{◌≡◌, refl}
use mathlib.Core.List.{List, [], ◌∷◌, ◌++◌, append_assoc}
use native.Mathlib.Numerals.{add-one}
use native.Mathlib.Omega.{arith}
use lib.ListN.{length, drop, length-append, drop_of_length-le}
use lib.Seq.{drop-cons}
use Rattle.basics.specs.Edits.{Edit, edits, edit_at}
use Rattle.outputs.proofs.Writing.{Writing, room, turned}
use Rattle.decimals.specs.Decimals.{digits}
use Rattle.written_text.specs.Wrote.{Wrote}
use Rattle.listing_text.specs.Output.{reason, refused_word, edit_line, move_lines, refusal_text}

-- ---- an edit's line, in four pieces

module _ (number row value : ℕ) where
  abbrev edit : Edit
  edit = record { row = row; value = value }

  pub four_pieces : reason ++ (44 ∷ []) ++ (digits number ++ (44 ∷ [])) ++ (digits row ++ (44 ∷ [])) ++ (digits value ++ (13 ∷ 10 ∷ [])) ≡ edit_line number edit
  unfolding edit_line
  four_pieces = simp append_assoc

  pub edit_long : length (edit_line number edit) ≡ 37 + (length (digits number) + 1) + (length (digits row) + 1) + (length (digits value) + 2)
  unfolding edit_line reason
  edit_long = simp length-append (omega arith)

pub two_pieces : (number : ℕ) → refused_word ++ (digits number ++ (13 ∷ 10 ∷ [])) ≡ refusal_text number
unfolding refusal_text
two_pieces number = refl

pub refusal_long : (number : ℕ) → length (refusal_text number) ≡ 8 + (length (digits number) + 2)
unfolding refusal_text refused_word
refusal_long number = simp length-append (omega arith)

-- ---- a move's lines, one edit a turn

module _ (number : ℕ) (rs vs : List ℕ) (i : ℕ) where
  pub edit_turn : length rs ≡ length vs → i < length rs
      → move_lines number (edits (drop i rs) (drop i vs)) ≡ edit_line number (edit_at rs vs i) ++ move_lines number (edits (drop (i + 1) rs) (drop (i + 1) vs))
  unfolding edits move_lines
  edit_turn h l = let k : i < length vs = omega arith in rw (drop-cons rs i 0 l, drop-cons vs i 0 k, add-one i)

  pub edit_end : length rs ≤ i → move_lines number (edits (drop i rs) (drop i vs)) ≡ []
  unfolding edits move_lines
  edit_end l = rw (drop_of_length-le rs l)

module _ (s t : List ℕ) (a b number : ℕ) (rs vs : List ℕ) (i : ℕ) (w : Writing s a (move_lines number (edits (drop i rs) (drop i vs))) t b (move_lines number (edits rs vs))) (h : length rs ≡ length vs) (l : i < length rs) where
  pub edit-room : b + length (move_lines number (edits rs vs)) ≤ length t → a + length (edit_line number (edit_at rs vs i)) ≤ length s
  edit-room r = room _ _ _ _ _ _ w (edit_line number (edit_at rs vs i)) (move_lines number (edits (drop (i + 1) rs) (drop (i + 1) vs))) (edit_turn number rs vs i h l) r

  pub edit-written : (u : List ℕ) (c : ℕ) → Wrote s a (edit_line number (edit_at rs vs i)) u c
      → Writing u c (move_lines number (edits (drop (i + 1) rs) (drop (i + 1) vs))) t b (move_lines number (edits rs vs))
  edit-written u c e = turned _ _ _ _ _ _ w (edit_line number (edit_at rs vs i)) (move_lines number (edits (drop (i + 1) rs) (drop (i + 1) vs))) (edit_turn number rs vs i h l) c u (e.place, e.bytes)
