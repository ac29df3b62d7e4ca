-- How long the lines of a walk can be: at most 512 moves of at most four edits, each line 50 bytes at most. Assumes nothing.
use Prim.Native.Nat.{ℕ, suc, ◌+◌, ◌-◌, ◌*◌, ◌≤◌, ◌<◌}
use mathlib.Core.Path.{◌≡◌, refl, sym, ap, subst, ◌∙◌}
use mathlib.Core.Logic.{⊎_elim}
use mathlib.Core.List.Memᴰ
use mathlib.Core.List.Memᴰ.{head as here}
use mathlib.Core.List.Memᴰ.{tail as there}
use mathlib.Core.List.{List, [], ◌∷◌, ◌++◌}
use Rattle.std.specs.Prelude.{Option, None, Some, Ok, Err}
use native.Mathlib.Nat.{mul-le-mul}
use lib.Dec.{eqb}
use native.Mathlib.Omega.{arith}
use lib.ListN.{length, drop, length-append, length-take, length-drop}
use lib.Seq.{length-sets}
use Rattle.basics.specs.Edits.{Edit, edits}
use Rattle.basics.proofs.Edits.{length-edits}
use Rattle.basics.proofs.Bools.{either}
use Rattle.basics.proofs.Lists.{◌∈◌}
use Rattle.rules.specs.Board.{Board}
use Rattle.rules.specs.Roster.{Roster}
use Rattle.rules.proofs.Passing.{passes_iff}
use Rattle.basics.specs.Tests.{all}
use Rattle.changed_edits.specs.Changed.{changed}
use Rattle.rematch_shift.specs.Shift.{shifted_values, not_empty, shift_edits}
use Rattle.rematch_shift.proofs.ShiftLaws.{length_shifted}
use Rattle.window_kinds.specs.declared.CycleWindowCursor.{CycleWindowCursor}
use Rattle.window_kinds.specs.Kinds.{rematching, first_cursor, new_by, new_cursor, positions, window_at, ahead, shift_of, Fitting, and_move, moves_of, Position}
use Rattle.window_kinds.proofs.CursorLaws.{first_fits}
use Rattle.window_kinds.proofs.AheadLaws.{ahead-starts}
use Rattle.window_kinds.proofs.PositionLaws.{position_iff, positions_few}
use Rattle.window_kinds.proofs.Walked.{rematching_walks}
use Rattle.assignment_cycle.specs.Windows.{move_at}
use borrow.Author.Tests.{le-leb}
use Rattle.refusals.specs.Refusals.{Answered}
use Rattle.refusals.specs.declared.Refusal.{Refusal}
use Rattle.assignment_cycle.proofs.MoveLaws.{move_told}
use Rattle.decimals.proofs.DigitLaws.{digits_three}
use Rattle.listing_format.specs.Format.{line_end}
use Rattle.listing_text.specs.Output.{edit_line, move_lines, moves_from, output_header, listing_text}
use Rattle.written_text.specs.Wrote.{Wrote}
use Rattle.written_text.proofs.WroteLaws.{joined}
use Rattle.listing_text.proofs.TextLaws.{edit_long}
use Rattle.listing_moves.specs.WalkText.{moves_ahead, Room, Bounded}

-- ---- lines of small numbers

abbrev SmallEdit : Edit → Type 0
SmallEdit e = (e.row < 1000) × (e.value < 1000)

abbrev SmallMove : List Edit → Type 0
SmallMove L = (length L ≤ 4) × ((e : Edit) → e ∈ L → SmallEdit e)

line_short : (number : ℕ) (e : Edit) → number < 1000 → SmallEdit e → length (edit_line number e) ≤ 50
line_short number e n s = omega (arith, edit_long number e.row e.value, digits_three number n, digits_three e.row s.0, digits_three e.value s.1)

move_short : (number : ℕ) → number < 1000 → (L : List Edit) → ((e : Edit) → e ∈ L → SmallEdit e) → length (move_lines number L) ≤ 50 * length L
unfolding move_lines
move_short number n [] f = omega arith
move_short number n (e ∷ L) f =
    omega (
      arith,
      length-append (edit_line number e) (move_lines number L),
      line_short number e n (f e (here refl)),
      move_short number n L (λ d m. f d (there m)),
    )

moves_short : (moves : List (List Edit)) (number : ℕ) → number + length moves ≤ 1000 → ((L : List Edit) → L ∈ moves → SmallMove L) → length (moves_from number moves) ≤ 200 * length moves
unfolding moves_from
moves_short [] number n f = omega arith
moves_short (L ∷ moves) number n f =
    let s = f L (here refl) in
    omega (
      arith,
      length-append (move_lines number L) (moves_from (number + 1) moves),
      move_short number (omega arith) L s.1,
      s.0,
      moves_short moves (number + 1) (omega arith) (λ M m. f M (there m)),
    )

-- ---- the moves of some variants

and_move_few : (o : Option (List Edit)) (later : List (List Edit)) → length (and_move o later) ≤ suc (length later)
and_move_few None later = omega arith
and_move_few (Some L) later = omega arith

module _ (move : CycleWindowCursor → Option (List Edit)) where
  moves_few : (cs : List CycleWindowCursor) → length (moves_of move cs) ≤ length cs
  unfolding moves_of
  moves_few [] = omega arith
  moves_few (c ∷ cs) = omega (arith, and_move_few (move c) (moves_of move cs), moves_few cs)

  -- each is the move of a variant
  from_variant : (L : List Edit) (cs : List CycleWindowCursor) → L ∈ moves_of move cs → (c : CycleWindowCursor) × (c ∈ cs) × (move c ≡ Some L)
  unfolding moves_of
  from_variant L [] m = absurd (Memᴰ.not-nil m)
  from_variant L (c ∷ cs) m = go (move c) refl m (λ k. let (d, n, e) = from_variant L cs k in (d, there n, e))
    where
      go : (o : Option (List Edit)) → move c ≡ o → L ∈ and_move o (moves_of move cs)
          → (L ∈ moves_of move cs → (d : CycleWindowCursor) × (d ∈ (c ∷ cs)) × (move d ≡ Some L))
          → (d : CycleWindowCursor) × (d ∈ (c ∷ cs)) × (move d ≡ Some L)
      go None e k later = later k
      go (Some M) e k later = ⊎_elim (λ q. (c, here refl, e ∙ ap Some (sym q))) later (Memᴰ.cases_cons k)

-- ---- the moves of a walk

changed_few : (h : Roster) (L : List Edit) → length (changed h L) ≤ length L
unfolding changed
changed_few h [] = omega arith
changed_few h (e ∷ L) =
    let few = changed_few h L in
    either (eqb e.value (h e.row)) (λ t. rw t (omega arith)) (λ f. rw f (omega arith))

shift_few : (h : Roster) (W : List ℕ) (d : ℕ) → length (shift_edits h W d) ≤ length W
unfolding shift_edits
shift_few h W d =
    let values = shifted_values h W d in
    either (all not_empty values)
    (λ t. rw t (omega (arith, changed_few h (edits W values), length-edits W values (sym (length_shifted h W d)))))
    (λ f. rw f (omega arith))

window_few : (order : List ℕ) (c : CycleWindowCursor) → length (window_at order c) ≤ c.length
window_few order c = omega (arith, length-take c.length (drop c.start order))

window_in : (order : List ℕ) (c : CycleWindowCursor) → length (window_at order c) ≤ length order
window_in order c = omega (arith, length-take c.length (drop c.start order), length-drop c.start order)

-- a move of a walk has no more edits than the order has rows
pub move_fits : (B : Board) (h : Roster) (order : List ℕ) (c : CycleWindowCursor) (L : List Edit) → L ∈ moves_ahead B h order c → length L ≤ length order
unfolding move_at
move_fits B h order c L m =
    let (d, k, e) = from_variant (move_at B h order) L (ahead rematching (length order) c) m in
    let t = move_told B h (window_at order d) (shift_of d) L e in
    omega (arith, ap length t.0, shift_few h (window_at order d) (shift_of d), window_in order d)

module _ (B : Board) (h : Roster) (order : List ℕ) (few : length order ≤ 128)
    (bounded : Bounded B) where
  abbrev first : CycleWindowCursor
  first = first_cursor rematching (length order) 4

  all-ahead : ahead rematching (length order) first ≡ positions rematching (length order) first.longest
  all-ahead = ahead-starts rematching rematching_walks (length order) 0 first.longest

  small_move : (L : List Edit) (c : CycleWindowCursor) → Position rematching (length order) first.longest c → move_at B h order c ≡ Some L → SmallMove L
  unfolding move_at
  small_move L c p e =
      let t = move_told B h (window_at order c) (shift_of c) L e in
      let proper = ((passes_iff B h L).0 t.2).0 in (
        omega (arith, ap length t.0, shift_few h (window_at order c) (shift_of c), window_few order c, p.fits),
        λ d m. bounded.small d.row d.value (proper.each d m).legal,
      )

  at_most : length (moves_ahead B h order first) ≤ 512
  at_most =
      omega (
        arith,
        moves_few (move_at B h order) (ahead rematching (length order) first),
        ap length all-ahead,
        positions_few rematching (length order) first.longest 2 (λ l b. omega arith),
        mul-le-mul {n₁ = length order} {m₁ = (suc first.longest - 3) * 2} {n₂ = 128} {m₂ = 4} few (omega arith),
      )

  each_small : (L : List Edit) → L ∈ moves_ahead B h order first → SmallMove L
  each_small L m =
      let (c, k, e) = from_variant (move_at B h order) L (ahead rematching (length order) first) m in
      small_move L c ((position_iff rematching (length order) first.longest rematching_walks c).0 (subst (λ (cs : List CycleWindowCursor). c ∈ cs) all-ahead k)) e

  -- 102,400 bytes are room enough
  pub room-enough : (from : ℕ) (out : List ℕ) → from + 102400 ≤ length out → Room (moves_ahead B h order first) from out
  room-enough from out r =
      let n = at_most in
      record {
        few = omega arith;
        lines = omega (arith, moves_short (moves_ahead B h order first) 1 (omega arith) each_small);
      }

-- ---- the cursor that a walk begins with

pub new_is : (count : ℕ) (r : Answered CycleWindowCursor) (c : CycleWindowCursor) → count ≤ 128 → r ≡ new_cursor rematching count 4 → r ≡ Ok c → c ≡ first_cursor rematching count 4
unfolding new_by
new_is count r c h e q = let w : r ≡ Ok (first_cursor rematching count 4) = e ∙ rw (le-leb count 128 h) in cc

pub new_refused : (count : ℕ) (r : Answered CycleWindowCursor) (n : Refusal) → count ≤ 128 → r ≡ new_cursor rematching count 4 → r ≡ Err n → ⊥
unfolding new_by
new_refused count r n h e q =
    let w : r ≡ Ok (first_cursor rematching count 4) = e ∙ rw (le-leb count 128 h) in
    cc

-- ---- the header and the lines

pub header_long : length (output_header ++ line_end) ≡ 23
unfolding output_header
header_long = refl

pub whole : (s t u : List ℕ) (a b : ℕ) (moves : List (List Edit)) → Wrote s 0 (output_header ++ line_end) t a → Wrote t a (moves_from 1 moves) u b → Wrote s 0 (listing_text moves) u b
unfolding listing_text
whole s t u a b moves p q = joined s t u 0 a b (output_header ++ line_end) (moves_from 1 moves) p q

module _ (B : Board) (h : Roster) (order : List ℕ) (c : CycleWindowCursor) (f : c ≡ first_cursor rematching (length order) 4) where
  pub begins_so : Fitting rematching (length order) c
  begins_so = rw f (first_fits rematching (length order) 4)

  pub roomy_so : length order ≤ 128 → Bounded B → (s t : List ℕ) (from : ℕ) → Wrote s 0 (output_header ++ line_end) t from → 102423 ≤ length s → Room (moves_ahead B h order c) from t
  roomy_so few bounded s t from w r =
      rw f (room-enough B h order few bounded from t (omega (arith, w.place, header_long, ap length w.bytes, length-sets s 0 (output_header ++ line_end))))

  pub listed : (s t u : List ℕ) (a b : ℕ) → Wrote s 0 (output_header ++ line_end) t a → Wrote t a (moves_from 1 (moves_ahead B h order c)) u b
      → Wrote s 0 (listing_text (moves_ahead B h order (first_cursor rematching (length order) 4))) u b
  listed s t u a b p q = whole s t u a b (moves_ahead B h order (first_cursor rematching (length order) 4)) p (subst (λ (d : CycleWindowCursor). Wrote t a (moves_from 1 (moves_ahead B h order d)) u b) f q)
