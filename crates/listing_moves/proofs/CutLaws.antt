-- Moves that stand one behind the other, cut apart again and written one by one. Assumes nothing.
use Prim.Native.Nat.{ℕ, ◌+◌, ◌-◌, ◌≤◌, ◌<◌}
use mathlib.Core.Path.{◌≡◌, refl, sym, ap, subst, ◌∙◌}
use mathlib.Core.List.{List, [], ◌∷◌, ◌++◌, map, append_assoc}
use native.Mathlib.Nat.{add-zero}
use native.Mathlib.Numerals.{add-one}
use native.Mathlib.Omega.{arith}
use lib.ListN.{length, get_or, take, drop, drop_of_length-le, length-append, length-drop}
use lib.Seq.{drop-cons, drop-drop, take_at, drop_at, length-take-le}
use Rattle.basics.specs.Edits.{Edit, edits, rows_of, values_of}
use Rattle.basics.proofs.Edits.{rows_append, length_rows, length-values, edits-back}
use Rattle.outputs.proofs.Writing.{Writing, begun, room, turned, ended}
use Rattle.assignment_walk.specs.Runs.{joined}
use Rattle.assignment_walk.proofs.RunLaws.{values-append, joined-more}
use Rattle.listing_text.specs.Output.{move_lines, moves_from}
use Rattle.written_text.specs.Wrote.{Wrote}
use Rattle.listing_moves.specs.WalkText.{total, cut, Laid}

-- ---- lines

pub lines_more : (number : ℕ) (L : List Edit) (moves : List (List Edit)) → moves_from number (L ∷ moves) ≡ move_lines number L ++ moves_from (number + 1) moves
unfolding moves_from
lines_more number L moves = refl

pub lines_none : (number : ℕ) → moves_from number [] ≡ []
unfolding moves_from
lines_none number = refl

pub lines-append : (number : ℕ) (A M : List (List Edit)) → moves_from number (A ++ M) ≡ moves_from number A ++ moves_from (number + length A) M
lines-append number [] M = ap (λ (l : List ℕ). l ++ moves_from number M) (sym (lines_none number)) ∙ ap (λ (k : ℕ). moves_from number [] ++ moves_from k M) (sym (add-zero number))
lines-append number (L ∷ A) M =
    let q : number + 1 + length A ≡ number + length (L ∷ A) = omega arith in
    lines_more number L (A ++ M)
    ∙ ap (λ (l : List ℕ). move_lines number L ++ l) (lines-append (number + 1) A M ∙ ap (λ (k : ℕ). moves_from (number + 1) A ++ moves_from k M) q)
    ∙ sym (append_assoc (move_lines number L) (moves_from (number + 1) A) (moves_from (number + length (L ∷ A)) M))
    ∙ ap (λ (l : List ℕ). l ++ moves_from (number + length (L ∷ A)) M) (sym (lines_more number L A))

-- ---- a turn

total-more : (n : ℕ) (N : List ℕ) → total (n ∷ N) ≡ n + total N
unfolding total
total-more n N = refl

cut-more : (n : ℕ) (N rs vs : List ℕ) → cut (n ∷ N) rs vs ≡ edits (take n rs) (take n vs) ∷ cut N (drop n rs) (drop n vs)
unfolding cut
cut-more n N rs vs = refl

cut_none : (rs vs : List ℕ) → cut [] rs vs ≡ []
unfolding cut
cut_none rs vs = refl

-- how far the writing of moves is: so many of them, with so many edits
pub record Cutting (out₀ : List ℕ) (from first : ℕ) (N rs vs out : List ℕ) (at place i : ℕ) : Type 0 where
  pub within : i ≤ length N
  pub rows : place + total (drop i N) ≤ length rs
  pub values : place + total (drop i N) ≤ length vs
  pub writing : Writing out at (moves_from (first + i) (cut (drop i N) (drop place rs) (drop place vs))) out₀ from (moves_from first (cut N rs vs))

pub cutting : (out : List ℕ) (from first : ℕ) (N rs vs : List ℕ) → Laid N rs vs → Cutting out from first N rs vs out from 0 0
cutting out from first N rs vs l = record {
  within = omega arith;
  rows = omega (arith, l.rows);
  values = omega (arith, l.values);
  writing = rw (add-zero first) (begun out from (moves_from first (cut N rs vs)));
}

module _ (out₀ : List ℕ) (from first : ℕ) (N rs vs out : List ℕ) (at place i : ℕ) (c : Cutting out₀ from first N rs vs out at place i) where
  module _ (l : i < length N) where
    abbrev n : ℕ
    n = get_or N i 0

    one_more_lem : drop i N ≡ n ∷ drop (i + 1) N
    one_more_lem = rw (drop-cons N i 0 l, add-one i)

    less : total (drop i N) ≡ n + total (drop (i + 1) N)
    less = ap total one_more_lem ∙ total-more n (drop (i + 1) N)

    pub rows_end : place + n ≤ length rs
    rows_end = omega (arith, less, c.rows)

    pub values_end : place + n ≤ length vs
    values_end = omega (arith, less, c.values)

    abbrev this : List Edit
    this = edits (take n (drop place rs)) (take n (drop place vs))

    abbrev later : List (List Edit)
    later = cut (drop (i + 1) N) (drop (place + n) rs) (drop (place + n) vs)

    turn : cut (drop i N) (drop place rs) (drop place vs) ≡ this ∷ later
    turn =
        ap (λ (M : List ℕ). cut M (drop place rs) (drop place vs)) one_more_lem
        ∙ cut-more n (drop (i + 1) N) (drop place rs) (drop place vs)
        ∙ rw (drop-drop n place rs, drop-drop n place vs)

    lines : moves_from (first + i) (cut (drop i N) (drop place rs) (drop place vs)) ≡ move_lines (first + i) this ++ moves_from (first + (i + 1)) later
    lines =
        let q : first + i + 1 ≡ first + (i + 1) = omega arith in
        ap (moves_from (first + i)) turn ∙ lines_more (first + i) this later ∙ ap (λ (k : ℕ). move_lines (first + i) this ++ moves_from k later) q

    -- the part between two places, whose end is computed
    abbrev part : ℕ → List Edit
    part k = edits (take k (drop place rs)) (take k (drop place vs))

    long : place + n - place ≡ n
    long = omega arith

    pub part_asked : from + length (moves_from first (cut N rs vs)) ≤ length out₀
        → (length (take (place + n - place) (drop place rs)) ≡ length (take (place + n - place) (drop place vs))) × (at + length (move_lines (first + i) (part (place + n - place))) ≤ length out)
    part_asked h = rw long (
      length-take-le n (drop place rs) (omega (arith, length-drop place rs, rows_end)) ∙ sym (length-take-le n (drop place vs) (omega (arith, length-drop place vs, values_end))),
      room _ _ _ _ _ _ c.writing (move_lines (first + i) this) (moves_from (first + (i + 1)) later) lines h,
    )

    pub part-written : (u : List ℕ) (b : ℕ) → Wrote out at (move_lines (first + i) (part (place + n - place))) u b → Cutting out₀ from first N rs vs u b (place + n) (i + 1)
    part-written u b v =
        let w : Wrote out at (move_lines (first + i) this) u b = subst (λ (k : ℕ). Wrote out at (move_lines (first + i) (part k)) u b) long v in
        record {
          within = omega (arith, l);
          rows = omega (arith, less, c.rows);
          values = omega (arith, less, c.values);
          writing = turned _ _ _ _ _ _ c.writing (move_lines (first + i) this) (moves_from (first + (i + 1)) later) lines b u (w.place, w.bytes);
        }

  pub cut_ended : length N ≤ i → Wrote out₀ from (moves_from first (cut N rs vs)) out at
  cut_ended l =
      let e : moves_from (first + i) (cut (drop i N) (drop place rs) (drop place vs)) ≡ [] =
      ap (λ (M : List ℕ). moves_from (first + i) (cut M (drop place rs) (drop place vs))) (drop_of_length-le N l)
      ∙ ap (moves_from (first + i)) (cut_none (drop place rs) (drop place vs))
      ∙ lines_none (first + i) in
      let (p, q) = ended _ _ _ _ _ _ c.writing e in
      record { place = p; bytes = q }

-- ---- moves as they were written

module _ (X Y : List ℕ) where
  rows_on : (L : List Edit) (M : List (List Edit)) → rows_of (joined (L ∷ M)) ++ X ≡ rows_of L ++ (rows_of (joined M) ++ X)
  rows_on L M = ap (λ (l : List Edit). rows_of l ++ X) (joined-more L M) ∙ ap (λ (l : List ℕ). l ++ X) (rows_append L (joined M)) ∙ append_assoc (rows_of L) (rows_of (joined M)) X

  values_on : (L : List Edit) (M : List (List Edit)) → values_of (joined (L ∷ M)) ++ Y ≡ values_of L ++ (values_of (joined M) ++ Y)
  values_on L M = ap (λ (l : List Edit). values_of l ++ Y) (joined-more L M) ∙ ap (λ (l : List ℕ). l ++ Y) (values-append L (joined M)) ∙ append_assoc (values_of L) (values_of (joined M)) Y

  pub cut-back : (M : List (List Edit)) → cut (map length M) (rows_of (joined M) ++ X) (values_of (joined M) ++ Y) ≡ M
  cut-back [] = cut_none (rows_of (joined []) ++ X) (values_of (joined []) ++ Y)
  cut-back (L ∷ M) =
      let rs = rows_of (joined M) ++ X in
      let vs = values_of (joined M) ++ Y in
      rw (rows_on L M, values_on L M) (
      cut-more (length L) (map length M) (rows_of L ++ rs) (values_of L ++ vs)
      ∙ rw (
        take_at (rows_of L) rs (length L) (length_rows L),
        take_at (values_of L) vs (length L) (length-values L),
        drop_at (rows_of L) rs (length L) (length_rows L),
        drop_at (values_of L) vs (length L) (length-values L),
        edits-back L,
      ) (ap (λ (l : List (List Edit)). L ∷ l) (cut-back M)))

pub total-back : (M : List (List Edit)) → total (map length M) ≡ length (joined M)
unfolding total joined
total-back [] = refl
total-back (L ∷ M) = omega (arith, total-back M, length-append L (joined M))
