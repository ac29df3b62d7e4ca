-- What the refusal of tables says, case by case. Assumes nothing.
use Prim.Native.Nat.{ℕ, suc, ◌+◌, ◌-◌, ◌*◌, ◌≤◌, ◌<◌}
use mathlib.Core.Path.{◌≡◌, refl, sym, ap, ◌∙◌}
use mathlib.Core.Logic.{◌↔◌}
use mathlib.Core.Bool.{Bool, true, false, not, ◌&&◌, and-true}
use mathlib.Core.List.{List}
use Rattle.std.specs.Prelude.{Option, Ok, Err}
use Rattle.std.specs.Result.{result_and}
use native.Mathlib.Omega.{arith}
use native.Mathlib.Nat.{suc-mul, mul-le-mul, mul-le-mul_right}
use native.Mathlib.Numerals.{add-one}
use lib.ListN.{length, get_or, take, drop, length-take, length-drop}
use lib.Seq.{get_or-take, get_or-drop}
use lib.Dec.{eqb, ltb, leb}
use lib.IntN.{ℤ}
use borrow.Author.Tests.{ltb-true, le-leb, lt-leb, leb-true, eq-eqb, eqb-true, not-true, not-false}
use Rattle.basics.specs.Tests.{all, all_below}
use Rattle.refusals.specs.declared.Refusal.TheVariants as refusal
use Rattle.refusals.specs.Refusals.{Checked}
use Rattle.refusals.specs.Answers.{refused_unless}
use Rattle.basics.proofs.Bools.{and_left, and_right, and_false}
use Rattle.basics.proofs.Below.{all_below_at, all_below_of, all-below}
use Rattle.assignment_tables.specs.declared.Shape.{Shape}
use Rattle.assignment_tables.specs.Layout.{counts_start, candidates_start, legal_start, marks_length, keys_length, ranks_length, Small, Marked}
use Rattle.assignment_tables.specs.Tables.{count_at, offered}
use Rattle.assignment_tables.specs.Refusal.{lengths_fit, sized, candidates_fit, all_candidates_fit, tables_refusal, Admitted}
use Rattle.assignment_tables.proofs.LookupLaws.{candidates_in, offered_le}

-- a shape within the bounds is small
pub small : (S : Shape) → S.rows ≤ 128 → S.values ≤ 64 → Small S
small S p q = record {
  few_rows = p;
  few_values = q;
  few_cells = mul-le-mul {n₁ = S.rows} {m₁ = S.values} {n₂ = 128} {m₂ = 64} p q;
  few_pairs = mul-le-mul {n₁ = S.rows} {m₁ = S.rows} {n₂ = 128} {m₂ = 128} p p;
}

module _ (S : Shape) (m : List ℕ) (r : ℕ) where
  pub candidates_over : (n : ℕ) → n ≡ count_at S m r → 64 < n → false ≡ candidates_fit S m r
  unfolding candidates_fit
  candidates_over n e l = rw (← e, lt-leb _ _ l)

  pub candidates_counted : (n : ℕ) (xs : List ℕ) (b : Bool) → r < S.rows → n ≡ count_at S m r → n ≤ 64 → xs ≡ take n (drop (candidates_start S + r * 64) m) → b ≡ all (λ (v : ℕ). ltb v S.values) xs → b ≡ candidates_fit S m r
  unfolding candidates_fit
  candidates_counted n xs b p e l q f = rw (candidates_in S m r p, ← e, le-leb _ _ l, ← q) f

  -- where the candidates of every row fit, a row offers at most 64
  pub offered-fits : (o : Option ℕ) (k n : ℕ) → all_candidates_fit S m ≡ true → r < S.rows → k ≡ count_at S m r → n ≡ offered o k → n ≤ 64
  unfolding all_candidates_fit candidates_fit
  offered-fits o k n e p f g =
      let few : count_at S m r ≤ 64 = leb-true _ _ (and_left (leb (count_at S m r) 64) _ (all_below_at (candidates_fit S m) S.rows e r p)) in
      omega (arith, offered_le o k)

-- the sweep over listed numbers, which goes on past one that does not fit
module _ (bound : ℕ) (xs : List ℕ) where
  abbrev pub is_under : ℕ → Bool
  is_under i = ltb (get_or xs i 0) bound

  swept : (i : ℕ) → all_below (i + 1) is_under ≡ all_below i is_under && is_under i
  unfolding all_below
  swept i = rw add-one

  pub sweep_start : true ≡ all_below 0 is_under
  unfolding all_below
  sweep_start = refl

  pub sweep_next : (i : ℕ) (f : Bool) → f ≡ all_below i is_under → f && is_under i ≡ all_below (i + 1) is_under
  sweep_next i f a = rw a (sym (swept i))

  pub sweep_end : (i : ℕ) (f : Bool) → i ≤ length xs → length xs ≤ i → f ≡ all_below i is_under → f ≡ all (λ (v : ℕ). ltb v bound) xs
  sweep_end i f a b e =
      let n : i ≡ length xs = omega arith in
      e ∙ ap (λ (j : ℕ). all_below j is_under) n ∙ sym (all-below (λ (v : ℕ). ltb v bound) 0 xs)

-- a part of a list in which every number is below the bound
module _ (bound : ℕ) (m : List ℕ) (start size : ℕ) (e : all (λ (v : ℕ). ltb v bound) (take size (drop start m)) ≡ true) (l : start + size ≤ length m) where
  under_at : (i : ℕ) → i < size → ltb (get_or m (start + i) 0) bound ≡ true
  under_at i h =
      let long : length (take size (drop start m)) ≡ size = simp (length-take, length-drop) (omega arith) in
      let each = all_below_at (is_under bound (take size (drop start m))) (length (take size (drop start m))) (sym (all-below (λ (v : ℕ). ltb v bound) 0 (take size (drop start m))) ∙ e) i (rw long h) in
      rw (get_or-take size (drop start m) i 0 h, get_or-drop start m i 0) at each

  under_part : (x n : ℕ) → x + n ≤ size → all (λ (v : ℕ). ltb v bound) (take n (drop (start + x) m)) ≡ true
  under_part x n h =
      let xs = take n (drop (start + x) m) in
      let long : length xs ≡ n = simp (length-take, length-drop) (omega arith) in
      all-below (λ (v : ℕ). ltb v bound) 0 xs
      ∙ all_below_of (is_under bound xs) (length xs)
      (λ i b. let c : i < n = rw long at b in
      let s : start + x + i ≡ start + (x + i) = omega arith in
      rw (get_or-take n (drop (start + x) m) i 0 c, get_or-drop (start + x) m i 0, s) (under_at (x + i) (omega arith)))

-- where every cell of the two tables fits, each row's candidates do
module _ (S : Shape) (m : List ℕ) (a b d : ℕ) (i : a ≡ counts_start S) (j : b ≡ candidates_start S) (k : d ≡ legal_start S) where
  pub cells_fit : Marked S m → all (λ (v : ℕ). ltb v 65) (take (b - a) (drop a m)) ≡ true
      → all (λ (v : ℕ). ltb v S.values) (take (d - b) (drop b m)) ≡ true → all_candidates_fit S m ≡ true
  unfolding all_candidates_fit candidates_fit
  cells_fit M e f =
      let counts : b - a ≡ S.rows = omega arith in
      let cells : d - b ≡ S.rows * 64 = omega arith in
      let few = under_at 65 m (counts_start S) S.rows (rw (counts, i) at e) (omega (arith, M.marks_long)) in
      all_below_of (candidates_fit S m) S.rows
      (λ r l.
      let n : count_at S m r < 65 = ltb-true _ _ (few r l) in
      let part = under_part S.values m (candidates_start S) (S.rows * 64) (rw (cells, j) at f) (omega (arith, M.marks_long)) (r * 64) (count_at S m r) (omega (arith, mul-le-mul_right {m = suc r} {n = S.rows} 64 l, suc-mul r 64)) in
      rw (le-leb (count_at S m r) 64 (omega arith), candidates_in S m r l) part)

-- what lengths that fit are
lengths_told : (S : Shape) (m k : List ℕ) (p : List ℤ) → lengths_fit S m k p ≡ true → (length m ≡ marks_length S) × (length k ≡ keys_length S) × (length p ≡ ranks_length S)
unfolding lengths_fit
lengths_told S m k p h =
    let two = and_left (eqb (length m) (marks_length S) && eqb (length k) (keys_length S)) _ h in (
      eqb-true _ _ (and_left (eqb (length m) (marks_length S)) _ two),
      eqb-true _ _ (and_right (eqb (length m) (marks_length S)) _ two),
      eqb-true _ _ (and_right (eqb (length m) (marks_length S) && eqb (length k) (keys_length S)) _ h),
    )

-- marks whose length was found to fit
pub marked : (S : Shape) (m k : List ℕ) (p : List ℤ) (l : Bool) → S.rows ≤ 128 → S.values ≤ 64 → l ≡ lengths_fit S m k p → not l ≡ false → Marked S m
marked S m k p l a b q f = record { small = small S a b; marks_long = (lengths_told S m k p (sym q ∙ not-false l f)).0 }

-- the whole refusal
module _ (S : Shape) (m k : List ℕ) (p : List ℤ) (own : Bool) where
  abbrev Refused : Checked → Type 0
  Refused n = n ≡ tables_refusal S m k p own

  pub rows_over : 128 < S.rows → Refused (Err refusal.Sizes)
  unfolding tables_refusal sized
  rows_over h = rw (lt-leb _ _ h)

  module _ (a : S.rows ≤ 128) where
    pub values-over : 64 < S.values → Refused (Err refusal.Sizes)
    unfolding tables_refusal sized
    values-over h = rw (le-leb _ _ a, lt-leb _ _ h)

    module _ (b : S.values ≤ 64) where
      pub own_unfit : not own ≡ true → Refused (Err refusal.Sizes)
      unfolding tables_refusal sized
      own_unfit h = rw (le-leb _ _ a, le-leb _ _ b, not-true own h)

      module _ (o : not own ≡ false) (l : Bool) (q : l ≡ lengths_fit S m k p) where
        pub lengths_unfit : not l ≡ true → Refused (Err refusal.Sizes)
        unfolding tables_refusal sized
        lengths_unfit h = rw (le-leb _ _ a, le-leb _ _ b, not-false own o, ← q, not-true l h)

        module _ (f : not l ≡ false) (d : Bool) (g : d ≡ all_candidates_fit S m) where
          pub none_refused : d ≡ true → Refused (Ok tt)
          unfolding tables_refusal sized
          none_refused h = rw (le-leb _ _ a, le-leb _ _ b, not-false own o, ← q, not-false l f, ← g, h)

          pub candidates_unfit : d ≡ false → Refused (Err refusal.Candidates)
          unfolding tables_refusal sized
          candidates_unfit h = rw (le-leb _ _ a, le-leb _ _ b, not-false own o, ← q, not-false l f, ← g, h)

-- Tables are not refused where, and only where, they are admitted and the caller's own lengths fit.

both_pass : (a b : Bool) → result_and (refused_unless refusal.Sizes a) (refused_unless refusal.Candidates b) ≡ Ok tt → (a ≡ true) × (b ≡ true)
both_pass true true h = (refl, refl)
both_pass true false h = cc
both_pass false b h = cc

module _ (S : Shape) (m k : List ℕ) (p : List ℤ) where
  lengths_fit_lem : Admitted S m k p → lengths_fit S m k p ≡ true
  unfolding lengths_fit
  lengths_fit_lem a = rw (eq-eqb _ _ a.marked.marks_long, eq-eqb _ _ a.keys_long, eq-eqb _ _ a.ranks_long)

  module _ (own : Bool) where
    pub admitted_iff : tables_refusal S m k p own ≡ Ok tt ↔ (Admitted S m k p × (own ≡ true))
    unfolding tables_refusal sized
    admitted_iff = (told, asked)
      where
        told : tables_refusal S m k p own ≡ Ok tt → Admitted S m k p × (own ≡ true)
        told h =
            let both = both_pass (sized S m k p own) (all_candidates_fit S m) h in
            let rest = and_right (leb S.rows 128) _ both.0 in
            let last = and_right (leb S.values 64) _ rest in
            let long = lengths_told S m k p (and_right own _ last) in (
              record {
                marked = record {
                  small = small S (leb-true _ _ (and_left (leb S.rows 128) _ both.0)) (leb-true _ _ (and_left (leb S.values 64) _ rest));
                  marks_long = long.0;
                };
                keys_long = long.1;
                ranks_long = long.2;
                candidates_fit = both.1;
              },
              and_left own _ last,
            )

        asked : Admitted S m k p × (own ≡ true) → tables_refusal S m k p own ≡ Ok tt
        asked h =
            let a = h.0 in
            rw (le-leb _ _ a.marked.small.few_rows, le-leb _ _ a.marked.small.few_values, h.1, lengths_fit_lem a, a.candidates_fit)

    pub admitted : tables_refusal S m k p own ≡ Ok tt → Admitted S m k p
    admitted h = (admitted_iff.0 h).0
