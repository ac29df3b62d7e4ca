-- What is read of the rows at a side. Assumes nothing.
use Prim.Native.Nat.{ℕ, ◌+◌, ◌-◌, ◌≤◌, ◌<◌, ◌^◌}
use mathlib.Core.Path.{◌≡◌, sym, ap, ◌∙◌}
use mathlib.Core.List.{List, []}
use Rattle.std.specs.Prelude.{Option, None, Some}
use Rattle.std.proofs.lemmas.Option.{none-some}
use native.Mathlib.Omega.{arith}
use lib.ListN.{length}
use Rattle.basics.proofs.Bools.{by}
use Rattle.rules.specs.Board.{Board}
use Rattle.rules.specs.Neighbours.{below, above}
use Rattle.membership.specs.Canonical.{key_rows}
use Rattle.assignment_tables.specs.declared.Shape.{Shape}
use Rattle.assignment_tables.specs.Tables.{board}
use Rattle.assignment_index.specs.declared.columns.Part.{Part}
use Rattle.assignment_index.specs.Columns.{column, records_length, members_length, Named}
use Rattle.assignment_index.specs.Index.{part_of, by_sequence, start_of}
use Rattle.assignment_index.proofs.Changes.{part-named}
use Rattle.overlay_pairs.specs.Pairs.{start_at}
use Rattle.sequence_steps.proofs.StepLaws.{below_at, below_next, above_next}
use Rattle.path_steps.specs.Judging.{rows_if, Sequenced}

-- ---- the rows at a sequence

module _ (S : Shape) (R M : List ℕ) (w : Sequenced S.rows R M) (P : Part) (q : P ≡ by_sequence) where
  -- what looking for a start asks
  pub start_asks : Named S.rows P × (((length R ≡ records_length S.rows) × (length M ≡ members_length S.rows)) × (column (S.rows + 1) P.column M ≡ part_of S.rows P R))
  start_asks = rw q (part-named S.rows 2 w.few, ((w.records_long, w.members_long), w.part_right))

  -- the same of what starts there
  pub rows_ask : (v s x : ℕ) → x ≡ start_at S R M v s
      → Named S.rows P × (((length R ≡ records_length S.rows) × (length M ≡ members_length S.rows)) × ((column (S.rows + 1) P.column M ≡ part_of S.rows P R) × (x ≡ start_of S.rows P R M v s)))
  rows_ask v s x f = (start_asks.0, (start_asks.1.0, (start_asks.1.1, rw q f)))

  -- what was read
  abbrev Read : ℕ → ℕ → ℕ → List ℕ → Type 0
  Read v s x rows =
      (rows ≡ key_rows P.absent (column S.rows P.flags R) (column S.rows P.high R) (column S.rows P.low R) v s S.rows)
      × ((x + length rows ≡ start_of S.rows P R M v (s + 1)) × (x + length rows ≤ S.rows))

  pub start_read : (v s x : ℕ) → x ≡ start_of S.rows P R M v s → x ≡ start_at S R M v s
  start_read v s x f = rw q at f

  pub next_start : (v s x : ℕ) (rows : List ℕ) → Read v s x rows → x + length rows ≡ start_at S R M v (s + 1)
  next_start v s x rows o = rw q at o.1.0

  pub stretch_at : (v s x : ℕ) (y : Option ℕ) → y ≡ Some s → (rows : List ℕ) → Read v s x rows
      → (rows ≡ rows_if S R v y) × ((t : ℕ) → y ≡ Some t → (x + length rows ≡ start_at S R M v (t + 1)) × (x + length rows ≤ S.rows))
  unfolding rows_if
  stretch_at v s x y e rows o = (
    rw e (rw q at o.0),
    λ t f. let z : s ≡ t = cc in (next_start v s x rows o ∙ ap (λ (u : ℕ). start_at S R M v (u + 1)) z, o.1.1),
  )

module _ (S : Shape) (R M : List ℕ) where
  pub stretch_none : (v x : ℕ) (y : Option ℕ) → y ≡ None
      → ([] ≡ rows_if S R v y) × ((t : ℕ) → y ≡ Some t → (x + length {A = ℕ} [] ≡ start_at S R M v (t + 1)) × (x + length {A = ℕ} [] ≤ S.rows))
  unfolding rows_if
  stretch_none v x y e = (rw e, λ t f. absurd (none-some t (sym e ∙ f)))

-- ---- one behind the other

module _ (S : Shape) (R M : List ℕ) (v s : ℕ) where
  abbrev D : Board
  D = board S [] []

  pub stretch_read : (u : Option ℕ) (y : Option ℕ) → y ≡ u → (rows : List ℕ) → rows ≡ rows_if S R v y → rows ≡ rows_if S R v u
  stretch_read u y e rows f = f ∙ ap (rows_if S R v) e

  -- those right above start behind those at the sequence
  pub above_start : (x : ℕ) (y : Option ℕ) → ((B : Board) → y ≡ above B s) → x ≡ start_at S R M v (s + 1) → (t : ℕ) → y ≡ Some t → x ≡ start_at S R M v t
  above_start x y e f t g = f ∙ ap (start_at S R M v) (sym (above_next D s t (sym (e D) ∙ g)))

  module _ (x l : ℕ) (first : x ≡ start_at S R M v l) (lowest : l ≡ s - 1) (y : Option ℕ) (e : (B : Board) → y ≡ below B s) where
    pub below_start : (t : ℕ) → y ≡ Some t → x ≡ start_at S R M v t
    below_start t g =
        let n : s ≡ t + 1 = below_next D s t (sym (e D) ∙ g) in
        let z : l ≡ t = omega arith in
        first ∙ ap (start_at S R M v) z

    module _ (rows : List ℕ) (o : (rows ≡ rows_if S R v y) × ((t : ℕ) → y ≡ Some t → (x + length rows ≡ start_at S R M v (t + 1)) × (x + length rows ≤ S.rows))) where
      -- nothing stands below the first sequence
      none_below : s ≡ 0 → length rows ≡ 0
      unfolding below rows_if
      none_below z = ap length (stretch_read None y (e D ∙ ap (λ (i : ℕ). (below D i)) z) rows o.0)

      key_below : (s ≡ 0 → ⊥) → y ≡ Some (s - 1)
      key_below n = e D ∙ sym (below_at D s n)

      -- those at the sequence start behind those below
      pub here_start : x + length rows ≡ start_at S R M v s
      here_start =
          by 0 s
          (λ k. let z : s - 1 + 1 ≡ s = omega arith in
          (o.1 (s - 1) (key_below (λ z. omega arith))).0 ∙ ap (start_at S R M v) z)
          (λ k. let nobody = none_below (omega arith) in
          let sum : x + length rows ≡ x = omega arith in
          let z : l ≡ s = omega arith in
          sum ∙ first ∙ ap (start_at S R M v) z)

      pub here-fits : S.rows ≤ 128 → x < 2 ^ 64 → x + length rows < 2 ^ 64
      here-fits few fits =
          by 0 s
          (λ k. let b = (o.1 (s - 1) (key_below (λ z. omega arith))).1 in omega arith)
          (λ k. let nobody = none_below (omega arith) in omega arith)
