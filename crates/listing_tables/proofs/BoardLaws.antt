-- The tables that were filled make the board of the file's records. Assumes nothing.
use Prim.Native.Nat.{ℕ, ◌+◌, ◌*◌, ◌≤◌, ◌<◌}
use mathlib.Core.Path.{◌≡◌, refl, sym, ap, fun_ext, ◌∙◌}
use mathlib.Core.Bool.{Bool, true, false, cond}
use mathlib.Core.List.{List, []}
use Rattle.std.specs.Prelude.{Option, None, Some, is_some, option_and_then}
use native.Mathlib.Omega.{arith}
use lib.Dec.{eqb, ltb}
use lib.IntN.{ℤ}
use lib.ListN.{length, get_or, replicate, length-replicate}
use borrow.Author.Tests.{ne_eqb, ltb-true, eqb-true}
use Rattle.basics.proofs.Bools.{by, either, clash, and_left, and_right, and_false}
use Rattle.basics.specs.Tests.{all}
use Rattle.basics.proofs.Below.{all_below_of}
use Rattle.basics.proofs.Maps.{get_d_replicate_any}
use Rattle.rules.specs.Board.{empty, legal_or_empty, value_legal}
use Rattle.assignment_tables.specs.declared.Shape.{Shape}
use Rattle.assignment_tables.specs.Layout.{cell_count, required_start, may_empty_start, position_given_start, order_given_start, counts_start, legal_start, capacity_given_start, sequence_given_start, edges_start, marks_length, capacity_start, sequence_start, keys_length, position_start, order_start}
use Rattle.assignment_tables.specs.Cells.{is_set, row_flag, cell_flag, cell_key, row_rank}
use Rattle.assignment_tables.specs.Tables.{legal_at, capacity_at, sequence_at, edge_at, candidates_at, board, ranks_of}
use Rattle.assignment_tables.specs.Refusal.{candidates_fit, all_candidates_fit}
use Rattle.assignment_tables.proofs.CellLaws.{cell_below, cell_in_lem, cell_out_row, cell_out_column, row_in, row_out}
use Rattle.listing_format.specs.Format.{Record}
use Rattle.listing_reading.specs.Cells.{record_in, key_in}
use Rattle.listing_shape.specs.FileBoard.{last_below, names, file_board, count_over, file_ranks}
use Rattle.listing_shape.specs.Counts.{cell_in}
use Rattle.listing_tables.specs.Filled.{scattered, place_in, flag_in, Fitting, file_marks, file_keys}
use Rattle.listing_tables.proofs.ScatterLaws.{last_same, last_none, last_below_lem, pick, scatter_length, scatter_at, scatter_past, one_place}
use Rattle.listing_shape.proofs.CountLaws.{count-above}
use Rattle.listing_tables.proofs.FillLaws.{placed}

module _ (S : Shape) (cells : List ℕ) (n : ℕ) (fit : Fitting cells n S.rows S.values) where
  abbrev place : ℕ → ℕ → ℕ
  place = place_in cells S.values

  abbrev named : ℕ → ℕ → Option ℕ
  named r v = last_below n (names (record_in cells) r v)

  -- ---- one table

  inside : (start size : ℕ) → start + cell_count S ≤ size → (i : ℕ) → i < n → place start i < size
  inside start size h i l = let p = placed cells n S.rows S.values i fit l in omega (arith, p.inside)

  outside : (start k : ℕ) → k < start → (i : ℕ) → i < n → place start i ≡ k → ⊥
  outside start k h i l e = omega arith

  beyond : (start k : ℕ) → start + cell_count S ≤ k → (i : ℕ) → i < n → place start i ≡ k → ⊥
  beyond start k h i l e = let p = placed cells n S.rows S.values i fit l in omega (arith, p.inside)

  -- what stands at the place of a row and a value is what the record that names them says
  table_at : (what : ℕ → ℕ) (s : List ℕ) (start r v : ℕ) → start + cell_count S ≤ length s → v < S.values
      → get_or (scattered (place start) what n s) (start + (r * S.values + v)) 0 ≡ pick what (get_or s (start + (r * S.values + v)) 0) (named r v)
  table_at what s start r v room b =
      scatter_at (place start) what s n (start + (r * S.values + v)) (inside start (length s) room)
      ∙ ap (pick what (get_or s (start + (r * S.values + v)) 0))
      (last_same n _ _ (λ i l. one_place S.values start (record_in cells i).row (record_in cells i).value r v (fit.value i l) b))

  -- out of range no record names them
  unnamed_row : (r v : ℕ) → S.rows ≤ r → named r v ≡ None
  unnamed_row r v h = last_none n _ (λ i l. rw (ne_eqb (record_in cells i).row r (λ e. omega (arith, fit.row i l))))

  unnamed_value : (r v : ℕ) → S.values ≤ v → named r v ≡ None
  unnamed_value r v h =
      last_none n _ (λ i l. rw (ne_eqb (record_in cells i).value v (λ e. omega (arith, fit.value i l))) (and_false (eqb (record_in cells i).row r)))

  -- ---- the marks

  abbrev blank : List ℕ
  blank = replicate (marks_length S) 0

  abbrev once : List ℕ
  once = scattered (place (legal_start S)) (flag_in cells 0) n blank

  abbrev twice : List ℕ
  twice = scattered (place (capacity_given_start S)) (flag_in cells 3) n once

  once_long : length once ≡ marks_length S
  once_long = scatter_length (place (legal_start S)) (flag_in cells 0) blank n ∙ length-replicate (marks_length S) 0

  twice_long : length twice ≡ marks_length S
  twice_long = scatter_length (place (capacity_given_start S)) (flag_in cells 3) once n ∙ once_long

  blank_at : (k : ℕ) → get_or blank k 0 ≡ 0
  blank_at k = get_d_replicate_any (marks_length S) k 0

  past-third : (k : ℕ) → ((i : ℕ) → i < n → place (sequence_given_start S) i ≡ k → ⊥) → get_or (file_marks S cells n) k 0 ≡ get_or twice k 0
  unfolding file_marks
  past-third k f = scatter_past (place (sequence_given_start S)) (flag_in cells 5) twice n k (inside (sequence_given_start S) (length twice) (omega (arith, twice_long))) f

  past-second : (k : ℕ) → ((i : ℕ) → i < n → place (capacity_given_start S) i ≡ k → ⊥) → get_or twice k 0 ≡ get_or once k 0
  past-second k f = scatter_past (place (capacity_given_start S)) (flag_in cells 3) once n k (inside (capacity_given_start S) (length once) (omega (arith, once_long))) f

  past_first : (k : ℕ) → ((i : ℕ) → i < n → place (legal_start S) i ≡ k → ⊥) → get_or once k 0 ≡ 0
  past_first k f = scatter_past (place (legal_start S)) (flag_in cells 0) blank n k (inside (legal_start S) (length blank) (omega (arith, length-replicate {A = ℕ} (marks_length S) 0))) f ∙ blank_at k

  -- before the three tables and behind them nothing is marked
  early : (k : ℕ) → k < legal_start S → get_or (file_marks S cells n) k 0 ≡ 0
  early k h =
      past-third k (outside (sequence_given_start S) k (omega arith)) ∙ past-second k (outside (capacity_given_start S) k (omega arith)) ∙ past_first k (outside (legal_start S) k h)

  late : (k : ℕ) → edges_start S ≤ k → get_or (file_marks S cells n) k 0 ≡ 0
  late k h =
      past-third k (beyond (sequence_given_start S) k h) ∙ past-second k (beyond (capacity_given_start S) k (omega arith)) ∙ past_first k (beyond (legal_start S) k (omega arith))

  module _ (r v : ℕ) (a : r < S.rows) (b : v < S.values) where
    abbrev cell : ℕ
    cell = r * S.values + v

    cell_inside : cell < cell_count S
    cell_inside = cell_below S.rows S.values r v a b

    legal_cell : get_or (file_marks S cells n) (legal_start S + cell) 0 ≡ pick (flag_in cells 0) 0 (named r v)
    legal_cell =
        let c = cell_inside in
        past-third (legal_start S + cell) (outside (sequence_given_start S) (legal_start S + cell) (omega arith))
        ∙ past-second (legal_start S + cell) (outside (capacity_given_start S) (legal_start S + cell) (omega arith))
        ∙ table_at (flag_in cells 0) blank (legal_start S) r v (omega (arith, length-replicate {A = ℕ} (marks_length S) 0)) b
        ∙ ap (λ (d : ℕ). pick (flag_in cells 0) d (named r v)) (blank_at (legal_start S + cell))

    capacity-cell : get_or (file_marks S cells n) (capacity_given_start S + cell) 0 ≡ pick (flag_in cells 3) 0 (named r v)
    capacity-cell =
        let c = cell_inside in
        past-third (capacity_given_start S + cell) (outside (sequence_given_start S) (capacity_given_start S + cell) (omega arith))
        ∙ table_at (flag_in cells 3) once (capacity_given_start S) r v (omega (arith, once_long)) b
        ∙ ap (λ (d : ℕ). pick (flag_in cells 3) d (named r v)) (past_first (capacity_given_start S + cell) (beyond (legal_start S) (capacity_given_start S + cell) (omega arith)))

    sequence-cell : get_or (file_marks S cells n) (sequence_given_start S + cell) 0 ≡ pick (flag_in cells 5) 0 (named r v)
    unfolding file_marks
    sequence-cell =
        let c = cell_inside in
        table_at (flag_in cells 5) twice (sequence_given_start S) r v (omega (arith, twice_long)) b
        ∙ ap (λ (d : ℕ). pick (flag_in cells 5) d (named r v))
        (past-second (sequence_given_start S + cell) (beyond (capacity_given_start S) (sequence_given_start S + cell) (omega arith))
        ∙ past_first (sequence_given_start S + cell) (beyond (legal_start S) (sequence_given_start S + cell) (omega arith)))

    -- ---- the keys

    abbrev bare : List ℕ
    bare = replicate (keys_length S) 0

    abbrev half : List ℕ
    half = scattered (place (capacity_start S)) (cell_in cells 4) n bare

    half_long : length half ≡ keys_length S
    half_long = scatter_length (place (capacity_start S)) (cell_in cells 4) bare n ∙ length-replicate (keys_length S) 0

    capacity-key : get_or (file_keys S cells n) (capacity_start S + cell) 0 ≡ pick (cell_in cells 4) 0 (named r v)
    unfolding file_keys
    capacity-key =
        let c = cell_inside in
        scatter_past (place (sequence_start S)) (cell_in cells 6) half n (capacity_start S + cell)
        (inside (sequence_start S) (length half) (omega (arith, half_long)))
        (outside (sequence_start S) (capacity_start S + cell) (omega arith))
        ∙ table_at (cell_in cells 4) bare (capacity_start S) r v (omega (arith, length-replicate {A = ℕ} (keys_length S) 0)) b
        ∙ ap (λ (d : ℕ). pick (cell_in cells 4) d (named r v)) (get_d_replicate_any (keys_length S) (capacity_start S + cell) 0)

    sequence-key : get_or (file_keys S cells n) (sequence_start S + cell) 0 ≡ pick (cell_in cells 6) 0 (named r v)
    unfolding file_keys
    sequence-key =
        table_at (cell_in cells 6) half (sequence_start S) r v (omega (arith, half_long)) b
        ∙ ap (λ (d : ℕ). pick (cell_in cells 6) d (named r v))
        (scatter_past (place (capacity_start S)) (cell_in cells 4) bare n (sequence_start S + cell)
        (inside (capacity_start S) (length bare) (omega (arith, length-replicate {A = ℕ} (keys_length S) 0)))
        (beyond (capacity_start S) (sequence_start S + cell) (omega arith))
        ∙ get_d_replicate_any (keys_length S) (sequence_start S + cell) 0)

  -- ---- the hooks

  abbrev marks : List ℕ
  marks = file_marks S cells n

  always : (o : Option ℕ) → is_set (pick (flag_in cells 0) 0 o) ≡ is_some o
  unfolding flag_in
  always None = refl
  always (Some i) = refl

  pub legal_hook : (r v : ℕ) → legal_at S marks r v ≡ is_some (named r v)
  legal_hook r v =
      by r S.rows
      (λ a. by v S.values
      (λ b. sym (cell_in_lem S.rows S.values (legal_start S) marks r v (legal_start S + (r * S.values + v)) refl a b) ∙ ap is_set (legal_cell r v a b) ∙ always (named r v))
      (λ b. sym (cell_out_column S.rows S.values (legal_start S) marks r v a b) ∙ sym (ap is_some (unnamed_value r v b))))
      (λ a. sym (cell_out_row S.rows S.values (legal_start S) marks r v a) ∙ sym (ap is_some (unnamed_row r v a)))

  -- a key, whose flag stands in one column of the records and whose number in another
  module _ (from start column other : ℕ) (f : column ≡ 0 → ⊥)
      (flags : (r v : ℕ) → r < S.rows → v < S.values → get_or marks (from + (r * S.values + v)) 0 ≡ pick (flag_in cells column) 0 (named r v))
      (keys : (r v : ℕ) → r < S.rows → v < S.values → get_or (file_keys S cells n) (start + (r * S.values + v)) 0 ≡ pick (cell_in cells other) 0 (named r v)) where
    abbrev key_of : ℕ → Option ℕ
    key_of i = key_in (cell_in cells column i) (cell_in cells other i)

    said : (o : Option ℕ) → cond (is_set (pick (flag_in cells column) 0 o)) (Some (pick (cell_in cells other) 0 o)) None ≡ option_and_then key_of o
    unfolding flag_in
    said None = refl
    said (Some i) = rw (ne_eqb column 0 f) (either (eqb (cell_in cells column i) 0) (λ t. rw t) (λ e. rw e))

    key_hook : (r v : ℕ) → cell_key S.rows S.values from start marks (file_keys S cells n) r v ≡ option_and_then key_of (named r v)
    unfolding cell_key
    key_hook r v =
        by r S.rows
        (λ a. by v S.values
        (λ b. let e = sym (cell_in_lem S.rows S.values from marks r v (from + (r * S.values + v)) refl a b) ∙ ap is_set (flags r v a b) in
        ap (λ (t : Bool). cond t (Some (get_or (file_keys S cells n) (start + (r * S.values + v)) 0)) None) e
        ∙ ap (λ (k : ℕ). cond (is_set (pick (flag_in cells column) 0 (named r v))) (Some k) None) (keys r v a b)
        ∙ said (named r v))
        (λ b. absent_at (sym (cell_out_column S.rows S.values from marks r v a b)) (unnamed_value r v b)))
        (λ a. absent_at (sym (cell_out_row S.rows S.values from marks r v a)) (unnamed_row r v a))
      where
        absent_at : cell_flag S.rows S.values from marks r v ≡ false → named r v ≡ None
            → cond (cell_flag S.rows S.values from marks r v) (Some (get_or (file_keys S cells n) (start + (r * S.values + v)) 0)) None ≡ option_and_then key_of (named r v)
        absent_at e g = rw (e, g)

  pub capacity_hook : (r v : ℕ) → capacity_at S marks (file_keys S cells n) r v ≡ option_and_then (λ (i : ℕ). (record_in cells i).capacity) (named r v)
  capacity_hook = key_hook (capacity_given_start S) (capacity_start S) 3 4 (λ e. omega arith) capacity-cell capacity-key

  pub sequence_hook : (r v : ℕ) → sequence_at S marks (file_keys S cells n) r v ≡ option_and_then (λ (i : ℕ). (record_in cells i).sequence) (named r v)
  sequence_hook = key_hook (sequence_given_start S) (sequence_start S) 5 6 (λ e. omega arith) sequence-cell sequence-key

  -- ---- everything else is no, or absent

  no_row : (start : ℕ) → start + S.rows ≤ legal_start S → (r : ℕ) → row_flag S.rows start marks r ≡ false
  no_row start h r =
      by r S.rows
      (λ a. sym (row_in S.rows start marks r a) ∙ ap is_set (early (start + r) (omega arith)))
      (λ a. sym (row_out S.rows start marks r a))

  no_rank : (from start : ℕ) (p : List ℤ) → from + S.rows ≤ legal_start S → (r : ℕ) → row_rank S.rows from start marks p r ≡ None
  unfolding row_rank
  no_rank from start p h r = rw (no_row from h r)

  no_candidates : (r : ℕ) → candidates_at S marks r ≡ []
  unfolding candidates_at
  no_candidates r =
      either (ltb r S.rows)
      (λ t. let l = ltb-true r S.rows t in
      let none-counted : get_or marks (counts_start S + r) 0 ≡ 0 = early (counts_start S + r) (omega arith) in
      rw (t, none-counted))
      (λ f. rw f)

  pub candidates_none : all_candidates_fit S marks ≡ true
  unfolding all_candidates_fit candidates_fit all
  candidates_none =
      all_below_of _ S.rows (λ r l.
      let none-counted : get_or marks (counts_start S + r) 0 ≡ 0 = early (counts_start S + r) (omega arith) in
      rw (none-counted, no_candidates r))

  no_edge : (x y : ℕ) → edge_at S marks x y ≡ false
  no_edge x y =
      by x S.rows
      (λ a. by y S.rows
      (λ b. sym (cell_in_lem S.rows S.rows (edges_start S) marks x y (edges_start S + (x * S.rows + y)) refl a b) ∙ ap is_set (late (edges_start S + (x * S.rows + y)) (omega arith)))
      (λ b. sym (cell_out_column S.rows S.rows (edges_start S) marks x y a b)))
      (λ a. sym (cell_out_row S.rows S.rows (edges_start S) marks x y a))

  -- 12.2, 12.3: the filled tables make the file's board
  pub board-filled : S.rows ≡ count_over n (λ (i : ℕ). (record_in cells i).row) → S.values ≡ count_over n (λ (i : ℕ). (record_in cells i).value) → S.edge_rule ≡ 0
      → board S marks (file_keys S cells n) ≡ file_board n (record_in cells)
  board-filled er ev ee = λ k. record {
    rows = er k;
    values = ev k;
    required = fun_ext (no_row (required_start S) (omega arith)) k;
    may_empty = fun_ext (no_row (may_empty_start S) (omega arith)) k;
    candidates = fun_ext no_candidates k;
    legal = fun_ext (λ r. fun_ext (legal_hook r)) k;
    capacity = fun_ext (λ r. fun_ext (capacity_hook r)) k;
    sequence = fun_ext (λ r. fun_ext (sequence_hook r)) k;
    rule = ap is_set ee k;
    edge = fun_ext (λ x. fun_ext (no_edge x)) k;
  }

  -- and whatever stands in the ranks, no row has one
  pub ranks-filled : (p : List ℤ) → ranks_of S marks p ≡ file_ranks
  ranks-filled p = λ k. record {
    position = fun_ext (no_rank (position_given_start S) (position_start S) p (omega arith)) k;
    order = fun_ext (no_rank (order_given_start S) (order_start S) p (omega arith)) k;
  }

-- what is legal on a file's board is small: its lines are short
pub legal_small : (at : ℕ → Record) (n : ℕ) → count_over n (λ (i : ℕ). (at i).row) ≤ 128 → count_over n (λ (i : ℕ). (at i).value) ≤ 64
    → (r v : ℕ) → value_legal (file_board n at) r v ≡ true → (r < 128) × (v < 64)
unfolding legal_or_empty
legal_small at n few_rows few_values r v h =
    either (eqb v empty)
    (λ e. absurd (clash (rw e at h) refl))
    (λ e. go (last_below n (names at r v)) refl (rw e at h))
  where
    go : (o : Option ℕ) → last_below n (names at r v) ≡ o → is_some o ≡ true → (r < 128) × (v < 64)
    go None q w = absurd (clash w refl)
    go (Some i) q w =
        let (l, m) = last_below_lem n (names at r v) i q in
        let row = eqb-true (at i).row r (and_left (eqb (at i).row r) _ m) in
        let value = eqb-true (at i).value v (and_right (eqb (at i).row r) _ m) in
        let a = count-above (λ (k : ℕ). (at k).row) n i l in
        let b = count-above (λ (k : ℕ). (at k).value) n i l in
        (omega arith, omega arith)
