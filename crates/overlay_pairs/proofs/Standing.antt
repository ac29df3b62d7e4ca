-- Who stands at a place after a list: the rows of the index there that it does not name, and the rows that it puts there. Assumes nothing.
use Prim.Native.Nat.{ℕ, ◌+◌, ◌<◌, ◌≤◌}
use mathlib.Core.Path.{◌≡◌, sym, ap, fun_ext, ◌∙◌}
use mathlib.Core.Logic.{⊎_elim}
use mathlib.Core.Bool.{Bool, true, not, ◌&&◌, ◌||◌}
use mathlib.Core.List.{List}
use Rattle.std.specs.Prelude.{Option, Some}
use lib.ListN.{length}
use lib.Dec.{ltb, lit<}
use borrow.Author.Tests.{ltb-true}
use Rattle.basics.specs.Tests.{all, all_below, all_of_below, among, distinct}
use Rattle.basics.specs.Edits.{Edit, rows_of, edits, Listed}
use Rattle.basics.proofs.Bools.{either, clash, same_test, and_left, and_right, and_join, or_left, or_right, or_cases, implies}
use Rattle.basics.proofs.Lists.{◌∈◌, all_at_lem, all_of}
use Rattle.basics.proofs.Below.{all_below_at, all_below_of, all_of_below_iff, all-below}
use Rattle.basics.proofs.Edits.{rows_edits, all-edits, member_row}
use Rattle.rules.specs.Board.{Board}
use Rattle.rules.specs.Neighbours.{below, above}
use Rattle.rules.specs.Roster.{Roster}
use Rattle.rules.proofs.Rosters.{untouched, touched, listed}
use Rattle.membership.specs.Canonical.{key_rows}
use Rattle.assignment_tables.specs.declared.Shape.{Shape}
use Rattle.assignment_tables.specs.Tables.{capacity_at, sequence_at, edge_at, board}
use Rattle.assignment_index.specs.declared.columns.Part.{Part}
use Rattle.assignment_index.specs.Columns.{column, records_length, members_length, Named}
use Rattle.assignment_index.specs.Index.{roster_in, Indexed, by_sequence, part_of, start_of}
use Rattle.assignment_index.proofs.Changes.{part-named, records_long, members_long, part-now}
use Rattle.assignment_index.proofs.Found.{place_rows}
use Rattle.overlay_pairs.specs.Pairs.{has_place, all_at, stayer_passes, arrival_passes, pair_passes, all_there, beside_there, between_there, beside_all, between_all, rows_at, start_at, after_list}
use Rattle.sequence_steps.proofs.StepLaws.{below_next, above_next}

module _ (S : Shape) (m k R M rs vs : List ℕ) (w : Indexed S m k R M) (u : Listed S.rows rs vs) where
  abbrev h : Roster
  h = roster_in S.rows R

  abbrev L : List Edit
  L = edits rs vs

  abbrev g : Roster
  g = after_list S R rs vs

  abbrev sequence : ℕ → ℕ → Option ℕ
  sequence = sequence_at S m k

  -- the rows of the index at a place
  abbrev found : ℕ → ℕ → List ℕ
  found v s = rows_at S R v s

  -- what was read there
  pub place_read : (P : Part) → P ≡ by_sequence → (v s : ℕ) (others : List ℕ)
      → others ≡ key_rows P.absent (column S.rows P.flags R) (column S.rows P.high R) (column S.rows P.low R) v s S.rows
      → others ≡ rows_at S R v s
  place_read P e v s others o = rw e at o

  -- what reading them asks
  pub place_asks : (P : Part) → P ≡ by_sequence
      → Named S.rows P × (((length R ≡ records_length S.rows) × (length M ≡ members_length S.rows)) × (column (S.rows + 1) P.column M ≡ part_of S.rows P R))
  place_asks P e =
      rw e (part-named S.rows 2 w.marked.small.few_rows, ((records_long S m k R M w, members_long S m k R M w), part-now S m k R M w 2 (lit< tt)))

  -- the same of those from a place on
  pub from_asks : (P : Part) → P ≡ by_sequence → (v s x : ℕ) → x ≡ start_at S R M v s
      → Named S.rows P × (((length R ≡ records_length S.rows) × (length M ≡ members_length S.rows)) × ((column (S.rows + 1) P.column M ≡ part_of S.rows P R) × (x ≡ start_of S.rows P R M v s)))
  from_asks P e v s x f = let a = place_asks P e in (a.0, (a.1.0, (a.1.1, rw e f)))

  pub from_read : (P : Part) → P ≡ by_sequence → (v s x : ℕ) (others : List ℕ)
      → (others ≡ key_rows P.absent (column S.rows P.flags R) (column S.rows P.high R) (column S.rows P.low R) v s S.rows) × ((x + length others ≡ start_of S.rows P R M v (s + 1)) × (x + length others ≤ S.rows))
      → (others ≡ rows_at S R v s) × (x + length others ≡ start_at S R M v (s + 1))
  from_read P e v s x others o = (place_read P e v s others o.0, rw e at o.1.0)

  -- where the next ones start
  pub next_read : (P : Part) → P ≡ by_sequence → (v s n x : ℕ) (others : List ℕ) → n ≡ s + 1
      → (others ≡ key_rows P.absent (column S.rows P.flags R) (column S.rows P.high R) (column S.rows P.low R) v s S.rows) × ((x + length others ≡ start_of S.rows P R M v (s + 1)) × (x + length others ≤ S.rows))
      → x + length others ≡ start_at S R M v n
  next_read P e v s n x others f o = (from_read P e v s x others o).1 ∙ ap (start_at S R M v) (sym f)

  pub start_read : (P : Part) → P ≡ by_sequence → (v s x : ℕ) → x ≡ start_of S.rows P R M v s → x ≡ start_at S R M v s
  start_read P e v s x f = rw e at f

  -- the place right below, and the one right above
  pub below_start : (s n : ℕ) (y : Option ℕ) → ((B : Board) → y ≡ below B s) → y ≡ Some n → s ≡ n + 1
  below_start s n y e f = let B = board S m k in below_next B s n (sym (e B) ∙ f)

  pub above_start : (v s n x : ℕ) (y : Option ℕ) → ((B : Board) → y ≡ above B s) → y ≡ Some n → x ≡ start_at S R M v (s + 1) → x ≡ start_at S R M v n
  above_start v s n x y e f g =
      let B = board S m k in
      g ∙ ap (start_at S R M v) (sym (above_next B s n (sym (e B) ∙ f)))

  names : rows_of L ≡ rs
  names = rows_edits rs vs u.as_many

  row_below : {e : Edit} → e ∈ L → e.row < S.rows
  row_below i =
      ltb-true _ S.rows (all_at_lem (λ (r : ℕ). ltb r S.rows) (ap (all (λ (r : ℕ). ltb r S.rows)) names ∙ u.in_range) (member_row i))

  module _ (v s : ℕ) (q : ℕ → Bool) where
    abbrev placed : ℕ → ℕ → Bool
    placed r x = has_place sequence v s r x

    found-is : found v s ≡ all_of_below S.rows (λ (r : ℕ). placed r (h r))
    unfolding has_place
    found-is = place_rows S.rows (capacity_at S m k) sequence h R w.records_right v s

    found_iff_1 : (o : ℕ) → o ∈ found v s → (o < S.rows) × (placed o (h o) ≡ true)
    found_iff_1 o i = (all_of_below_iff (λ (r : ℕ). placed r (h r)) S.rows o).0 (rw found-is at i)

    found_iff_2 : (o : ℕ) → o < S.rows → placed o (h o) ≡ true → o ∈ found v s
    found_iff_2 o l t = rw found-is ((all_of_below_iff (λ (r : ℕ). placed r (h r)) S.rows o).1 (l, t))

    abbrev stayer : ℕ → Bool
    stayer o = among o rs || q o

    abbrev arrival : Edit → Bool
    arrival e = not (placed e.row e.value) || q e.row

    forth : all stayer (found v s) ≡ true → all arrival L ≡ true → (o : ℕ) → o < S.rows → placed o (g o) ≡ true → q o ≡ true
    forth a b o l t =
        either (among o rs)
        (λ y. let (e, i, p, z) = touched h L o (ap (among o) names ∙ y) in
        ap q (sym p) ∙ (implies (placed e.row e.value) _).0 (all_at_lem arrival b i) (rw (p, ← z) t))
        (λ n. let same = untouched h L (ap (among o) names ∙ n) in
        ⊎_elim (λ y. absurd (clash y n)) (λ t. t) (or_cases (among o rs) _ (all_at_lem stayer a (found_iff_2 o l (rw same at t)))))

    back-stayers : ((o : ℕ) → o < S.rows → placed o (g o) ≡ true → q o ≡ true) → all stayer (found v s) ≡ true
    back-stayers f =
        all_of stayer (found v s) (λ o i.
        either (among o rs)
        (λ y. or_left _ _ y)
        (λ n. let (l, t) = found_iff_1 o i in
        let same = untouched h L (ap (among o) names ∙ n) in
        or_right (among o rs) _ (f o l (rw same t))))

    back-arrivals : ((o : ℕ) → o < S.rows → placed o (g o) ≡ true → q o ≡ true) → all arrival L ≡ true
    back-arrivals f =
        all_of arrival L (λ e i.
        (implies (placed e.row e.value) _).1
        (λ t. let same = listed h (ap distinct names ∙ u.once) i in
        f e.row (row_below i) (rw same t)))

    -- the rows that stand there pass where those that stay and those that arrive do
    pub standing : all_below (length (found v s)) (stayer_passes rs (found v s) q) && all_below (length rs) (arrival_passes sequence rs vs v s q)
        ≡ all_at S.rows sequence g v s q
    unfolding all_at
    standing =
        rw (← all-below stayer 0 (found v s), ← all-edits arrival rs vs u.as_many)
        (same_test _ _
        (λ t. all_below_of _ S.rows (λ o l. (implies (placed o (g o)) _).1 (forth (and_left (all stayer (found v s)) _ t) (and_right (all stayer (found v s)) _ t) o l)))
        (λ t. let f : (o : ℕ) → o < S.rows → placed o (g o) ≡ true → q o ≡ true = λ o l. (implies (placed o (g o)) _).0 (all_below_at _ S.rows t o l) in
        and_join (back-stayers f) (back-arrivals f)))

    pub there : (others : List ℕ) → others ≡ rows_at S R v s → all_there sequence rs vs others v s q ≡ all_at S.rows sequence g v s q
    unfolding all_there
    there others o = ap (λ (l : List ℕ). all_below (length l) (stayer_passes rs l q) && all_below (length rs) (arrival_passes sequence rs vs v s q)) o ∙ standing

  -- the pairs with those that the index has at a place, and that the list leaves or puts there, are the pairs after it
  pub beside_there_lem : (right : Bool) (v s row : ℕ) (others : List ℕ) → others ≡ rows_at S R v s → beside_there S m k rs vs others right v s row ≡ beside_all S m k g right v s row
  unfolding beside_there beside_all
  beside_there_lem right v s row others o = there v s (pair_passes (edge_at S m) right row) others o

  pub between_there_lem : (v low high : ℕ) (lefts rights : List ℕ) → lefts ≡ rows_at S R v low → rights ≡ rows_at S R v high
      → between_there S m k rs vs lefts rights v low high ≡ between_all S m k g v low high
  unfolding between_there between_all
  between_there_lem v low high lefts rights l r =
      ap (all_there sequence rs vs lefts v low) (fun_ext (λ row. beside_there_lem true v high row rights r)) ∙ there v low (beside_all S m k g true v high) lefts l
