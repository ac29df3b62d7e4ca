-- The signed test of a key is the test of its holders after the list. Assumes nothing.
use Prim.Native.Nat.{ℕ, ◌≤◌, ◌<◌}
use mathlib.Core.Path.{◌≡◌, sym, ap, fun_ext, ◌∙◌}
use mathlib.Core.Bool.{Bool, true, false, ◌&&◌}
use mathlib.Core.List.{List}
use Rattle.std.specs.Prelude.{Option, None, Some}
use native.Mathlib.Omega.{arith}
use lib.ListN.{length, get_or}
use lib.Dec.{ltb, lit<}
use lib.IntN.{pos, ◌+ℤ◌, ◌-ℤ◌}
use borrow.Author.Tests.{ltb-true, ltb-false}
use Rattle.basics.specs.Tests.{all, all_below, count_below, is, distinct}
use Rattle.basics.specs.Edits.{Edit, edits, Listed}
use Rattle.basics.proofs.Lists.{◌∈◌, all_at_lem, is_iff}
use Rattle.basics.proofs.Below.{all_below_at, all_below_and, count_below_pos, pigeon}
use Rattle.basics.proofs.Edits.{rows_edits, all-edits, count-edits, member_row, row_at}
use Rattle.rules.specs.Board.{Board}
use Rattle.rules.specs.Roster.{Roster, after, holds, holders}
use Rattle.rules.specs.FinalTest.{key_passes, key_at, at_edits, capacity_passes}
use Rattle.rules.proofs.Places.{one_place}
use Rattle.rules.proofs.Holders.{holders-signed}
use Rattle.assignment_tables.specs.declared.Shape.{Shape}
use Rattle.assignment_tables.specs.Tables.{capacity_at, board}
use Rattle.assignment_index.specs.Columns.{records_length}
use Rattle.assignment_index.specs.Index.{roster_in, Indexed}
use Rattle.assignment_index.proofs.Changes.{records_long, members_long, part-now}
use Rattle.overlay_capacity.proofs.CapacityLaws.{holds-key}
use Rattle.key_places.specs.Places.{fits_places}
use Rattle.overlay_capacity.specs.Capacity.{held_by, Countable, arrives_at, leaves_at, departing, left_by, key_room, old_room, new_room, edit_room}

module _ (S : Shape) (m k R M rs vs : List ℕ) (w : Indexed S m k R M) (u : Listed S.rows rs vs) where
  abbrev n : ℕ
  n = S.rows

  abbrev h : Roster
  h = roster_in S.rows R

  abbrev capacity : ℕ → ℕ → Option ℕ
  capacity = capacity_at S m k

  -- a list of distinct rows is no longer than the rows
  pub list_short : length rs ≤ 128
  list_short = omega (arith, pigeon S.rows rs u.once u.in_range, w.marked.small.few_rows)

  -- what counting holders and departures asks
  pub countable : Countable n R M
  countable = record { few_rows = w.marked.small.few_rows; records_long = records_long S m k R M w; members_long = members_long S m k R M w; by_key = part-now S m k R M w 0 (lit< tt) }

  pub recorded : (n ≤ 128) × (length R ≡ records_length n)
  recorded = (w.marked.small.few_rows, records_long S m k R M w)

  pub records-enough : S.rows ≤ length R
  records-enough = omega (arith, records_long S m k R M w)

  pub row_in_range : (i : ℕ) → i < length rs → get_or rs i 0 < S.rows
  row_in_range i l = row_at S.rows rs i u.in_range l

  -- the key that the code found for the i-th row is the one that it leaves
  pub old_leaves : (i v x : ℕ) (q : Option ℕ) → v ≡ h (get_or rs i 0) → q ≡ capacity (get_or rs i 0) v → q ≡ Some x → leaves_at n R rs x i ≡ true
  old_leaves i v x q e f z =
      holds-key S m k R M w x (get_or rs i 0)
      ∙ (is_iff x _).1 (ap (capacity (get_or rs i 0)) (sym e) ∙ sym f ∙ z)

  -- a key that is not left is left by none
  pub none_left : (x : ℕ) (l : Bool) → l ≡ left_by n R rs x → l ≡ false → 0 ≡ departing n R rs x
  none_left x l e f = let z = ltb-false 0 (departing n R rs x) (sym e ∙ f) in omega arith

  row_below : (e : Edit) → e ∈ edits rs vs → e.row < S.rows
  row_below e i =
      ltb-true e.row S.rows
      (all_at_lem (λ (r : ℕ). ltb r S.rows) (ap (all (λ (r : ℕ). ltb r S.rows)) (rows_edits rs vs u.as_many) ∙ u.in_range) (member_row i))

  abbrev B : Board
  B = board S m k

  -- a signed count of holders
  signed-holders : (key : ℕ) → pos (held_by n R key) +ℤ (pos (count_below (length rs) (arrives_at capacity rs vs key)) -ℤ pos (departing n R rs key))
      ≡ pos (holders B (after h (edits rs vs)) key)
  unfolding holders holds
  signed-holders key =
      let same = fun_ext (holds-key S m k R M w key) in
      rw (ap (count_below n) same, ap (λ (p : ℕ → Bool). count_below (length rs) (λ (i : ℕ). p (get_or rs i 0))) same, ← count-edits (λ (e : Edit). is key (capacity e.row e.value)) rs vs u.as_many, ← count-edits (λ (e : Edit). is key (capacity e.row (h e.row))) rs vs u.as_many)
      (holders-signed B key h (edits rs vs) (ap distinct (rows_edits rs vs u.as_many) ∙ u.once) (row_below))

  pub room_at : (x held arrived left : ℕ) (b : Bool) (q : Option ℕ) → q ≡ Some x → held ≡ held_by n R x
      → arrived ≡ count_below (length rs) (arrives_at capacity rs vs x) → left ≡ departing n R rs x
      → b ≡ fits_places (pos held +ℤ (pos arrived -ℤ pos left)) → b ≡ key_room B h rs vs q
  unfolding key_passes
  room_at x held arrived left b q z e g i j =
      j ∙ rw (z, e, g, i, signed-holders x, one_place B x)

  pub room_free : (q : Option ℕ) → q ≡ None → true ≡ key_room B h rs vs q
  unfolding key_passes
  room_free q z = rw z

  left_has_room : all_below (length rs) (old_room B h rs vs) ≡ true → (x : ℕ) → left_by n R rs x ≡ true → key_room B h rs vs (Some x) ≡ true
  left_has_room old x t =
      let (i, l, u) = (count_below_pos (leaves_at n R rs x) (length rs)).0 (ltb-true 0 _ t) in
      ap (key_room B h rs vs) (sym ((is_iff x _).0 (sym (holds-key S m k R M w x (get_or rs i 0)) ∙ u))) ∙ all_below_at (old_room B h rs vs) (length rs) old i l

  -- the key that a row leaves, and the one that it arrives at, as the code names it
  pub old_judged : (i v : ℕ) (q : Option ℕ) (b : Bool) → v ≡ h (get_or rs i 0) → q ≡ capacity (get_or rs i 0) v → b ≡ key_room B h rs vs q → b ≡ old_room B h rs vs i
  old_judged i v q b e f g =
      g ∙ ap (key_room B h rs vs) (f ∙ ap (capacity (get_or rs i 0)) e)

  module _ (i : ℕ) (q : Option ℕ) (f : q ≡ capacity (get_or rs i 0) (get_or vs i 0)) where
    pub new_judged : (b : Bool) → b ≡ key_room B h rs vs q → b ≡ new_room B h rs vs i
    new_judged b g = g ∙ ap (key_room B h rs vs) f

    -- where the keys that rows leave have room, so has one of them that a row arrives at
    pub new_left : all_below (length rs) (old_room B h rs vs) ≡ true → (x : ℕ) → q ≡ Some x → (l : Bool) → l ≡ left_by n R rs x → l ≡ true → true ≡ new_room B h rs vs i
    new_left old x z l e t = sym (ap (key_room B h rs vs) (sym f ∙ z) ∙ left_has_room old x (sym e ∙ t))

  pub capacity-whole : all_below (length rs) (edit_room B h rs vs) ≡ capacity_passes B h (edits rs vs)
  unfolding capacity_passes at_edits key_at
  capacity-whole =
      sym (all-edits (λ (e : Edit). key_room B h rs vs (capacity e.row (h e.row)) && key_room B h rs vs (capacity e.row e.value)) rs vs u.as_many)

  -- those that rows leave, and then those that they arrive at
  pub capacity_split : (b : Bool) → b ≡ all_below (length rs) (old_room B h rs vs) && all_below (length rs) (new_room B h rs vs) → b ≡ capacity_passes B h (edits rs vs)
  capacity_split b e = e ∙ sym (all_below_and (old_room B h rs vs) (new_room B h rs vs) (length rs)) ∙ capacity-whole

  pub old_fails : (b : Bool) → b ≡ all_below (length rs) (old_room B h rs vs) → b ≡ false → false ≡ capacity_passes B h (edits rs vs)
  old_fails b e f = capacity_split false (sym (ap (λ (x : Bool). x && all_below (length rs) (new_room B h rs vs)) (sym e ∙ f)))

  pub new_decides : (b d : Bool) → b ≡ all_below (length rs) (old_room B h rs vs) → b ≡ true → d ≡ all_below (length rs) (new_room B h rs vs) → d ≡ capacity_passes B h (edits rs vs)
  new_decides b d e t f = capacity_split d (f ∙ sym (ap (λ (x : Bool). x && all_below (length rs) (new_room B h rs vs)) (sym e ∙ t)))
