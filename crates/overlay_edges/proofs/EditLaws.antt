-- The places of the edits of a list. Assumes nothing.
use Prim.Native.Nat.{ℕ, ◌+◌, ◌≤◌, ◌<◌}
use mathlib.Core.Path.{◌≡◌, refl, sym, ap, ap₂, subst, ◌∙◌}
use mathlib.Core.Bool.{Bool, true, false, not, ◌&&◌, ◌||◌}
use mathlib.Core.List.{List}
use native.Mathlib.Omega.{arith}
use Rattle.std.specs.Prelude.{Option, None, Some}
use lib.Dec.{eqb}
use lib.ListN.{length, get_or}
use borrow.Author.Tests.{eqb-true, not-true, not-false}
use Rattle.basics.specs.Tests.{all_below}
use Rattle.basics.specs.Edits.{Edit, edits, Listed, all_rows}
use Rattle.basics.proofs.Bools.{clash, and_left, and_right, and_join}
use Rattle.basics.proofs.Lists.{all_of, all_same, is_iff}
use Rattle.basics.proofs.Below.{all_below_at, all_below_fails, all_below_not, all_below_and}
use Rattle.basics.proofs.Loops.{all_more, turn_end}
use Rattle.basics.proofs.Edits.{all-edits, row_at}
use Rattle.rules.specs.Board.{Board}
use Rattle.rules.specs.Roster.{Roster}
use Rattle.rules.specs.FinalTest.{place_passes, place_at, at_edits, edges_pass}
use Rattle.rules.specs.Reinsertion.{beside_passes}
use Rattle.assignment_tables.specs.declared.Shape.{Shape}
use Rattle.assignment_tables.specs.Layout.{Marked, keys_length}
use Rattle.assignment_tables.specs.Tables.{sequence_at, rule_of, board}
use Rattle.assignment_index.specs.Index.{roster_in, Indexed}
use Rattle.assignment_index.proofs.Changes.{records_long}
use Rattle.overlay_pairs.specs.Pairs.{has_place, after_list}
use Rattle.overlay_edges.specs.Edges.{old_place, new_place, edit_places, stays_off, left_place}
use Rattle.overlay_pairs.proofs.InTurn.{and_stops, and_goes, not_stops, not_goes}

-- what reading the value that a row holds asks
pub held_asks : (S : Shape) (m k R M rs vs : List ℕ) (i : ℕ) → Indexed S m k R M → Listed S.rows rs vs → i < length rs → (S.rows ≤ length R) × (get_or rs i 0 < S.rows)
held_asks S m k R M rs vs i w u l = (omega (arith, records_long S m k R M w), row_at S.rows rs i u.in_range l)

-- what asking whether a place is left takes
pub left_asks : (S : Shape) (m k R M rs vs : List ℕ) → Indexed S m k R M → Listed S.rows rs vs → Marked S m × (((length k ≡ keys_length S) × (S.rows ≤ length R)) × (all_rows S.rows rs ≡ true))
left_asks S m k R M rs vs w u = (w.marked, ((w.keys_long, omega (arith, records_long S m k R M w)), u.in_range))

module _ (S : Shape) (m k R M rs vs : List ℕ) (w : Indexed S m k R M) (u : Listed S.rows rs vs) where
  abbrev B : Board
  B = board S m k

  abbrev h : Roster
  h = roster_in S.rows R

  abbrev g : Roster
  g = after_list S R rs vs

  -- the place that a row leaves, as the code names it
  pub old_judged : (i v : ℕ) (b : Bool) → v ≡ h (get_or rs i 0) → b ≡ place_passes B g v (sequence_at S m k (get_or rs i 0) v) → b ≡ old_place B h g rs i
  old_judged i v b e j = subst (λ (x : ℕ). b ≡ place_passes B g x (sequence_at S m k (get_or rs i 0) x)) e j

  -- where the places that rows leave pass, so does one of them that a row arrives at
  left-passes : all_below (length rs) (old_place B h g rs) ≡ true → (v : ℕ) (o : Option ℕ) → left_place (sequence_at S m k) h rs v o ≡ true → place_passes B g v o ≡ true
  unfolding left_place has_place
  left-passes old v None t = absurd (clash t refl)
  left-passes old v (Some s) t =
      let (i, l, f) = all_below_not (stays_off (sequence_at S m k) h rs v s) (length rs) (not-true _ t) in
      let both = not-false _ f in
      let r = get_or rs i 0 in
      let at_value : h r ≡ v = eqb-true _ _ (and_left (eqb (h r) v) _ both) in
      let at-sequence : sequence_at S m k r (h r) ≡ Some s = (is_iff s _).0 (and_right (eqb (h r) v) _ both) in
      ap₂ (place_passes B g) (sym at_value) (sym at-sequence) ∙ all_below_at (old_place B h g rs) (length rs) old i l

  pub new_left : (i : ℕ) (l : Bool) → all_below (length rs) (old_place B h g rs) ≡ true → l ≡ left_place (sequence_at S m k) h rs (get_or vs i 0) (sequence_at S m k (get_or rs i 0) (get_or vs i 0)) → l ≡ true → true ≡ new_place B g rs vs i
  new_left i l old e t = sym (left-passes old (get_or vs i 0) (sequence_at S m k (get_or rs i 0) (get_or vs i 0)) (sym e ∙ t))

  -- those that rows leave, and then those that they arrive at
  split : all_below (length rs) (old_place B h g rs) && all_below (length rs) (new_place B g rs vs) ≡ all_below (length rs) (edit_places B h g rs vs)
  split = sym (all_below_and (old_place B h g rs) (new_place B g rs vs) (length rs))

  pub old_fails : (b : Bool) → b ≡ all_below (length rs) (old_place B h g rs) → not b ≡ true → false ≡ all_below (length rs) (edit_places B h g rs vs)
  old_fails b e t = and_stops b _ (all_below (length rs) (new_place B g rs vs)) e t ∙ split

  pub new_decides : (b d : Bool) → b ≡ all_below (length rs) (old_place B h g rs) → not b ≡ false → d ≡ all_below (length rs) (new_place B g rs vs) → d ≡ all_below (length rs) (edit_places B h g rs vs)
  new_decides b d e t f = and_goes b d _ _ e t f ∙ split

  -- whether the rule is in force
  module _ (on : Bool) (e : on ≡ rule_of S) where
    place_free : not on ≡ true → (x y : ℕ) → place_at B g x y ≡ true
    unfolding place_at
    place_free t x y = ap (λ (z : Bool). not z || place_passes B g y (sequence_at S m k x y)) (sym e ∙ not-true on t)

    place-judged : not on ≡ false → (x y : ℕ) → place_passes B g y (sequence_at S m k x y) ≡ place_at B g x y
    unfolding place_at
    place-judged t x y = sym (ap (λ (z : Bool). not z || place_passes B g y (sequence_at S m k x y)) (sym e ∙ not-false on t))

    pub edges_free : not on ≡ true → true ≡ edges_pass B h (edits rs vs)
    unfolding edges_pass at_edits
    edges_free t = sym (all_of _ (edits rs vs) (λ x i. and_join (place_free t x.row (h x.row)) (place_free t x.row x.value)))

    pub edges_judged : not on ≡ false → (b : Bool) → b ≡ all_below (length rs) (edit_places B h g rs vs) → b ≡ edges_pass B h (edits rs vs)
    unfolding edges_pass at_edits
    edges_judged t b j =
        j
        ∙ sym (all-edits (λ (x : Edit). place_passes B g (h x.row) (sequence_at S m k x.row (h x.row)) && place_passes B g x.value (sequence_at S m k x.row x.value)) rs vs u.as_many)
        ∙ all_same _ _ (edits rs vs) (λ x i. ap₂ ◌&&◌ (place-judged t x.row (h x.row)) (place-judged t x.row x.value))

    module _ (r v : ℕ) where
      pub row_unjudged : not on ≡ true → true ≡ not (rule_of S) || beside_passes B g r v
      row_unjudged t = not_stops on _ _ e t

      pub row_under_rule : not on ≡ false → (b : Bool) → b ≡ beside_passes B g r v → b ≡ not (rule_of S) || beside_passes B g r v
      row_under_rule t b j = not_goes on b _ _ e t j

-- the loop that looks for a listed row which leaves a place
module _ (sequence : ℕ → ℕ → Option ℕ) (h : Roster) (rs : List ℕ) (v s : ℕ) where
  pub leaves-here : (i held : ℕ) (b : Bool) → i < length rs → held ≡ h (get_or rs i 0) → b ≡ has_place sequence v s (get_or rs i 0) held → b ≡ true → true ≡ not (all_below (length rs) (stays_off sequence h rs v s))
  leaves-here i held b l e f t =
      sym (ap not (all_below_fails (stays_off sequence h rs v s) (length rs) i l (ap not (ap (has_place sequence v s (get_or rs i 0)) (sym e) ∙ sym f ∙ t))))

  pub stays_off_lem : (i held : ℕ) (b : Bool) → all_below i (stays_off sequence h rs v s) ≡ true → held ≡ h (get_or rs i 0) → b ≡ has_place sequence v s (get_or rs i 0) held → b ≡ false → all_below (i + 1) (stays_off sequence h rs v s) ≡ true
  stays_off_lem i held b a e f t = all_more i (stays_off sequence h rs v s) a (ap not (ap (has_place sequence v s (get_or rs i 0)) (sym e) ∙ sym f ∙ t))

  pub nobody-leaves : (i : ℕ) → i ≤ length rs → length rs ≤ i → all_below i (stays_off sequence h rs v s) ≡ true → false ≡ not (all_below (length rs) (stays_off sequence h rs v s))
  nobody-leaves i a b e = ap not (turn_end (length rs) i (stays_off sequence h rs v s) a b e)

-- whether the place is left, as the code looks it up
module _ (sequence : ℕ → ℕ → Option ℕ) (h : Roster) (rs : List ℕ) (v : ℕ) (o : Option ℕ) where
  pub left_asked : (s : ℕ) (b : Bool) → o ≡ Some s → b ≡ not (all_below (length rs) (stays_off sequence h rs v s)) → b ≡ left_place sequence h rs v o
  unfolding left_place
  left_asked s b z e = rw z e

  pub left_none : o ≡ None → false ≡ left_place sequence h rs v o
  unfolding left_place
  left_none z = rw z
