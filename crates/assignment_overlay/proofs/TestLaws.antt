-- The parts of both tests, one after the other. Assumes nothing.
use Prim.Native.Nat.{ℕ}
use mathlib.Core.Path.{◌≡◌, refl, sym, ap, ◌∙◌}
use mathlib.Core.Bool.{Bool, true, false, not, ◌&&◌, ◌||◌, and-true}
use mathlib.Core.List.{List, [], ◌∷◌}
use Rattle.std.specs.Prelude.{Option}
use lib.ListN.{length}
use lib.Dec.{ltb}
use borrow.Author.Tests.{not-true, not-false}
use Rattle.basics.specs.Tests.{all, distinct}
use Rattle.basics.specs.Edits.{Edit, rows_of, edits, Listed}
use Rattle.basics.proofs.Bools.{clash, and_left, and_right, and_join}
use Rattle.basics.proofs.Edits.{rows_edits}
use Rattle.rules.specs.Board.{Board, value_legal}
use Rattle.rules.specs.Roster.{Roster, after}
use Rattle.rules.specs.FinalTest.{edit_reads, reads, may_become, key_at, capacity_passes, edges_pass, passes}
use Rattle.rules.specs.Reinsertion.{beside_passes, reinserts}
use Rattle.overlay_reading.specs.Reading.{list_reads}
use Rattle.overlay_capacity.specs.Capacity.{key_room}

-- a list that reads has distinct rows in range
rows_below : (B : Board) (L : List Edit) → all (edit_reads B) L ≡ true → all (λ (x : ℕ). ltb x B.rows) (rows_of L) ≡ true
unfolding all rows_of edit_reads
rows_below B [] a = refl
rows_below B (e ∷ L) a =
    and_join (and_left (ltb e.row B.rows) _ (and_left (ltb e.row B.rows && value_legal B e.row e.value) _ a))
    (rows_below B L (and_right (ltb e.row B.rows && value_legal B e.row e.value) _ a))

pub list_told : (last : Bool) (B : Board) (h : Roster) (rs vs : List ℕ) (b : Bool) → length rs ≡ length vs → b ≡ list_reads last B h (edits rs vs) → not b ≡ false → Listed B.rows rs vs
unfolding list_reads reads
list_told last B h rs vs b e q t =
    let whole = sym q ∙ not-false b t in
    let r = and_left (distinct (rows_of (edits rs vs)) && all (edit_reads B) (edits rs vs)) _ whole in
    record {
      in_range = ap (all (λ (x : ℕ). ltb x B.rows)) (sym (rows_edits rs vs e)) ∙ rows_below B (edits rs vs) (and_right (distinct (rows_of (edits rs vs))) _ r);
      once = ap distinct (sym (rows_edits rs vs e)) ∙ and_left (distinct (rows_of (edits rs vs))) _ r;
      as_many = e;
    }

-- four tests, the first two of which are asked as one
stopped-first : (r x c d : Bool) → r && x ≡ false → false ≡ r && (x && (c && d))
stopped-first true true c d h = absurd (clash refl h)
stopped-first true false c d h = refl
stopped-first false x c d h = refl

stopped_next : (r x c d : Bool) → c ≡ false → false ≡ r && (x && (c && d))
stopped_next true true c d h = rw h
stopped_next true false c d h = refl
stopped_next false x c d h = refl

decided_last : (r x c d : Bool) → r && x ≡ true → c ≡ true → d ≡ r && (x && (c && d))
decided_last true true c d h k = rw k
decided_last true false c d h k = absurd (clash h refl)
decided_last false x c d h k = absurd (clash h refl)

-- the final test
module _ (B : Board) (h : Roster) (L : List Edit) (a : Bool) (e : a ≡ list_reads true B h L) where
  pub not_read : not a ≡ true → false ≡ passes B h L
  unfolding list_reads passes
  not_read t = stopped-first (reads B L) (all (may_become B h) L) (capacity_passes B h L) (edges_pass B h L) (sym e ∙ not-true a t)

  module _ (t : not a ≡ false) (b : Bool) (f : b ≡ capacity_passes B h L) where
    pub no_room : not b ≡ true → false ≡ passes B h L
    unfolding passes
    no_room u = stopped_next (reads B L) (all (may_become B h) L) (capacity_passes B h L) (edges_pass B h L) (sym f ∙ not-true b u)

    pub edges_decide : not b ≡ false → (d : Bool) → d ≡ edges_pass B h L → d ≡ passes B h L
    unfolding list_reads passes
    edges_decide u d g = g ∙ decided_last (reads B L) (all (may_become B h) L) (capacity_passes B h L) (edges_pass B h L) (sym e ∙ not-false a t) (sym f ∙ not-false b u)

-- the reinsertion test
module _ (B : Board) (h : Roster) (rs vs : List ℕ) (r v : ℕ) (a : Bool) (e : a ≡ list_reads false B h (edits rs vs)) where
  reads_are : reads B (edits rs vs) ≡ a
  unfolding list_reads
  reads_are = sym (e ∙ and-true (reads B (edits rs vs)))

  pub not_read_here : not a ≡ true → false ≡ reinserts B h (edits rs vs) r v
  unfolding reinserts
  not_read_here t = rw (reads_are, not-true a t)

  module _ (t : not a ≡ false) (q : Option ℕ) (i : q ≡ B.capacity r v) (b : Bool) (f : b ≡ key_room B h rs vs q) where
    key-is : key_at B (after h (edits rs vs)) r v ≡ b
    unfolding key_at
    key-is = sym (f ∙ ap (key_room B h rs vs) i)

    pub key_full : not b ≡ true → false ≡ reinserts B h (edits rs vs) r v
    unfolding reinserts
    key_full u = rw (reads_are, not-false a t, key-is, not-true b u)

    pub beside_decides : not b ≡ false → (d : Bool) → d ≡ not B.rule || beside_passes B (after h (edits rs vs)) r v → d ≡ reinserts B h (edits rs vs) r v
    unfolding reinserts
    beside_decides u d g = rw (reads_are, not-false a t, key-is, not-false b u) g
