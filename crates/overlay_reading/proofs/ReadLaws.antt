-- How the reading of a list goes, entry by entry. Assumes nothing.
use Prim.Native.Nat.{ℕ, ◌≤◌, ◌<◌}
use mathlib.Core.Path.{◌≡◌, refl, sym, ap, ap₂, ◌∙◌}
use mathlib.Core.Bool.{Bool, true, false, not, ◌&&◌, ◌||◌, and-true}
use mathlib.Core.List.{List}
use lib.ListN.{length, get_or}
use lib.Dec.{ltb}
use borrow.Author.Tests.{lt-ltb, le-ltb, eq-eqb, ne_eqb, not-true, not-false}
use Rattle.basics.specs.Tests.{all, all_below, distinct}
use Rattle.basics.specs.Edits.{Edit, rows_of, edits, fresh}
use Rattle.basics.proofs.Bools.{and_false, and_assoc}
use Rattle.basics.proofs.Lists.{all_of, all_same, all_and}
use Rattle.basics.proofs.Below.{all_below_and}
use Rattle.basics.proofs.Edits.{rows_edits, all-edits, distinct-fresh}
use Rattle.rules.specs.Board.{empty, legal_or_empty}
use Rattle.rules.specs.Roster.{Roster}
use Rattle.rules.specs.FinalTest.{edit_reads, reads, may_become}
use Rattle.assignment_tables.specs.declared.Shape.{Shape}
use Rattle.assignment_tables.specs.Tables.{required_at, may_empty_at, legal_at, board}
use Rattle.overlay_reading.specs.Reading.{list_reads, edit_fits, entry_reads}

-- one edit
module _ (last : Bool) (S : Shape) (m : List ℕ) (r v : ℕ) where
  pub out_of_range : S.rows ≤ r → false ≡ edit_fits last S m r v
  unfolding edit_fits
  out_of_range p = rw (le-ltb _ _ p)

  module _ (p : r < S.rows) (b : Bool) (e : b ≡ legal_or_empty (may_empty_at S m) (legal_at S m) r v) where
    pub illegal : not b ≡ true → false ≡ edit_fits last S m r v
    unfolding edit_fits
    illegal t = rw (lt-ltb _ _, ← e, not-true b t)

    module _ (t : not b ≡ false) where
      pub not_asked : not last ≡ true → true ≡ edit_fits last S m r v
      unfolding edit_fits
      not_asked u = rw (lt-ltb _ _, ← e, not-false b t, not-true last u)

      pub keeps_a-value : not last ≡ false → (v ≡ empty → ⊥) → true ≡ edit_fits last S m r v
      unfolding edit_fits
      keeps_a-value u n = rw (lt-ltb _ _, ← e, not-false b t, not-false last u, ne_eqb _ _ n)

      pub emptied : not last ≡ false → v ≡ empty → (d : Bool) → d ≡ required_at S m r → not d ≡ edit_fits last S m r v
      unfolding edit_fits
      emptied u n d q = rw (lt-ltb _ _, ← e, not-false b t, not-false last u, eq-eqb _ _ n, q)

-- one entry
module _ (last : Bool) (S : Shape) (m rs vs : List ℕ) (i : ℕ) (b : Bool) (e : b ≡ edit_fits last S m (get_or rs i 0) (get_or vs i 0)) where
  pub unfit : not b ≡ true → false ≡ entry_reads last S m rs vs i
  unfolding entry_reads
  unfit t = rw (← e, not-true b t)

  pub named-once : not b ≡ false → (d : Bool) → d ≡ fresh rs i → d ≡ entry_reads last S m rs vs i
  unfolding entry_reads
  named-once t d q = rw (← e, not-false b t) q

-- a test that is asked only sometimes
all_if : (last : Bool) (q : Edit → Bool) (L : List Edit) → all (λ (f : Edit). not last || q f) L ≡ not last || all q L
all_if true q L = refl
all_if false q L = all_of (λ (f : Edit). true) L (λ f u. refl)

regroup : (a b c : Bool) → a && b && c ≡ c && a && b
regroup a b true = and-true (a && b)
regroup a b false = and_false (a && b)

-- the whole list: every entry reads
module _ (last : Bool) (S : Shape) (m rs vs : List ℕ) (e : length rs ≡ length vs) (k : List ℕ) (h : Roster) where
  edit_by_tables : (f : Edit) → edit_fits last S m f.row f.value ≡ edit_reads (board S m k) f && (not last || may_become (board S m k) h f)
  unfolding edit_fits edit_reads may_become
  edit_by_tables f = and_assoc (ltb f.row S.rows) (legal_or_empty (may_empty_at S m) (legal_at S m) f.row f.value) _

  pub whole : all_below (length rs) (entry_reads last S m rs vs) ≡ list_reads last (board S m k) h (edits rs vs)
  unfolding entry_reads list_reads reads
  whole =
      all_below_and (λ (i : ℕ). edit_fits last S m (get_or rs i 0) (get_or vs i 0)) (fresh rs) (length rs)
      ∙ ap₂ ◌&&◌
      (sym (all-edits (λ (f : Edit). edit_fits last S m f.row f.value) rs vs e) ∙ all_same _ _ (edits rs vs) (λ f u. edit_by_tables f)
      ∙ all_and (edit_reads (board S m k)) (λ (f : Edit). not last || may_become (board S m k) h f) (edits rs vs)
      ∙ ap (λ (b : Bool). all (edit_reads (board S m k)) (edits rs vs) && b) (all_if last (may_become (board S m k) h) (edits rs vs)))
      (sym (distinct-fresh rs) ∙ ap distinct (sym (rows_edits rs vs e)))
      ∙ regroup (all (edit_reads (board S m k)) (edits rs vs)) (not last || all (may_become (board S m k) h) (edits rs vs)) (distinct (rows_of (edits rs vs)))
