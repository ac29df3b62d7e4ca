-- What it says that a list reads and empties no required row: it is proper. Assumes nothing.
use Prim.Native.Nat.{◌<◌}
use mathlib.Core.Path.{◌≡◌}
use mathlib.Core.Logic.{◌↔◌}
use mathlib.Core.Bool.{true}
use mathlib.Core.List.{List}
use lib.Dec.{eqb, ltb}
use borrow.Author.Tests.{eqb-true, eq-eqb, ltb-true, lt-ltb}
use Rattle.basics.specs.Tests.{all, distinct}
use Rattle.basics.specs.Edits.{Edit, rows_of}
use Rattle.basics.proofs.Bools.{and_left, and_right, and_join, nand}
use Rattle.basics.proofs.Lists.{◌∈◌, all_at_lem, all_of}
use Rattle.rules.specs.Board.{Board, empty, value_legal}
use Rattle.rules.specs.Roster.{Roster}
use Rattle.rules.specs.FinalTest.{edit_reads, reads, may_become}
use Rattle.rules.specs.Sound.{Fit, Proper}

module _ (B : Board) where
  pub edit-reads_iff : (e : Edit) → edit_reads B e ≡ true ↔ ((e.row < B.rows) × (value_legal B e.row e.value ≡ true))
  unfolding edit_reads
  edit-reads_iff e = (
    λ h. (ltb-true e.row B.rows (and_left (ltb e.row B.rows) _ h), and_right (ltb e.row B.rows) _ h),
    λ (l, v). and_join (lt-ltb e.row B.rows l) v,
  )

  pub reads_iff : (L : List Edit) → reads B L ≡ true
      ↔ ((distinct (rows_of L) ≡ true) × ((e : Edit) → e ∈ L → (e.row < B.rows) × (value_legal B e.row e.value ≡ true)))
  unfolding reads
  reads_iff L = (
    λ h. (and_left (distinct (rows_of L)) _ h, λ e m. (edit-reads_iff e).0 (all_at_lem (edit_reads B) (and_right (distinct (rows_of L)) _ h) m)),
    λ (d, f). and_join d (all_of (edit_reads B) L (λ e m. (edit-reads_iff e).1 (f e m))),
  )

  pub may_become_iff : (h : Roster) (e : Edit) → may_become B h e ≡ true ↔ (B.required e.row ≡ true → e.value ≡ empty → ⊥)
  unfolding may_become
  may_become_iff h e =
      let both = nand (eqb e.value empty) (B.required e.row) in
      (λ t q v. both.0 t (eq-eqb e.value empty v) q, λ f. both.1 (λ v q. f q (eqb-true e.value empty v)))

  pub proper_iff : (h : Roster) (L : List Edit) → ((reads B L ≡ true) × (all (may_become B h) L ≡ true)) ↔ Proper B h L
  proper_iff h L = (
    λ (t, k). let (d, f) = (reads_iff L).0 t in
        record {
          apart = d;
          each = λ e m. record { within = (f e m).0; legal = (f e m).1; required = (may_become_iff h e).0 (all_at_lem (may_become B h) k m) };
        },
    λ p. (
      (reads_iff L).1 (p.apart, λ e m. ((p.each e m).within, (p.each e m).legal)),
      all_of (may_become B h) L (λ e m. (may_become_iff h e).1 (p.each e m).required),
    ),
  )

  -- so far no rule on what may change reads the roster
  pub fits_anywhere : {g : Roster} (h : Roster) {e : Edit} → Fit B g e → Fit B h e
  fits_anywhere h f = record { within = f.within; legal = f.legal; required = f.required }
