-- Putting the old values back passes and restores the roster, if a row that was empty may be and no required row was. Assumes nothing.
use Prim.Native.Nat.{ℕ, ◌<◌}
use mathlib.Core.Path.{◌≡◌, refl, ap, ◌∙◌, fun_ext}
use mathlib.Core.Bool.{true}
use mathlib.Core.List.Memᴰ.{head as here}
use mathlib.Core.List.Memᴰ.{tail as there}
use mathlib.Core.List.{List, [], ◌∷◌}
use lib.Dec.{eqb}
use borrow.Author.Tests.{eqb-true, eqb-false}
use Rattle.basics.specs.Tests.{among}
use Rattle.basics.specs.Edits.{Edit, rows_of}
use Rattle.basics.proofs.Bools.{either}
use Rattle.basics.proofs.Lists.{◌∈◌}
use Rattle.rules.specs.Board.{Board, empty, legal_or_empty, value_legal}
use Rattle.rules.specs.Roster.{Roster, after}
use Rattle.rules.specs.FinalTest.{passes}
use Rattle.rules.specs.Sound.{Sound, Proper}
use Rattle.rules.proofs.Rosters.{untouched, touched}
use Rattle.soundness.specs.Demand3.{undo, Returnable}
use Rattle.soundness.proofs.Exact.{exact}

module _ (h : Roster) where
  rows_undo : (L : List Edit) → rows_of (undo h L) ≡ rows_of L
  unfolding rows_of undo
  rows_undo [] = refl
  rows_undo (e ∷ L) = ap (λ (l : List ℕ). e.row ∷ l) (rows_undo L)

  from-undo : (L : List Edit) {f : Edit} → f ∈ undo h L → (e : Edit) × (e ∈ L) × (f ≡ record { row = e.row; value = h e.row })
  unfolding undo
  from-undo [] {f = f} x = elim x [ ]
  from-undo (e ∷ L) (here q) = (e, here refl, q)
  from-undo (e ∷ L) (there m) = let (g, k, q) = from-undo L m in (g, there k, q)

  undo-value : (L : List Edit) {f : Edit} → f ∈ undo h L → f.value ≡ h f.row
  undo-value L m = let (e, _, q) = from-undo L m in rw q

  pub after-undo : (L : List Edit) → after (after h L) (undo h L) ≡ h
  after-undo L = fun_ext (λ r. either (among r (rows_of (undo h L)))
      (λ t. let (f, m, at, holds) = touched (after h L) (undo h L) r t in holds ∙ undo-value L m ∙ ap h at)
      (λ n. untouched (after h L) (undo h L) n ∙ untouched h L (rw rows_undo at n)))

-- what a sound roster holds is legal, if where it is empty it may be
old_legal : (B : Board) (h : Roster) → Sound B h → (r : ℕ) → r < B.rows → (h r ≡ empty → B.may_empty r ≡ true) → value_legal B r (h r) ≡ true
unfolding legal_or_empty
old_legal B h sound r l f =
    either (eqb (h r) empty) (λ t. rw t (f (eqb-true (h r) empty t))) (λ n. rw n (sound.holdings r l (eqb-false (h r) empty n)))

pub undone : (B : Board) (h : Roster) (L : List Edit) → Sound B h → passes B h L ≡ true → Returnable B h L
    → passes B (after h L) (undo h L) ≡ true
undone B h L sound t back =
    let (p, s) = (exact B h L sound).0 t in
    let proper : Proper B (after h L) (undo h L) = record {
      apart = rw rows_undo p.apart;
      each = λ f m. let (g, k, q) = from-undo h L m in
          rw q (record { within = (p.each g k).within; legal = old_legal B h sound g.row (p.each g k).within (back.legal g k); required = back.required g k });
    } in
    (exact B (after h L) (undo h L) s).1 (proper, rw after-undo sound)
