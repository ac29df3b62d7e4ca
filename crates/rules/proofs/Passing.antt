-- What it says that a list passes the final test. Assumes nothing.
use Prim.Native.Nat.{ℕ, ◌≤◌, ◌<◌}
use mathlib.Core.Path.{◌≡◌, refl}
use mathlib.Core.Logic.{◌↔◌, ◌⊎◌, inl, inr, ⊎_elim}
use mathlib.Core.Bool.{Bool, true}
use mathlib.Core.List.Memᴰ.{head as here}
use mathlib.Core.List.Memᴰ.{tail as there}
use mathlib.Core.List.{List, [], ◌∷◌}
use native.Mathlib.Omega.{arith}
use lib.ListN.{length}
use lib.Dec.{ltb}
use borrow.Author.Tests.{lt-ltb}
use Rattle.basics.specs.Tests.{all}
use Rattle.basics.specs.Edits.{Edit, rows_of}
use Rattle.basics.proofs.Bools.{and_left, and_right, and_join}
use Rattle.basics.proofs.Lists.{◌∈◌, all_at_lem, all_of}
use Rattle.basics.proofs.Below.{pigeon}
use Rattle.basics.proofs.Edits.{length_rows}
use Rattle.rules.specs.Board.{Board}
use Rattle.rules.specs.Roster.{Roster, after}
use Rattle.rules.specs.FinalTest.{reads, may_become, at_edits, capacity_passes, edges_pass, passes}
use Rattle.rules.specs.Sound.{Proper}
use Rattle.rules.proofs.Rosters.{spot}
use Rattle.rules.proofs.Reading.{proper_iff}

module _ (t : ℕ → ℕ → Bool) (h : Roster) (L : List Edit) where
  pub at_edits_iff : at_edits t h L ≡ true ↔ ((e : Edit) → e ∈ L → (t e.row (h e.row) ≡ true) × (t e.row e.value ≡ true))
  unfolding at_edits
  at_edits_iff = (
    λ a e m. let both = all_at_lem _ a m in (and_left (t e.row (h e.row)) _ both, and_right (t e.row (h e.row)) _ both),
    λ f. all_of _ L (λ e m. and_join (f e m).0 (f e m).1),
  )

  -- so it passes at the old and at the new holding of every row that does not hold what it held
  pub judged : at_edits t h L ≡ true → (r : ℕ) → (after h L r ≡ h r) ⊎ ((t r (h r) ≡ true) × (t r (after h L r) ≡ true))
  judged a r = ⊎_elim inl (λ (e, m, p, q). let (old, new) = at_edits_iff.0 a e m in inr (rw p at old, rw (q, ← p) new)) (spot h L r)

pub passes_iff : (B : Board) (h : Roster) (L : List Edit) → passes B h L ≡ true
    ↔ (Proper B h L × (capacity_passes B h L ≡ true) × (edges_pass B h L ≡ true))
unfolding passes
passes_iff B h L = (
  λ t.
      let first = and_right (reads B L) _ t in
      let second = and_right (all (may_become B h) L) _ first in (
        (proper_iff B h L).0 (and_left (reads B L) _ t, and_left (all (may_become B h) L) _ first),
        and_left (capacity_passes B h L) _ second,
        and_right (capacity_passes B h L) _ second,
      ),
  λ (p, c, d). let (reading, becoming) = (proper_iff B h L).1 p in and_join reading (and_join becoming (and_join c d)),
)

-- ---- a list that passes names no more rows than there are

pub rows_within : (n : ℕ) (L : List Edit) → ((e : Edit) → e ∈ L → e.row < n) → all (λ (x : ℕ). ltb x n) (rows_of L) ≡ true
unfolding all rows_of
rows_within n [] f = refl
rows_within n (e ∷ L) f = and_join (lt-ltb e.row n (f e (here refl))) (rows_within n L (λ d m. f d (there m)))

pub few_edits : (B : Board) (h : Roster) (L : List Edit) → passes B h L ≡ true → length L ≤ B.rows
few_edits B h L t =
    let p = ((passes_iff B h L).0 t).0 in
    omega (arith, length_rows L, pigeon B.rows (rows_of L) p.apart (rows_within B.rows L (λ e m. (p.each e m).within)))
