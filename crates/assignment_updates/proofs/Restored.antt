-- Putting the old values back restores the index, cell by cell (docs/RULES.md, 4.3); and the index of a roster is one. Assumes nothing.
use Prim.Native.Nat.{ℕ}
use mathlib.Core.Path.{◌≡◌, sym, ap, ◌∙◌}
use mathlib.Core.List.{List}
use Rattle.basics.specs.Edits.{Edit}
use Rattle.rules.specs.Roster.{Roster, after}
use Rattle.soundness.specs.Demand3.{undo}
use Rattle.soundness.proofs.Demand3.{demand3}
use Rattle.assignment_tables.specs.declared.Shape.{Shape}
use Rattle.assignment_tables.specs.Tables.{board}
use Rattle.assignment_index.specs.Index.{members_of, roster_in, Indexed}
use Rattle.assignment_updates.specs.Refresh.{records_by}

module _ (S : Shape) (m k R M : List ℕ) (w : Indexed S m k R M) where
  abbrev h : Roster
  h = roster_in S.rows R

  pub records_restored : (L : List Edit) → records_by S m k (after (after h L) (undo h L)) ≡ R
  records_restored L = ap (records_by S m k) ((demand3 (board S m k) h).undoes L).1 ∙ sym w.records_right

  pub members_restored : (L : List Edit) → members_of S.rows (records_by S m k (after (after h L) (undo h L))) ≡ M
  members_restored L = ap (members_of S.rows) (records_restored L) ∙ sym w.members_right

-- two indexes of one roster under one board are the same, to the last cell
pub one_index : (S : Shape) (m k R M R' M' : List ℕ) → Indexed S m k R M → Indexed S m k R' M' → roster_in S.rows R ≡ roster_in S.rows R' → (R ≡ R') × (M ≡ M')
one_index S m k R M R' M' w u e =
    let same = w.records_right ∙ ap (records_by S m k) e ∙ sym u.records_right in
    (same, w.members_right ∙ ap (members_of S.rows) same ∙ sym u.members_right)
