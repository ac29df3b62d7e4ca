-- An index that was refreshed is again one that is admitted, and is what building afresh would write. Assumes nothing.
use Prim.Native.Nat.{ℕ, ◌+◌, ◌*◌, ◌≤◌, ◌<◌}
use mathlib.Core.Path.{◌≡◌, refl, sym, ap, subst, ◌∙◌}
use mathlib.Core.Bool.{true}
use mathlib.Core.List.{List}
use native.Mathlib.Omega.{arith}
use Rattle.std.specs.Prelude.{Ok}
use lib.ListN.{length, get_or}
use lib.IntN.{ℤ}
use borrow.Author.Tests.{le-leb, eq-eqb}
use Rattle.basics.proofs.Below.{all_below_of, all_below-same, list_below_at}
use Rattle.rules.specs.Board.{empty}
use Rattle.rules.specs.Roster.{Roster}
use Rattle.assignment_tables.specs.declared.Shape.{Shape}
use Rattle.assignment_tables.specs.Tables.{capacity_at, sequence_at}
use Rattle.assignment_tables.specs.Refusal.{Admitted}
use Rattle.assignment_tables.proofs.RefusalLaws.{admitted_iff}
use Rattle.assignment_index.specs.Columns.{column, records_length, members_length}
use Rattle.assignment_index.specs.Index.{members_of, roster_in}
use Rattle.assignment_index.proofs.ColumnLaws.{get_d_column, column-length}
use Rattle.assignment_index.proofs.Records.{records-length, values_are, roster_back}
use Rattle.assignment_index.proofs.Changes.{members_length_lem}
use Rattle.assignment_state.specs.Admission.{index_lengths, holdable, all_holdable, Ready}
use Rattle.assignment_updates.specs.Refresh.{records_by, Left, built, build_refusal}
use Rattle.assignment_updates.proofs.RefreshLaws.{indexed_anew}

-- the index of a roster that holds what may be held, and nothing past its rows, is admitted
module _ (S : Shape) (m k : List ℕ) (p : List ℤ) (a : Admitted S m k p) (h : Roster) where
  abbrev R : List ℕ
  R = records_by S m k h

  held_at : (r : ℕ) → r < S.rows → get_or R r 0 ≡ h r
  held_at r l =
      let e : 0 * S.rows + r ≡ r = omega arith in
      subst (λ (i : ℕ). get_or R i 0 ≡ h r) e
      (sym (get_d_column S.rows 0 R r l) ∙ ap (λ (c : List ℕ). get_or c r 0) (values_are S.rows (capacity_at S m k) (sequence_at S m k) h) ∙ list_below_at S.rows h r 0 l)

  pub index_ready : ((r : ℕ) → S.rows ≤ r → h r ≡ empty) → ((r : ℕ) → r < S.rows → holdable S (h r) ≡ true) → Ready S m k p R (members_of S.rows R)
  unfolding all_holdable
  index_ready past each = record {
    tables = a;
    records_long = records-length S.rows (capacity_at S m k) (sequence_at S m k) h;
    members_long = members_length_lem S.rows R;
    all_holdable = all_below_of _ S.rows (λ r l. ap (holdable S) (held_at r l) ∙ each r l);
    index = record {
      marked = a.marked;
      keys_long = a.keys_long;
      records_right = ap (records_by S m k) (sym (roster_back S.rows (capacity_at S m k) (sequence_at S m k) h past));
      members_right = refl;
    };
  }

-- what is admitted is what building from the held values writes, over whatever stood in the slices
module _ (S : Shape) (m k : List ℕ) (p : List ℤ) (R M : List ℕ) (w : Ready S m k p R M) where
  pub built_afresh : (R' M' : List ℕ) → length R' ≡ records_length S.rows → length M' ≡ members_length S.rows
      → built S m k p (column S.rows 0 R) R' M' ≡ record { answer = Ok tt; records = R; members = M }
  unfolding built build_refusal index_lengths all_holdable
  built_afresh R' M' u v =
      let few = w.tables.marked.small.few_rows in
      rw (eq-eqb _ _ values_long, le-leb _ _ few, eq-eqb _ _ u, eq-eqb _ _ v, (admitted_iff S m k p true).1 (w.tables, refl), holdable-values)
      (indexed_anew S m k (roster_in S.rows R) R' M' _ refl ∙ same)
    where
      values_long : length (column S.rows 0 R) ≡ S.rows
      values_long = column-length S.rows 0 R (omega (arith, w.records_long))

      holdable-values : all_holdable S (column S.rows 0 R) ≡ true
      holdable-values =
          all_below-same _ _ S.rows (λ r l. let e : 0 * S.rows + r ≡ r = omega arith in ap (holdable S) (get_d_column S.rows 0 R r l ∙ ap (λ (i : ℕ). get_or R i 0) e))
          ∙ w.all_holdable

      same : ◌≡◌ {A = Left} (record { answer = Ok tt; records = records_by S m k (roster_in S.rows R); members = members_of S.rows (records_by S m k (roster_in S.rows R)) }) (record { answer = Ok tt; records = R; members = M })
      same = λ i. record {
        answer = Ok tt;
        records = sym w.index.records_right i;
        members = (ap (members_of S.rows) (sym w.index.records_right) ∙ sym w.index.members_right) i;
      }
