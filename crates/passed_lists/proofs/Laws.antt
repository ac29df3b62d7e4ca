-- A list that passes is taken by a refresh, and what is ready is admitted. Assumes nothing.
use Prim.Native.Nat.{ℕ, zero, suc, ◌+◌, ◌<◌, ◌≤◌}
use mathlib.Core.Path.{◌≡◌, refl, sym, ap, ◌∙◌}
use mathlib.Core.Bool.{true, ◌&&◌}
use mathlib.Core.List.{List, [], ◌∷◌, map}
use native.Mathlib.Omega.{arith}
use lib.ListN.{length, get_or}
use lib.Dec.{eqb, ltb}
use lib.IntN.{ℤ}
use borrow.Author.Tests.{eq-eqb, lt-ltb}
use Rattle.std.specs.Prelude.{Ok}
use Rattle.refusals.specs.Refusals.{Checked}
use Rattle.basics.specs.Tests.{all, distinct}
use Rattle.basics.specs.Edits.{Edit, edits, edit_at, fresh, Listed}
use Rattle.basics.proofs.Bools.{either, and_left, and_right, and_join}
use Rattle.basics.proofs.Lists.{◌∈◌, at_place, same_numbers_iff}
use Rattle.basics.proofs.Below.{all_below_at}
use Rattle.basics.proofs.Edits.{get_d_edits, length-edits, distinct-fresh, rows_edits}
use Rattle.rules.specs.Board.{Board, empty, legal_or_empty, value_legal}
use Rattle.rules.specs.Roster.{Roster}
use Rattle.rules.specs.FinalTest.{passes}
use Rattle.rules.proofs.Passing.{passes_iff, rows_within}
use Rattle.soundness.specs.Demand3.{undo}
use Rattle.assignment_tables.specs.declared.Shape.{Shape}
use Rattle.assignment_tables.specs.Cells.{cell_flag}
use Rattle.assignment_tables.specs.Tables.{board}
use Rattle.assignment_tables.specs.Refusal.{tables_refusal}
use Rattle.assignment_tables.proofs.RefusalLaws.{admitted_iff}
use Rattle.assignment_index.specs.Index.{is_index}
use Rattle.assignment_state.specs.Admission.{holdable, index_lengths, admission, Ready}
use Rattle.assignment_state.proofs.AdmitLaws.{few_enough, is_admitted}
use Rattle.assignment_updates.specs.Refresh.{entry_refusal, first_refusal, list_refusal}

none_refused : (f : ℕ → Checked) (n i : ℕ) → ((j : ℕ) → i ≤ j → j < i + n → f j ≡ Ok tt) → first_refusal f i n ≡ Ok tt
unfolding first_refusal
none_refused f zero i h = refl
none_refused f (suc n) i h =
    rw (h i (omega arith) (omega arith)) (none_refused f n (suc i) (λ j a b. h j (omega arith) (omega arith)))

-- the rows of a list that passes are distinct and in range
pub passing-listed : (B : Board) (h : Roster) (rs vs : List ℕ) → length rs ≡ length vs → passes B h (edits rs vs) ≡ true → Listed B.rows rs vs
passing-listed B h rs vs e t =
    let p = ((passes_iff B h (edits rs vs)).0 t).0 in
    record {
      in_range = ap (all (λ (x : ℕ). ltb x B.rows)) (sym (rows_edits rs vs e)) ∙ rows_within B.rows (edits rs vs) (λ d m. (p.each d m).within);
      once = ap distinct (sym (rows_edits rs vs e)) ∙ p.apart;
      as_many = e;
    }

module _ (S : Shape) (m k : List ℕ) where
  -- a legal value may be held
  legal_holdable : (r v : ℕ) → value_legal (board S m k) r v ≡ true → holdable S v ≡ true
  unfolding legal_or_empty holdable cell_flag
  legal_holdable r v t =
      either (eqb v empty)
      (λ e. rw e)
      (λ n. rw n (and_left (ltb v S.values) _ (and_right (ltb r S.rows) _ (rw n at t))))

  -- so no entry of a list that passes is refused by a refresh
  pub passing-taken : (h : Roster) (rs vs : List ℕ) → length rs ≡ length vs → passes (board S m k) h (edits rs vs) ≡ true → list_refusal S rs vs ≡ Ok tt
  unfolding list_refusal entry_refusal
  passing-taken h rs vs e t = none_refused (entry_refusal S rs vs) (length rs) 0 (λ i _ l. one i (omega arith))
    where
      one : (i : ℕ) → i < length rs → entry_refusal S rs vs i ≡ Ok tt
      one i l =
          let q = ((passes_iff (board S m k) h (edits rs vs)).0 t).0 in
          let d : Edit = record { row = 0; value = 0 } in
          let member : edit_at rs vs i ∈ edits rs vs = rw (get_d_edits rs vs i d e l) at (at_place d (edits rs vs) i (omega (arith, length-edits rs vs e))) in
          let fit = q.each (edit_at rs vs i) member in
          let new = all_below_at (fresh rs) (length rs) (sym (distinct-fresh rs) ∙ ap distinct (sym (rows_edits rs vs e)) ∙ q.apart) i l in
          rw (lt-ltb (get_or rs i 0) S.rows fit.within, new, legal_holdable (get_or rs i 0) (get_or vs i 0) fit.legal)

-- what is ready is admitted
pub ready_admitted : (S : Shape) (m k : List ℕ) (p : List ℤ) (R M : List ℕ) → Ready S m k p R M → admission S m k p R M true ≡ Ok tt
unfolding is_index
ready_admitted S m k p R M w =
    let lengths : index_lengths S R M ≡ true = sym (few_enough S R M w.tables.marked.small.few_rows) ∙ and_join (eq-eqb _ _ w.records_long) (eq-eqb _ _ w.members_long) in
    let tables : tables_refusal S m k p (true && index_lengths S R M) ≡ Ok tt = (admitted_iff S m k p (true && index_lengths S R M)).1 (w.tables, lengths) in
    let index : is_index S m k R M ≡ true = and_join ((same_numbers_iff _ _).1 w.index.records_right) ((same_numbers_iff _ _).1 w.index.members_right) in
    sym (is_admitted S m k p R M true (index_lengths S R M) refl (tables_refusal S m k p (true && index_lengths S R M)) refl tables true (sym w.all_holdable) refl true (sym index) refl)

-- the list of old values, as two slices
pub undo-edits : (h : Roster) (rs vs : List ℕ) → length rs ≡ length vs → undo h (edits rs vs) ≡ edits rs (map h rs)
unfolding undo edits
undo-edits h [] vs e = refl
undo-edits h (r ∷ rs) [] e = absurd (omega arith)
undo-edits h (r ∷ rs) (v ∷ vs) e = ap (λ (L : List Edit). record { row = r; value = h r } ∷ L) (undo-edits h rs vs (omega arith))
