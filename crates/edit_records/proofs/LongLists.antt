-- A list of over 128 edits never passes, since no board has so many rows; so the final test of what is gathered is the final test of all records. Assumes nothing.
use mathlib.Core.Path.{◌≡◌, refl, sym, ◌∙◌, ap, ap₂}
use mathlib.Core.Bool.{Bool, true, false}
use mathlib.Core.List.{List}
use Prim.Native.Nat.{ℕ, ◌≤◌}
use native.Mathlib.Omega.{arith}
use lib.ListN.{length, take, length-map}
use lib.IntN.{ℤ}
use borrow.Author.Tests.{eq-eqb}
use Rattle.std.specs.Prelude.{Ok, Err}
use Rattle.std.specs.Result.{result_and}
use Rattle.refusals.specs.Refusals.{Checked}
use Rattle.basics.specs.Edits.{edits}
use Rattle.basics.proofs.Bools.{either, by}
use Rattle.basics.proofs.Edits.{length-edits}
use Rattle.rules.specs.FinalTest.{passes}
use Rattle.rules.proofs.Passing.{few_edits}
use Rattle.assignment_tables.specs.declared.Shape.{Shape}
use Rattle.assignment_tables.specs.Tables.{board}
use Rattle.assignment_index.specs.Index.{roster_in}
use Rattle.assignment_state.specs.Admission.{admission}
use Rattle.assignment_state.proofs.AdmitLaws.{ready}
use Rattle.assignment_overlay.specs.Verdicts.{final_verdict}
use Rattle.edit_records.specs.declared.Edit.{Edit}
use Rattle.edit_records.specs.Records.{rows_in, values_in, gathered}
use Rattle.edit_records.proofs.GatherLaws.{rows_gathered, values-gathered, rows_full, values_full}

module _ (S : Shape) (m k : List ℕ) (p : List ℤ) (R M : List ℕ) where
  -- a refusal, else no
  module _ (rs vs : List ℕ) (e : length rs ≡ length vs) (l : 129 ≤ length rs) where
    fails : admission S m k p R M true ≡ Ok tt → passes (board S m k) (roster_in S.rows R) (edits rs vs) ≡ false
    fails a =
        either (passes (board S m k) (roster_in S.rows R) (edits rs vs))
        (λ t.
        let small = (ready S m k p R M true a).0.tables.marked.small.few_rows in
        absurd (omega (arith, length-edits rs vs e, few_edits (board S m k) (roster_in S.rows R) (edits rs vs) t)))
        (λ f. f)

    by_admission : (a : Checked) (b : Bool) → (a ≡ Ok tt → b ≡ false) → result_and a (Ok b) ≡ result_and a (Ok false)
    by_admission (Ok tt) b f = ap Ok (f refl)
    by_admission (Err r) b f = refl

    pub long_fails : final_verdict S m k p R M rs vs ≡ result_and (admission S m k p R M true) (Ok false)
    unfolding final_verdict
    long_fails =
        rw (eq-eqb (length rs) (length vs) e)
        (by_admission (admission S m k p R M true) (passes (board S m k) (roster_in S.rows R) (edits rs vs)) fails)

  pub same_verdict : (es : List Edit)
      → final_verdict S m k p R M (take (gathered es).count (gathered es).rows) (take (gathered es).count (gathered es).values)
      ≡ final_verdict S m k p R M (rows_in es) (values_in es)
  same_verdict es =
      by (length es) 130
      (λ l. ap₂ (final_verdict S m k p R M) (rows_gathered es (omega arith)) (values-gathered es (omega arith)))
      (λ l.
      let rows = rows_full es (omega arith) in
      let values = values_full es (omega arith) in
      long_fails (take (gathered es).count (gathered es).rows) (take (gathered es).count (gathered es).values) (rows ∙ sym values) (omega arith)
      ∙ sym (long_fails (rows_in es) (values_in es) (length-map es _ ∙ sym (length-map es _)) (omega (arith, length-map es (λ (e : Edit). e.row)))))
