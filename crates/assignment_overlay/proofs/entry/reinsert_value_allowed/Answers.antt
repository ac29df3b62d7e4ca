-- `assignment_overlay::entry::reinsert_value_allowed` meets its contract. Assumes nothing.
use mathlib.Core.Path.{◌∙◌, sym}
use lib.ListN.{length}
use lib.Dec.{eqb}
use borrow.Author.Tests.{eqb-true}
use Rattle.refusals.proofs.AnswerLaws.{passed_on}
use Rattle.assignment_state.proofs.AdmitLaws.{ready}
use Rattle.assignment_overlay.specs.Verdicts.{reinsert_verdict}
use Rattle.assignment_overlay.proofs.entry.reinsert_value_allowed.Goals as goal

pub returns-in_err-admit : goal.returns-in_err-admit
unfolding reinsert_verdict
returns-in_err-admit c = passed_on _ _ c.from_residual.ensures ∙ (rw (← c.admit.ensures, c.in_err-admit.was))

pub reinsert_test-requires : goal.reinsert_test-requires
reinsert_test-requires c = let r = ready c.args.tables.now.shape c.args.tables.now.marks.now c.args.tables.now.keys.now c.args.tables.now.ranks.now c.args.index.now.records.now c.args.index.now.members.now (eqb (length c.args.list_rows.now) (length c.args.list_values.now)) (sym c.admit.ensures ∙ c.in_ok-admit.was) in record { indexed = r.0.index; list_rows_len = eqb-true _ _ r.1 }

pub returns : goal.returns
unfolding reinsert_verdict
returns c = rw (← c.admit.ensures, c.in_ok-admit.was, c.reinsert_test.ensures)
