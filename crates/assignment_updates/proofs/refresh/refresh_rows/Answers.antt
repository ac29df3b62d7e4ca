-- `assignment_updates::refresh::refresh_rows` meets its contract. Assumes nothing.
use mathlib.Core.Path.{◌∙◌, sym, ap}
use lib.ListN.{length}
use lib.Dec.{eqb}
use borrow.Author.Tests.{eqb-true}
use Rattle.assignment_index.specs.Index.{members_of}
use Rattle.refusals.proofs.AnswerLaws.{passed_on}
use Rattle.assignment_state.proofs.AdmitLaws.{ready}
use Rattle.assignment_updates.proofs.RefreshLaws.{left-told, not_admitted, bad_list, advanced, rows_in_range, rows_distinct}
use Rattle.assignment_updates.proofs.refresh.refresh_rows.Goals as goal

pub returns-in_err-admit : goal.returns-in_err-admit
returns-in_err-admit c = let s = c.args in let both = left-told _ _ _ _ (not_admitted s.tables.now.shape s.tables.now.marks.now s.tables.now.keys.now s.tables.now.ranks.now s.records.now s.members.now s.list_rows.now s.list_values.now _ c.admit.ensures c.in_err-admit.field-0.0 c.in_err-admit.was) in record { value = passed_on _ _ c.from_residual.ensures ∙ both.0; records_value = both.1.0; members_value = both.1.1 }

pub list_refusal-requires : goal.list_refusal-requires
list_refusal-requires c = let s = c.args in eqb-true _ _ (ready s.tables.now.shape s.tables.now.marks.now s.tables.now.keys.now s.tables.now.ranks.now s.records.now s.members.now (eqb (length s.list_rows.now) (length s.list_values.now)) (sym c.admit.ensures ∙ c.in_ok-admit.was)).1

pub returns-in_err-list_refusal : goal.returns-in_err-list_refusal
returns-in_err-list_refusal c = let s = c.args in let both = left-told _ _ _ _ (bad_list s.tables.now.shape s.tables.now.marks.now s.tables.now.keys.now s.tables.now.ranks.now s.records.now s.members.now s.list_rows.now s.list_values.now _ c.admit.ensures c.in_ok-admit.was _ c.list_refusal.ensures c.in_err-list_refusal.field-0.0 c.in_err-list_refusal.was) in record { value = passed_on _ _ c.from_residual-in_err-list_refusal.ensures ∙ both.0; records_value = both.1.0; members_value = both.1.1 }

pub refresh-requires : goal.refresh-requires
refresh-requires c = let s = c.args in let r = ready s.tables.now.shape s.tables.now.marks.now s.tables.now.keys.now s.tables.now.ranks.now s.records.now s.members.now (eqb (length s.list_rows.now) (length s.list_values.now)) (sym c.admit.ensures ∙ c.in_ok-admit.was) in let z = sym c.list_refusal.ensures ∙ c.in_ok-list_refusal.was in record { indexed = r.0.index; listed = record { in_range = rows_in_range s.tables.now.shape s.list_rows.now s.list_values.now z; once = rows_distinct s.tables.now.shape s.list_rows.now s.list_values.now z; as_many = eqb-true _ _ r.1 } }

pub returns : goal.returns
returns c = let s = c.args in let x = advanced s.tables.now.shape s.tables.now.marks.now s.tables.now.keys.now s.tables.now.ranks.now s.records.now s.members.now s.list_rows.now s.list_values.now _ c.admit.ensures c.in_ok-admit.was _ c.list_refusal.ensures c.in_ok-list_refusal.was in let y = left-told _ _ _ _ x in let r = c.refresh.ensures in record { value = y.0; records_value = r.records_value ∙ y.1.0; members_value = r.members_value ∙ ap (members_of s.tables.now.shape.rows) r.records_value ∙ y.1.1 }
