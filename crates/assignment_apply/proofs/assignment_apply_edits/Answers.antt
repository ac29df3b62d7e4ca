-- `assignment_apply::assignment_apply_edits` meets its contract. Assumes nothing.
use Rattle.refusals.proofs.AnswerLaws.{passed_on}
use Rattle.applied_lists.proofs.ApplyLaws.{refused, admitted, answered}
use Rattle.assignment_apply.proofs.assignment_apply_edits.Goals as goal

pub returns-in_err-admit : goal.returns-in_err-admit
returns-in_err-admit c = let s = c.args in
    refused s.tables.now.shape s.tables.now.marks.now s.tables.now.keys.now s.tables.now.ranks.now s.records.now s.members.now s.list_rows.now s.list_values.now _ c.admit.ensures _ c.in_err-admit.was _ (passed_on _ _ c.from_residual.ensures)

pub apply_list-requires : goal.apply_list-requires
apply_list-requires c = let s = c.args in let both = admitted s.tables.now.shape s.tables.now.marks.now s.tables.now.keys.now s.tables.now.ranks.now s.records.now s.members.now s.list_rows.now s.list_values.now _ c.admit.ensures c.in_ok-admit.was in record { indexed = both.0; list_rows_len = both.1 }

pub returns : goal.returns
returns c = let s = c.args in
    answered s.tables.now.shape s.tables.now.marks.now s.tables.now.keys.now s.tables.now.ranks.now s.records.now s.members.now s.list_rows.now s.list_values.now _ c.admit.ensures c.in_ok-admit.was _ c.apply_list.ensures
