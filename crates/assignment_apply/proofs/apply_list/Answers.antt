-- `assignment_apply::apply_list` meets its contract. Assumes nothing.
use mathlib.Core.Path.{ap}
use mathlib.Core.Bool.{not}
use Rattle.applied_lists.proofs.ApplyLaws.{fails, listed, goes}
use Rattle.assignment_apply.proofs.apply_list.Goals as goal

pub returns-then-not-final_test : goal.returns-then-not-final_test
returns-then-not-final_test c = let s = c.args in
    fails s.tables.now.shape s.tables.now.marks.now s.tables.now.keys.now s.records.now s.members.now s.list_rows.now s.list_values.now _ c.final_test.ensures (ap not c.if-not-final_test.true)

pub refresh-requires : goal.refresh-requires
refresh-requires c = let s = c.args in record { indexed = c.requires.indexed; listed = listed s.tables.now.shape s.tables.now.marks.now s.tables.now.keys.now s.records.now s.members.now s.list_rows.now s.list_values.now _ c.final_test.ensures c.requires.list_rows_len (ap not c.if-not-final_test.false) }

pub returns : goal.returns
returns c = let s = c.args in
    let refreshed = c.refresh.ensures in
    goes s.tables.now.shape s.tables.now.marks.now s.tables.now.keys.now s.records.now s.members.now s.list_rows.now s.list_values.now _ c.final_test.ensures (ap not c.if-not-final_test.false) _ _ refreshed.records_value refreshed.members_value
