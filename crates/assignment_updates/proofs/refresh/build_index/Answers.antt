-- `assignment_updates::refresh::build_index` meets its contract. Assumes nothing.
use mathlib.Core.Path.{ap, ◌∙◌}
use mathlib.Core.Bool.{not}
use native.Mathlib.Omega.{arith}
use Rattle.refusals.proofs.AnswerLaws.{passed_on}
use Rattle.assignment_index.specs.Index.{members_of}
use Rattle.assignment_updates.proofs.RefreshLaws.{left-told, not_built, build_tables, roster_long, slices_long, bad_roster, written_anew}
use Rattle.assignment_updates.proofs.refresh.build_index.Goals as goal

pub returns-in_err-tables_refusal : goal.returns-in_err-tables_refusal
returns-in_err-tables_refusal c = let s = c.args in let both = left-told _ _ _ _ (not_built s.tables.now.shape s.tables.now.marks.now s.tables.now.keys.now s.tables.now.ranks.now s.roster.now s.records.now s.members.now _ c.index_lengths.ensures _ c.tables_refusal.ensures c.in_err-tables_refusal.field-0.0 c.in_err-tables_refusal.was) in record { value = passed_on _ _ c.from_residual.ensures ∙ both.0; records_value = both.1.0; members_value = both.1.1 }

pub all_holdable-requires : goal.all_holdable-requires
all_holdable-requires c = let s = c.args in let l = roster_long s.tables.now.shape s.tables.now.marks.now s.tables.now.keys.now s.tables.now.ranks.now s.roster.now s.records.now s.members.now _ c.index_lengths.ensures _ c.tables_refusal.ensures c.in_ok-tables_refusal.was in omega arith

pub returns-then-not-all_holdable : goal.returns-then-not-all_holdable
returns-then-not-all_holdable c = let s = c.args in let both = left-told _ _ _ _ (bad_roster s.tables.now.shape s.tables.now.marks.now s.tables.now.keys.now s.tables.now.ranks.now s.roster.now s.records.now s.members.now _ c.index_lengths.ensures _ c.tables_refusal.ensures c.in_ok-tables_refusal.was _ c.all_holdable.ensures (ap not c.if-not-all_holdable.true)) in record { value = both.0; records_value = both.1.0; members_value = both.1.1 }

pub build-requires : goal.build-requires
build-requires c = let s = c.args in let e = c.index_lengths.ensures in let f = c.tables_refusal.ensures in let z = c.in_ok-tables_refusal.was in let t = build_tables s.tables.now.shape s.tables.now.marks.now s.tables.now.keys.now s.tables.now.ranks.now s.roster.now s.records.now s.members.now _ e _ f z in let l = slices_long s.tables.now.shape s.tables.now.marks.now s.tables.now.keys.now s.tables.now.ranks.now s.roster.now s.records.now s.members.now _ e _ f z in record { marked = t.marked; keys_len = (t.keys_long, l.0, l.1, roster_long s.tables.now.shape s.tables.now.marks.now s.tables.now.keys.now s.tables.now.ranks.now s.roster.now s.records.now s.members.now _ e _ f z) }

pub returns : goal.returns
returns c = let s = c.args in let x = written_anew s.tables.now.shape s.tables.now.marks.now s.tables.now.keys.now s.tables.now.ranks.now s.roster.now s.records.now s.members.now _ c.index_lengths.ensures _ c.tables_refusal.ensures c.in_ok-tables_refusal.was _ c.all_holdable.ensures (ap not c.if-not-all_holdable.false) in let y = left-told _ _ _ _ x in let r = c.build.ensures in record { value = y.0; records_value = r.records_value ∙ y.1.0; members_value = r.members_value ∙ ap (members_of s.tables.now.shape.rows) r.records_value ∙ y.1.1 }
