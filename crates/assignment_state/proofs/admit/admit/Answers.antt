-- `assignment_state::admit::admit` meets its contract. Assumes nothing.
use native.Mathlib.Omega.{arith}
use mathlib.Core.Path.{◌∙◌}
use Rattle.refusals.proofs.AnswerLaws.{passed_on}
use Rattle.assignment_state.proofs.AdmitLaws.{refused_tables, tables_admitted, index_long, not_holdable, is_admitted, false_index}
use Rattle.assignment_state.proofs.admit.admit.Goals as goal

pub returns-in_err-tables_refusal : goal.returns-in_err-tables_refusal
returns-in_err-tables_refusal c = let e = c.in_err-tables_refusal.field-0.0 in passed_on _ e c.from_residual.ensures ∙ refused_tables _ _ _ _ _ _ c.args.own_lengths _ c.index_lengths.ensures _ c.tables_refusal.ensures e c.in_err-tables_refusal.was

pub all_holdable-requires : goal.all_holdable-requires
all_holdable-requires c = let own = c.args.own_lengths in let l = index_long _ _ _ _ _ _ own _ c.index_lengths.ensures _ c.tables_refusal.ensures c.in_ok-tables_refusal.was in omega arith

pub returns-then-not-all_holdable : goal.returns-then-not-all_holdable
returns-then-not-all_holdable c = let z = c.in_ok-tables_refusal.was in search not_holdable

pub is_index-requires : goal.is_index-requires
is_index-requires c = let own = c.args.own_lengths in let e = c.index_lengths.ensures in let f = c.tables_refusal.ensures in let z = c.in_ok-tables_refusal.was in let a = tables_admitted _ _ _ _ _ _ own _ e _ f z in let l = index_long _ _ _ _ _ _ own _ e _ f z in record { marked = a.marked; keys_len = (a.keys_long, l.0, l.1) }

pub returns-then-is_index : goal.returns-then-is_index
returns-then-is_index c = let z = c.in_ok-tables_refusal.was in search is_admitted

pub returns : goal.returns
returns c = let z = c.in_ok-tables_refusal.was in search false_index
