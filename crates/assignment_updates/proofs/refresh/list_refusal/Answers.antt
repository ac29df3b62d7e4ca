use mathlib.Core.Path.{◌∙◌}
use borrow.Author.Rules.{rules}
use Rattle.refusals.proofs.AnswerLaws.{passed_on}
use Rattle.assignment_updates.proofs.RefreshLaws.{refusal-here, refusal_next, refusal_none, refusal_start}
use Rattle.assignment_updates.proofs.refresh.list_refusal.Goals as goal

pub loop-i-init : goal.loop-i-init
loop-i-init c = search (rules, refusal_start)

pub returns-in_err-entry_refusal : goal.returns-in_err-entry_refusal
returns-in_err-entry_refusal c = let e = c.in_err-entry_refusal.field-0.0 in let q = c.in_err-entry_refusal.was in passed_on _ e c.from_residual.ensures ∙ (search (rules, refusal-here))

pub loop-i-preserved : goal.loop-i-preserved
loop-i-preserved c = let z = c.in_ok-entry_refusal.was in search (rules, refusal_next)

pub returns : goal.returns
returns c = search (rules, refusal_none)
