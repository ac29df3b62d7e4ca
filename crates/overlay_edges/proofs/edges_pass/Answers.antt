-- `overlay_edges::edges_pass` meets its contract. Assumes nothing.
use mathlib.Core.Path.{ap}
use mathlib.Core.Bool.{not}
use native.Mathlib.Omega.{arith}
use Rattle.overlay_pairs.proofs.MemoryLaws.{recalled_none, recalled_short}
use Rattle.overlay_edges.proofs.EditLaws.{edges_free, edges_judged}
use Rattle.overlay_edges.proofs.edges_pass.Goals as goal

pub returns-then-not-has_assignment_rule : goal.returns-then-not-has_assignment_rule
returns-then-not-has_assignment_rule c = edges_free _ _ _ _ _ _ _ c.requires.indexed c.requires.listed _ c.has_assignment_rule.ensures (ap not c.if-not-has_assignment_rule.true)

pub edits_pass-requires : goal.edits_pass-requires
edits_pass-requires c = record { indexed = c.requires.indexed; listed = c.requires.listed; recalled = recalled_short _ _ _ (λ e. omega arith) }

pub returns-then-list_rows-le-FEW : goal.returns-then-list_rows-le-FEW
returns-then-list_rows-le-FEW c = edges_judged _ _ _ _ _ _ _ c.requires.indexed c.requires.listed _ c.has_assignment_rule.ensures (ap not c.if-not-has_assignment_rule.false) _ c.edits_pass.ensures.0

pub edits_pass-requires-2 : goal.edits_pass-requires-2
edits_pass-requires-2 c = record { indexed = c.requires.indexed; listed = c.requires.listed; recalled = recalled_none _ _ _ c.nothing_judged-judged.ensures }

pub returns : goal.returns
returns c = edges_judged _ _ _ _ _ _ _ c.requires.indexed c.requires.listed _ c.has_assignment_rule.ensures (ap not c.if-not-has_assignment_rule.false) _ c.edits_pass-2.ensures.0
