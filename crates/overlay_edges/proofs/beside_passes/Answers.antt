-- `overlay_edges::beside_passes` meets its contract. Assumes nothing.
use mathlib.Core.Path.{ap}
use mathlib.Core.Bool.{not}
use native.Mathlib.Omega.{arith}
use Rattle.overlay_pairs.proofs.MemoryLaws.{recalled_short}
use Rattle.overlay_edges.proofs.EditLaws.{row_unjudged, row_under_rule}
use Rattle.overlay_edges.proofs.beside_passes.Goals as goal

pub returns-then-not-has_assignment_rule : goal.returns-then-not-has_assignment_rule
returns-then-not-has_assignment_rule c = row_unjudged _ _ _ _ _ _ _ c.requires.indexed c.requires.listed _ c.has_assignment_rule.ensures _ _ (ap not c.if-not-has_assignment_rule.true)

pub row_passes-requires : goal.row_passes-requires
row_passes-requires c = record { indexed = c.requires.indexed; listed = c.requires.listed; recalled = recalled_short _ _ _ (λ e. omega arith) }

pub returns : goal.returns
returns c = row_under_rule _ _ _ _ _ _ _ c.requires.indexed c.requires.listed _ c.has_assignment_rule.ensures _ _ (ap not c.if-not-has_assignment_rule.false) _ c.row_passes.ensures.0
