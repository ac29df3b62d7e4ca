use mathlib.Core.Path.{sym}
use Rattle.basics.proofs.Loops.{turns}
use Rattle.assignment_tables.specs.Refusal.{all_candidates_fit}
use Rattle.table_refusals.proofs.all_candidates_fit.Goals as goal

pub returns-then-all_cells_fit : goal.returns-then-all_cells_fit
returns-then-all_cells_fit c = sym (c.all_cells_fit.ensures c.if-all_cells_fit.true)

pub loop-row-init : goal.loop-row-init
loop-row-init c = search turns

pub returns-then-not-candidates_fit : goal.returns-then-not-candidates_fit
unfolding all_candidates_fit
returns-then-not-candidates_fit c = search turns

pub loop-row-preserved : goal.loop-row-preserved
loop-row-preserved c = search turns

pub returns : goal.returns
unfolding all_candidates_fit
returns c = search turns
