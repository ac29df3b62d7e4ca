-- `table_refusals::all_cells_fit` meets its contract. Assumes nothing.
use mathlib.Core.Path.{refl}
use mathlib.Core.Bool.{true}
use Rattle.basics.proofs.Bools.{clash, came}
use Rattle.assignment_tables.proofs.RefusalLaws.{cells_fit}
use Rattle.table_refusals.proofs.all_cells_fit.Goals as goal

pub returns-then-not-all_under : goal.returns-then-not-all_under
returns-then-not-all_under c = λ t. absurd (clash t refl)

pub returns : goal.returns
returns c = λ t.
    cells_fit c.args.tables.now.shape c.args.tables.now.marks.now
    c.counts_start-counts.result c.candidates_start-candidates.result c.legal_start-end.result
    c.counts_start-counts.ensures c.candidates_start-candidates.ensures c.legal_start-end.ensures
    c.requires
    (came _ _ true c.all_under.ensures (c.if-not-all_under.false))
    (came _ _ true c.all_under-2.ensures t)
