-- `table_refusals::tables_refusal` meets its contract. Assumes nothing.
use mathlib.Core.Path.{ap}
use mathlib.Core.Bool.{not}
use borrow.Author.Rules.{rules}
use Rattle.assignment_tables.proofs.RefusalLaws.{small, rows_over, values-over, own_unfit, lengths_unfit, marked, none_refused, candidates_unfit}
use Rattle.table_refusals.proofs.tables_refusal.Goals as goal

pub returns-then-tables-gt128 : goal.returns-then-tables-gt128
returns-then-tables-gt128 c = search rows_over

pub returns-then-tables-gt64 : goal.returns-then-tables-gt64
returns-then-tables-gt64 c = search values-over

pub returns-then-not-own_lengths : goal.returns-then-not-own_lengths
returns-then-not-own_lengths c = search own_unfit

pub lengths_fit-requires : goal.lengths_fit-requires
lengths_fit-requires c = search small

pub returns-then-not-lengths_fit : goal.returns-then-not-lengths_fit
returns-then-not-lengths_fit c = search lengths_unfit

pub all_candidates_fit-requires : goal.all_candidates_fit-requires
all_candidates_fit-requires c = marked _ _ _ _ _ (search rules) (search rules) c.lengths_fit.ensures (ap not c.if-not-lengths_fit.false)

pub returns-then-all_candidates_fit : goal.returns-then-all_candidates_fit
returns-then-all_candidates_fit c = search none_refused

pub returns : goal.returns
returns c = search candidates_unfit
