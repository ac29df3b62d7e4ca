-- `assignment_tables::cells::row_rank` meets its contract. Assumes nothing.
use Rattle.basics.proofs.Bools.{came}
use Rattle.assignment_tables.proofs.CellLaws.{row-set, rank_in, rank_out}
use borrow.Author.Rules.{rules}
use Rattle.assignment_tables.proofs.cells.row_rank.Goals as goal

pub overflow_add-result : goal.overflow_add-result
overflow_add-result c = let s = row-set _ _ _ _ (came _ _ _ c.row_flag.ensures c.if-row_flag.true) in search rules

pub offset_bounds-ranks-start : goal.offset_bounds-ranks-start
offset_bounds-ranks-start c = let s = row-set _ _ _ _ (came _ _ _ c.row_flag.ensures c.if-row_flag.true) in search rules

pub bounds-ranks-start : goal.bounds-ranks-start
bounds-ranks-start c = let s = row-set _ _ _ _ (came _ _ _ c.row_flag.ensures c.if-row_flag.true) in search rules

pub returns-then-row_flag : goal.returns-then-row_flag
returns-then-row_flag c = search (rules, rank_in, came)

pub returns : goal.returns
returns c = search (rank_out, came)
