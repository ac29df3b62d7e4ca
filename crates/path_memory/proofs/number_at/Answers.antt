-- `path_memory::number_at` meets its contract: one cell of the memory, where there is one. Assumes nothing.
use native.Mathlib.Omega.{arith}
use borrow.Author.Rules.{Fits-under}
use Rattle.assignment_tables.proofs.CellLaws.{cell_below}
use Rattle.path_memory.proofs.MemoryLaws.{no_row, no_value, no_cell, in_cell}
use Rattle.path_memory.proofs.number_at.Goals as goal

pub returns-then-shape-row : goal.returns-then-shape-row
returns-then-shape-row c = no_row _ _ _ _ c.if-shape-row.true

pub returns-then-shape-value : goal.returns-then-shape-value
returns-then-shape-value c = no_value _ _ _ _ c.if-shape-row.false c.if-shape-value.true

pub overflow_mul-cell : goal.overflow_mul-cell
overflow_mul-cell c = let l = cell_below _ _ _ _ c.if-shape-row.false c.if-shape-value.false in
    Fits-under _ _ 16384 (omega (arith, l, c.requires.few_cells)) tt

pub overflow_add-cell : goal.overflow_add-cell
overflow_add-cell c = let l = cell_below _ _ _ _ c.if-shape-row.false c.if-shape-value.false in
    Fits-under _ _ 16384 (omega (arith, l, c.requires.few_cells)) tt

pub returns-then-memo-cell : goal.returns-then-memo-cell
returns-then-memo-cell c = no_cell _ _ _ _ c.if-shape-row.false c.if-shape-value.false c.if-memo-cell.true

pub returns : goal.returns
returns c = in_cell _ _ _ _ c.if-shape-row.false c.if-shape-value.false
