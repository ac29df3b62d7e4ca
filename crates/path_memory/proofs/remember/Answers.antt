-- `path_memory::remember` meets its contract: one cell of the memory is written, where there is one. Assumes nothing.
use native.Mathlib.Omega.{arith}
use borrow.Author.Rules.{Fits-under}
use Rattle.assignment_tables.proofs.CellLaws.{cell_below}
use Rattle.path_memory.proofs.MemoryLaws.{row_not_noted, value_not_noted, cell_not_noted, cell_noted}
use Rattle.path_memory.proofs.remember.Goals as goal

pub returns-then-shape-row : goal.returns-then-shape-row
returns-then-shape-row c = row_not_noted _ _ _ _ _ c.if-shape-row.true

pub returns-then-shape-value : goal.returns-then-shape-value
returns-then-shape-value c = value_not_noted _ _ _ _ _ c.if-shape-row.false c.if-shape-value.true

pub overflow_mul-place : goal.overflow_mul-place
overflow_mul-place c = let l = cell_below _ _ _ _ c.if-shape-row.false c.if-shape-value.false in
    Fits-under _ _ 16384 (omega (arith, l, c.requires.small.few_cells)) tt

pub overflow_add-place : goal.overflow_add-place
overflow_add-place c = let l = cell_below _ _ _ _ c.if-shape-row.false c.if-shape-value.false in
    Fits-under _ _ 16384 (omega (arith, l, c.requires.small.few_cells)) tt

pub returns-then-memo-place : goal.returns-then-memo-place
returns-then-memo-place c = cell_not_noted _ _ _ _ _ c.if-shape-row.false c.if-shape-value.false c.if-memo-place.true

pub returns : goal.returns
returns c = cell_noted _ _ _ _ _ c.if-shape-row.false c.if-shape-value.false _ c.number_of.ensures
