-- `path_entry::leaves::close_path` meets its contract. Assumes nothing.
use mathlib.Core.Path.{sym}
use native.Mathlib.Omega.{arith}
use lib.Seq.{length-take-le}
use Rattle.assignment_tables.specs.Tables.{the_board}
use Rattle.assignment_index.specs.Index.{the_roster}
use Rattle.path_entry.proofs.TrailLaws.{roomy_fronts, found_between, closed_missed, closed-blocked, closed-taken}
use Rattle.path_entry.proofs.leaves.close_path.Goals as goal

pub returns-in_default : goal.returns-in_default
returns-in_default c = closed_missed (the_board c.args.tables.now) (the_roster c.args.tables.now c.args.index.now) _ _ _ _ _ _ c.in_default.is

pub slice_bounds-free_after-end : goal.slice_bounds-free_after-end
slice_bounds-free_after-end c = let short = (found_between _ _ _ _ c.in-Found.is c.requires.between).1 in
    omega (arith, short, c.requires.roomy.rows_long, c.requires.roomy.values_long)

pub slice_bounds-free_after-end-2 : goal.slice_bounds-free_after-end-2
slice_bounds-free_after-end-2 c = let short = (found_between _ _ _ _ c.in-Found.is c.requires.between).1 in
    sym (length-take-le _ _ (omega (arith, short, c.requires.roomy.rows_long)))

pub slice_bounds-free_after-end-3 : goal.slice_bounds-free_after-end-3
slice_bounds-free_after-end-3 c = let short = (found_between _ _ _ _ c.in-Found.is c.requires.between).1 in
    omega (arith, short, c.requires.roomy.rows_long, c.requires.roomy.values_long)

pub slice_bounds-free_after-end-4 : goal.slice_bounds-free_after-end-4
slice_bounds-free_after-end-4 c = let short = (found_between _ _ _ _ c.in-Found.is c.requires.between).1 in
    sym (length-take-le _ _ (omega (arith, short, c.requires.roomy.values_long)))

pub free_after-requires : goal.free_after-requires
free_after-requires c = let short = (found_between _ _ _ _ c.in-Found.is c.requires.between).1 in record { indexed = c.requires.indexed; list_rows_len = roomy_fronts _ _ _ short c.requires.roomy }

pub returns-then-not-free_after : goal.returns-then-not-free_after
returns-then-not-free_after c = closed-blocked (the_board c.args.tables.now) (the_roster c.args.tables.now c.args.index.now) _ _ _ _ _ _ c.in-Found.is _ c.free_after.ensures (c.if-not-free_after.true)

pub offset_bounds-list_rows-length : goal.offset_bounds-list_rows-length
offset_bounds-list_rows-length c = let short = (found_between _ _ _ _ c.in-Found.is c.requires.between).1 in
    omega (arith, short, c.requires.roomy.rows_long, c.requires.roomy.values_long)

pub bounds-list_rows-length : goal.bounds-list_rows-length
bounds-list_rows-length c = let short = (found_between _ _ _ _ c.in-Found.is c.requires.between).1 in
    omega (arith, short, c.requires.roomy.rows_long, c.requires.roomy.values_long)

pub offset_bounds-list_values-length : goal.offset_bounds-list_values-length
offset_bounds-list_values-length c = let short = (found_between _ _ _ _ c.in-Found.is c.requires.between).1 in
    omega (arith, short, c.requires.roomy.rows_long, c.requires.roomy.values_long)

pub bounds-list_values-length : goal.bounds-list_values-length
bounds-list_values-length c = let short = (found_between _ _ _ _ c.in-Found.is c.requires.between).1 in
    omega (arith, short, c.requires.roomy.rows_long, c.requires.roomy.values_long)

pub overflow_add-result : goal.overflow_add-result
overflow_add-result c = let short = (found_between _ _ _ _ c.in-Found.is c.requires.between).1 in
    omega (arith, short, c.requires.roomy.rows_long, c.requires.roomy.values_long)

pub returns : goal.returns
returns c = let short = (found_between _ _ _ _ c.in-Found.is c.requires.between).1 in
    closed-taken (the_board c.args.tables.now) (the_roster c.args.tables.now c.args.index.now) _ _ _ _ _ _ c.in-Found.is _ c.free_after.ensures (c.if-not-free_after.false) (omega (arith, short, c.requires.roomy.rows_long)) (omega (arith, short, c.requires.roomy.values_long))
