-- `given_lists::give_back` meets its contract: a list that passes names no more rows than the outputs have room for. Assumes nothing.
use mathlib.Core.Path.{ap}
use mathlib.Core.Bool.{not}
use Rattle.assignment_tables.specs.Tables.{the_board}
use Rattle.assignment_index.specs.Index.{the_roster}
use native.Mathlib.Omega.{arith}
use Rattle.given_lists.proofs.GivingLaws.{not_passing, few_rows, given}
use Rattle.given_lists.proofs.give_back.Goals as goal

pub returns-then-not-final_test : goal.returns-then-not-final_test
returns-then-not-final_test c = not_passing (the_board c.args.tables.now) (the_roster c.args.tables.now c.args.index.now) _ _ c.requires.list_rows_len _ c.final_test.ensures _ _ (ap not c.if-not-final_test.true)

pub copy_front-requires : goal.copy_front-requires
copy_front-requires c = let few = few_rows (the_board c.args.tables.now) (the_roster c.args.tables.now c.args.index.now) _ _ c.requires.list_rows_len _ c.final_test.ensures c.args.out_rows.now c.args.out_values.now (ap not c.if-not-final_test.false) in
    omega (arith, c.requires.roomy.rows)

pub copy_front-requires-2 : goal.copy_front-requires-2
copy_front-requires-2 c = let few = few_rows (the_board c.args.tables.now) (the_roster c.args.tables.now c.args.index.now) _ _ c.requires.list_rows_len _ c.final_test.ensures c.args.out_rows.now c.args.out_values.now (ap not c.if-not-final_test.false) in
    omega (arith, c.requires.roomy.values, c.requires.list_rows_len)

pub returns : goal.returns
returns c = given (the_board c.args.tables.now) (the_roster c.args.tables.now c.args.index.now) _ _ c.requires.list_rows_len _ c.final_test.ensures _ _ (ap not c.if-not-final_test.false) _ _ c.copy_front.ensures c.copy_front-2.ensures
