-- `given_lists::give_edited` meets its contract. Assumes nothing.
use Rattle.assignment_tables.specs.Tables.{the_board}
use Rattle.assignment_index.specs.Index.{the_roster}
use Rattle.given_lists.proofs.GivingLaws.{no_edit, edited}
use Rattle.given_lists.proofs.give_edited.Goals as goal

pub returns-then-list_rows-lt1 : goal.returns-then-list_rows-lt1
returns-then-list_rows-lt1 c = no_edit (the_board c.args.tables.now) (the_roster c.args.tables.now c.args.index.now) _ _ c.requires.list_rows_len _ _ c.if-list_rows-lt1.true

pub returns : goal.returns
returns c = edited (the_board c.args.tables.now) (the_roster c.args.tables.now c.args.index.now) _ _ c.requires.list_rows_len _ _ c.if-list_rows-lt1.false _ _ _ c.give_back.ensures
