-- `path_walk::enter::enter` meets its contract. Assumes nothing.
use Rattle.assignment_tables.specs.Tables.{the_board}
use Rattle.assignment_index.specs.Index.{the_roster}
use Rattle.path_steps.proofs.PlainLaws.{board_plain}
use borrow.Author.Tests.{lt-ltb, le-ltb}
use Rattle.path_entry.specs.Trails.{terms}
use Rattle.word_bits.specs.Marks.{marked}
use Rattle.path_entry.proofs.EnterLaws.{stops_as}
use Rattle.path_walk.proofs.enter.enter.Goals as goal

pub returns-then-budget-asks : goal.returns-then-budget-asks
returns-then-budget-asks c = record {
  enters = λ limit.
      stops_as (the_board c.args.tables.now) (the_roster c.args.tables.now c.args.index.now) (terms c.args.displace limit c.args.budget) (board_plain c.args.tables.now.shape _ _ c.requires.indexed.marked) _ (marked c.args.visiting) _ _ _ _ _ _ _ c.requires.lifted (lt-ltb _ _ c.if-budget-asks.true);
  recalls_2 = c.requires.recalls;
}

pub follow-requires : goal.follow-requires
follow-requires c = record { indexed = c.requires.indexed; lifted = c.requires.lifted; roomy = c.requires.roomy; asks_value = (le-ltb _ _ c.if-budget-asks.false, c.requires.asks_bound); prospect_value = c.recall-prospect.ensures.value }
