-- `path_entry::leaves::follow` meets its contract. Assumes nothing.
use Rattle.assignment_tables.specs.Tables.{the_board}
use Rattle.assignment_index.specs.Index.{the_roster}
use Rattle.path_steps.proofs.PlainLaws.{board_plain}
use mathlib.Core.Path.{sym, ◌∙◌}
use native.Mathlib.Omega.{arith}
use Rattle.path_entry.specs.Trails.{terms}
use Rattle.word_bits.specs.Marks.{marked}
use Rattle.path_entry.proofs.TrailLaws.{told_wider}
use Rattle.path_entry.proofs.EnterLaws.{free_told, fails_as, free_as}
use Rattle.path_entry.proofs.leaves.follow.Goals as goal

pub take_value-requires : goal.take_value-requires
take_value-requires c = let told = free_told (the_board c.args.tables.now) c.args.displace (the_roster c.args.tables.now c.args.index.now) _ _ (sym c.in-Free.is ∙ c.requires.prospect_value) in record { indexed = c.requires.indexed; lifted = c.requires.lifted; value_value = told.0; roomy = c.requires.roomy }

pub stand_aside-requires : goal.stand_aside-requires
stand_aside-requires c = record { indexed = c.requires.indexed; lifted = c.requires.lifted; roomy = c.requires.roomy; asks_value = c.requires.asks_value; blocker_value = sym c.in-Blocked.is ∙ c.requires.prospect_value }

pub returns-in-Fails : goal.returns-in-Fails
returns-in-Fails c = λ limit.
    fails_as (the_board c.args.tables.now) (the_roster c.args.tables.now c.args.index.now) (terms c.args.displace limit c.args.budget) (board_plain c.args.tables.now.shape _ _ c.requires.indexed.marked) _ (marked c.args.visiting) _ _ _ _ _ _ _ c.requires.lifted c.requires.asks_value.0 _ c.requires.prospect_value c.in-Fails.is

pub returns-in-Free : goal.returns-in-Free
returns-in-Free c = λ limit.
    let told = free_told (the_board c.args.tables.now) c.args.displace (the_roster c.args.tables.now c.args.index.now) _ _ (sym c.in-Free.is ∙ c.requires.prospect_value) in
    free_as (the_board c.args.tables.now) (the_roster c.args.tables.now c.args.index.now) (terms c.args.displace limit c.args.budget) (board_plain c.args.tables.now.shape _ _ c.requires.indexed.marked) _ (marked c.args.visiting) _ _ _ _ _ _ _ c.requires.lifted c.requires.asks_value.0 told.0 told.1 _ _ _ (told_wider _ _ _ _ _ _ _ _ _ (omega arith) c.take_value.ensures)
