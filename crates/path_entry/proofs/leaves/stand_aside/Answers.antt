-- `path_entry::leaves::stand_aside` meets its contract. Assumes nothing.
use Rattle.assignment_tables.specs.Tables.{the_board}
use Rattle.assignment_index.specs.Index.{the_roster}
use Rattle.path_steps.proofs.PlainLaws.{board_plain}
use native.Mathlib.Omega.{arith}
use Rattle.path_entry.specs.Trails.{terms}
use Rattle.word_bits.specs.Marks.{marked}
use Rattle.path_entry.proofs.EnterLaws.{blocked-told, flat_as, visited_as, stuck_as}
use Rattle.path_entry.proofs.leaves.stand_aside.Goals as goal

pub returns-then-depth-eq0 : goal.returns-then-depth-eq0
returns-then-depth-eq0 c = λ limit.
    let told = blocked-told (the_board c.args.tables.now) c.args.displace (the_roster c.args.tables.now c.args.index.now) c.args.row c.args.value c.args.blocker c.requires.blocker_value in
    flat_as (the_board c.args.tables.now) (the_roster c.args.tables.now c.args.index.now) (terms c.args.displace limit c.args.budget) (board_plain c.args.tables.now.shape _ _ c.requires.indexed.marked) _ (marked c.args.visiting) _ _ _ _ _ _ _ c.requires.lifted c.requires.asks_value.0 told.0 told.1 c.if-depth-eq0.true

pub is_visiting-requires : goal.is_visiting-requires
is_visiting-requires c = let told = blocked-told (the_board c.args.tables.now) c.args.displace (the_roster c.args.tables.now c.args.index.now) c.args.row c.args.value c.args.blocker c.requires.blocker_value in
    omega (arith, (board_plain c.args.tables.now.shape _ c.args.tables.now.keys.now c.requires.indexed.marked).row_within _ _ told.0, c.requires.indexed.marked.small.few_rows)

pub returns-then-is_visiting : goal.returns-then-is_visiting
returns-then-is_visiting c = λ limit.
    let told = blocked-told (the_board c.args.tables.now) c.args.displace (the_roster c.args.tables.now c.args.index.now) c.args.row c.args.value c.args.blocker c.requires.blocker_value in
    visited_as (the_board c.args.tables.now) (the_roster c.args.tables.now c.args.index.now) (terms c.args.displace limit c.args.budget) (board_plain c.args.tables.now.shape _ _ c.requires.indexed.marked) _ (marked c.args.visiting) _ _ _ _ _ _ _ c.requires.lifted c.requires.asks_value.0 told.0 told.1 c.if-depth-eq0.false _ c.is_visiting.ensures c.if-is_visiting.true

pub displace_if_on-end-requires : goal.displace_if_on-end-requires
displace_if_on-end-requires c = let told = blocked-told (the_board c.args.tables.now) c.args.displace (the_roster c.args.tables.now c.args.index.now) c.args.row c.args.value c.args.blocker c.requires.blocker_value in record { indexed = c.requires.indexed; lifted = c.requires.lifted; value_value = told.0; roomy = c.requires.roomy }

pub returns : goal.returns
returns c = λ limit.
    let told = blocked-told (the_board c.args.tables.now) c.args.displace (the_roster c.args.tables.now c.args.index.now) c.args.row c.args.value c.args.blocker c.requires.blocker_value in
    stuck_as (the_board c.args.tables.now) (the_roster c.args.tables.now c.args.index.now) (terms c.args.displace limit c.args.budget) (board_plain c.args.tables.now.shape _ _ c.requires.indexed.marked) _ (marked c.args.visiting) _ _ _ _ _ _ _ c.requires.lifted c.requires.asks_value.0 told.0 told.1 c.if-depth-eq0.false _ c.is_visiting.ensures c.if-is_visiting.false _ told.2 _ _ _ c.displace_if_on-end.ensures
