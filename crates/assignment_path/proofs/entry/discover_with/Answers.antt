-- `assignment_path::entry::discover_with` meets its contract: the asks before the first try, and the try. Assumes nothing.
use Prim.Native.Nat.{◌+◌}
use Rattle.assignment_tables.specs.Tables.{the_board}
use Rattle.assignment_index.specs.Index.{the_roster}
use mathlib.Core.Path.{◌∙◌}
use mathlib.Core.List.{[]}
use native.Mathlib.Omega.{arith}
use Rattle.assignment_index.proofs.Changes.{records_long}
use Rattle.search_rules.proofs.Lifting.{lifted_none}
use Rattle.search_rules.proofs.Ceilings.{ceiling_fits}
use Rattle.assignment_path.specs.Searching.{request}
use Rattle.assignment_path.proofs.SearchLaws.{stopped-first, held_already, stopped-second, tried_out, told-limited, front_none}
use Rattle.assignment_path.proofs.entry.discover_with.Goals as goal

pub returns-then-budget-lt1 : goal.returns-then-budget-lt1
returns-then-budget-lt1 c = stopped-first (the_board c.args.tables.now) (the_roster c.args.tables.now c.args.index.now) (request c.args.row c.args.value c.args.depth c.args.displace c.args.limit c.args.budget) _ _ c.requires.roomy.rows_long c.requires.roomy.values_long c.if-budget-lt1.true

pub holds_already-requires : goal.holds_already-requires
holds_already-requires c = omega (arith, records_long c.args.tables.now.shape _ _ _ _ c.requires.searchable.index)

pub returns-then-holds_already : goal.returns-then-holds_already
returns-then-holds_already c = held_already (the_board c.args.tables.now) (the_roster c.args.tables.now c.args.index.now) (request c.args.row c.args.value c.args.depth c.args.displace c.args.limit c.args.budget) _ _ c.requires.roomy.rows_long c.requires.roomy.values_long c.if-budget-lt1.false _ c.holds_already.ensures c.if-holds_already.true

pub returns-then-budget-lt2 : goal.returns-then-budget-lt2
returns-then-budget-lt2 c = stopped-second (the_board c.args.tables.now) (the_roster c.args.tables.now c.args.index.now) (request c.args.row c.args.value c.args.depth c.args.displace c.args.limit c.args.budget) _ _ c.requires.roomy.rows_long c.requires.roomy.values_long c.if-budget-lt1.false _ c.holds_already.ensures c.if-holds_already.false c.if-budget-lt2.true

pub try_row-requires : goal.try_row-requires
try_row-requires c = record { searchable = c.requires.searchable; lifted = rw (front_none c.args.list_rows.now c.args.list_values.now) (lifted_none _ _); roomy = c.requires.roomy; depth_bound = (c.requires.depth_bound, omega (arith, ceiling_fits 64 c.args.depth (omega arith) c.requires.depth_bound)); recalls = c.requires.recalls }

pub returns : goal.returns
returns c = tried_out (the_board c.args.tables.now) (the_roster c.args.tables.now c.args.index.now) (request c.args.row c.args.value c.args.depth c.args.displace c.args.limit c.args.budget) _ _ (c.try_row.auto.list_rows ∙ c.requires.roomy.rows_long) (c.try_row.auto.list_values ∙ c.requires.roomy.values_long) c.if-budget-lt1.false _ c.holds_already.ensures c.if-holds_already.false c.if-budget-lt2.false _ c.none_visited-visiting.ensures _ _ (c.args.tables.now.shape.rows + c.args.depth + 1) (omega (arith, c.requires.searchable.index.marked.small.few_rows, c.requires.depth_bound)) _ (told-limited c.args.tables.now.shape c.args.tables.now.marks.now c.args.tables.now.keys.now (the_roster c.args.tables.now c.args.index.now) c.args.displace c.args.limit c.args.budget c.requires.searchable.candidates_fit _ c.most_offered.ensures c.args.depth _ c.args.row c.args.value [] 2 _ _ _ _ _ _ _ (rw (front_none c.args.list_rows.now c.args.list_values.now) at c.try_row.ensures.tells))
