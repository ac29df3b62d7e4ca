-- `path_blockers::blocker::first_beside` meets its contract: the lesser of the first ones at each side. Assumes nothing.
use Rattle.assignment_tables.specs.Tables.{required_at}
use Rattle.path_blockers.specs.Seeking.{is_sought}
use Rattle.path_blockers.proofs.SoughtLaws.{first-side}
use Rattle.path_blockers.proofs.blocker.first_beside.Goals as goal

pub returns : goal.returns
returns c = let sought = is_sought (required_at c.args.tables.now.shape c.args.tables.now.marks.now) c.args.list_rows.now c.args.optional in
    first-side c.args.tables.now.shape c.args.tables.now.marks.now sought sought _ _ c.args.below.now _ _ _ _ c.first_in-low.ensures c.first_in-high.ensures _ c.lesser.ensures
