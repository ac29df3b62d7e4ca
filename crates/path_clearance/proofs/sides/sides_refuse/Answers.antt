-- `path_clearance::sides::sides_refuse` meets its contract: one side and then the other. Assumes nothing.
use Rattle.assignment_tables.specs.Tables.{required_at}
use Rattle.path_clearance.specs.Clearance.{stays}
use Rattle.path_clearance.proofs.RefusingLaws.{refused-below, refused-above}
use Rattle.path_clearance.proofs.sides.sides_refuse.Goals as goal

pub returns-then-refuses : goal.returns-then-refuses
returns-then-refuses c = refused-below c.args.tables.now.shape c.args.tables.now.marks.now (stays (required_at c.args.tables.now.shape c.args.tables.now.marks.now) c.args.displace) _ _ _ _ c.refuses.ensures c.if-refuses.true

pub returns : goal.returns
returns c = refused-above c.args.tables.now.shape c.args.tables.now.marks.now (stays (required_at c.args.tables.now.shape c.args.tables.now.marks.now) c.args.displace) _ _ _ _ c.refuses.ensures c.if-refuses.false _ c.refuses-2.ensures
