-- `path_steps::blockers::with_other` meets its contract: the row itself, a required row, an optional one. Assumes nothing.
use Rattle.path_steps.proofs.BlockerLaws.{row_itself, required_more, optional_more}
use Rattle.path_steps.proofs.blockers.with_other.Goals as goal

pub returns-then-other-row : goal.returns-then-other-row
returns-then-other-row c = let both = row_itself c.args.tables.now.shape c.args.tables.now.marks.now _ _ _ c.if-other-row.true in record { required_value = both.0; optional_value = both.1 }

pub returns-then-is_required : goal.returns-then-is_required
returns-then-is_required c = let both = required_more c.args.tables.now.shape c.args.tables.now.marks.now _ _ _ c.if-other-row.false _ c.is_required.ensures c.if-is_required.true _ c.lesser.ensures in record { required_value = both.0; optional_value = both.1 }

pub returns : goal.returns
returns c = let both = optional_more c.args.tables.now.shape c.args.tables.now.marks.now _ _ c.args.found c.if-other-row.false _ c.is_required.ensures c.if-is_required.false in record { required_value = both.0; optional_value = both.1 }
