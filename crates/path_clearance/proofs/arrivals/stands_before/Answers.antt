-- `path_clearance::arrivals::stands_before` meets its contract. Assumes nothing.
use mathlib.Core.Path.{sym, ◌∙◌}
use Rattle.assignment_tables.specs.Tables.{the_board}
use Rattle.overlay_pairs.proofs.Sides.{small-sequences}
use Rattle.path_clearance.proofs.ArrivalLaws.{not_before_itself, not_before, nothing-behind, place_decides}
use Rattle.path_clearance.proofs.arrivals.stands_before.Goals as goal

pub returns-then-left-right : goal.returns-then-left-right
returns-then-left-right c = not_before_itself (the_board c.args.tables.now) _ _ _ _ c.if-left-right.true

pub returns : goal.returns
returns c = place_decides (the_board c.args.tables.now) _ _ _ _ (small-sequences c.args.tables.now.shape _ _ c.args.tables.now.keys_fit) _ (sym c.sequence_key.ensures ∙ c.in-Some.is) c.if-left-right.false _ (sym (c.sequence_above.ensures (the_board c.args.tables.now)) ∙ c.in-Some-sequence_above.is) _ c.has_place.ensures

pub returns-in_default-sequence_above : goal.returns-in_default-sequence_above
returns-in_default-sequence_above c = nothing-behind (the_board c.args.tables.now) _ _ _ _ (small-sequences c.args.tables.now.shape _ _ c.args.tables.now.keys_fit) _ (sym c.sequence_key.ensures ∙ c.in-Some.is) (sym (c.sequence_above.ensures (the_board c.args.tables.now)) ∙ c.in_default-sequence_above.is)

pub returns-in_default : goal.returns-in_default
returns-in_default c = not_before (the_board c.args.tables.now) _ _ _ _ (sym c.sequence_key.ensures ∙ c.in_default.is)
