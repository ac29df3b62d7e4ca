-- `overlay_pairs::pairs::stayer_passes` meets its contract. Assumes nothing.
use Rattle.overlay_pairs.proofs.InTurn.{or_late_stops, or_late_goes}
use Rattle.basics.specs.Tests.{among}
use Rattle.overlay_pairs.proofs.pairs.stayer_passes.Goals as goal

pub returns-then-pair_passes : goal.returns-then-pair_passes
returns-then-pair_passes c = (or_late_stops _ (among c.args.other c.args.list_rows.now) _ c.pair_passes.ensures.0 c.if-pair_passes.true, c.pair_passes.ensures.1)

pub returns : goal.returns
returns c = (or_late_goes _ _ (among c.args.other c.args.list_rows.now) _ c.pair_passes.ensures.0 c.if-pair_passes.false c.is_listed.ensures, c.pair_passes.ensures.1)
