-- `overlay_edges::around::row_passes` meets its contract. Assumes nothing.
use mathlib.Core.Path.{ap, sym, ◌∙◌}
use mathlib.Core.Bool.{not}
use Rattle.overlay_pairs.proofs.Sides.{any_same, small-sequences}
use Rattle.overlay_edges.proofs.RowLaws.{row_fails, row-judged, row_free}
use Rattle.overlay_edges.proofs.around.row_passes.Goals as goal

pub returns-then-not-side_passes : goal.returns-then-not-side_passes
returns-then-not-side_passes c = (row_fails _ _ _ _ _ _ (small-sequences c.args.tables.now.shape _ _ c.args.tables.now.keys_fit) _ (sym c.sequence_key.ensures ∙ c.in-Some.is) _ (any_same _ _ _ _ c.side_passes.ensures.0 (c.sequence_below-low.ensures _)) (ap not c.if-not-side_passes.true), c.side_passes.ensures.1)

pub returns : goal.returns
returns c = (row-judged _ _ _ _ _ _ (small-sequences c.args.tables.now.shape _ _ c.args.tables.now.keys_fit) _ (sym c.sequence_key.ensures ∙ c.in-Some.is) _ (any_same _ _ _ _ c.side_passes.ensures.0 (c.sequence_below-low.ensures _)) (ap not c.if-not-side_passes.false) _ (any_same _ _ _ _ c.side_passes-2.ensures.0 (c.sequence_above-high.ensures _)), c.side_passes-2.ensures.1)

pub returns-in_default : goal.returns-in_default
returns-in_default c = (row_free _ _ _ _ _ _ (sym c.sequence_key.ensures ∙ c.in_default.is), c.requires.recalled)
