-- `overlay_edges::around::place_passes` meets its contract. Assumes nothing.
use mathlib.Core.Path.{sym, ◌∙◌}
use Rattle.overlay_pairs.proofs.Sides.{small-sequences}
use Rattle.overlay_edges.proofs.PlaceLaws.{place-judged, no_place}
use Rattle.overlay_edges.proofs.around.place_passes.Goals as goal

pub returns : goal.returns
returns c = (place-judged _ _ _ _ (small-sequences c.args.tables.now.shape _ _ c.args.tables.now.keys_fit) _ _ _ (sym c.sequence_key.ensures ∙ c.in-Some.is) _ (c.sides_pass.ensures.0 _), c.sides_pass.ensures.1)

pub returns-in_default : goal.returns-in_default
returns-in_default c = (no_place _ _ _ _ _ _ (sym c.sequence_key.ensures ∙ c.in_default.is), c.requires.recalled)
