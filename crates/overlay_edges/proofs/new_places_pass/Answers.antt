use mathlib.Core.Path.{refl, ◌∙◌}
use Rattle.basics.proofs.Loops.{all_none, turn_fails, turn_more, turn_end}
use Rattle.assignment_tables.specs.Tables.{the_board}
use Rattle.overlay_pairs.specs.Pairs.{after_list}
use Rattle.overlay_edges.specs.Edges.{new_place}
use Rattle.overlay_edges.proofs.new_places_pass.Goals as goal

pub loop-i-init : goal.loop-i-init
loop-i-init c = ((all_none _), (c.requires.recalled, refl))

pub new_passes-requires : goal.new_passes-requires
new_passes-requires c = record { indexed = c.requires.indexed; listed = c.requires.listed; list_rows_value = c.requires.list_rows_value; i_in_bounds = c.loop-i-test.true; recalled = c.loop-i.invariant.1.0 }

pub returns-then-not-new_passes : goal.returns-then-not-new_passes
returns-then-not-new_passes c = ((turn_fails _ c.loop-i.i (new_place (the_board c.args.tables.now) (after_list c.args.tables.now.shape c.args.index.now.records.now c.args.list_rows.now c.args.list_values.now) c.args.list_rows.now c.args.list_values.now) _ c.loop-i-test.true c.new_passes.ensures.0 (c.if-not-new_passes.true)), c.new_passes.ensures.1)

pub loop-i-preserved : goal.loop-i-preserved
loop-i-preserved c = ((turn_more c.loop-i.i (new_place (the_board c.args.tables.now) (after_list c.args.tables.now.shape c.args.index.now.records.now c.args.list_rows.now c.args.list_values.now) c.args.list_rows.now c.args.list_values.now) _ c.loop-i.invariant.0 c.new_passes.ensures.0 (c.if-not-new_passes.false)), (c.new_passes.ensures.1, c.new_passes.auto.judged ∙ c.loop-i.invariant.1.1))

pub returns : goal.returns
returns c = ((turn_end _ c.loop-i.i (new_place (the_board c.args.tables.now) (after_list c.args.tables.now.shape c.args.index.now.records.now c.args.list_rows.now c.args.list_values.now) c.args.list_rows.now c.args.list_values.now) c.loop-i.auto.i-end c.loop-i-test.false c.loop-i.invariant.0), c.loop-i.invariant.1.0)
