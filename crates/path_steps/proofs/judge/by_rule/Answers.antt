-- `path_steps::judge::by_rule` meets its contract: what stands below, at and above the sequence stands one behind the other. Assumes nothing.
use mathlib.Core.Path.{ap₂, ◌∙◌}
use mathlib.Core.List.{List}
use Prim.Native.Nat.{ℕ}
use Rattle.rules.specs.Neighbours.{below, above}
use Rattle.path_steps.specs.Judging.{prospect_among, may_block}
use Rattle.path_steps.proofs.SideLaws.{start_asks, start_read, rows_ask, next_start, stretch_read, above_start, below_start, here_start, here-fits}
use Rattle.path_steps.proofs.judge.by_rule.Goals as goal

pub part_start-first-requires : goal.part_start-first-requires
part_start-first-requires c = let both = start_asks c.args.tables.now.shape _ _ c.requires.sequenced _ c.by_sequence-part.ensures in record { named = both.0; records_len = both.1.0; members_value = both.1.1 }

pub stretch-below-requires : goal.stretch-below-requires
stretch-below-requires c = record { sequenced = c.requires.sequenced; by_index = below_start c.args.tables.now.shape _ _ _ _ _ _ (start_read c.args.tables.now.shape _ _ c.requires.sequenced _ c.by_sequence-part.ensures _ _ _ c.part_start-first.ensures) c.lowest-lowest.ensures _ c.sequence_below-lower.ensures }

pub overflow_add-start : goal.overflow_add-start
overflow_add-start c = record { fits = here-fits c.args.tables.now.shape _ _ _ _ _ _ (start_read c.args.tables.now.shape _ _ c.requires.sequenced _ c.by_sequence-part.ensures _ _ _ c.part_start-first.ensures) c.lowest-lowest.ensures _ c.sequence_below-lower.ensures _ (c.stretch-below.ensures.result_value, c.stretch-below.ensures.by_index_2) c.requires.sequenced.few c.part_start-first.type_inv }

pub part_from-here-requires : goal.part_from-here-requires
part_from-here-requires c = let both = rows_ask c.args.tables.now.shape _ _ c.requires.sequenced _ c.by_sequence-part.ensures _ _ _
    (here_start c.args.tables.now.shape _ _ _ _ _ _ (start_read c.args.tables.now.shape _ _ c.requires.sequenced _ c.by_sequence-part.ensures _ _ _ c.part_start-first.ensures) c.lowest-lowest.ensures _ c.sequence_below-lower.ensures _ (c.stretch-below.ensures.result_value, c.stretch-below.ensures.by_index_2)) in record { named = both.0; records_len = both.1.0; members_value = both.1.1.0; before_value = both.1.1.1 }

pub stretch-above-requires : goal.stretch-above-requires
stretch-above-requires c = record { sequenced = c.requires.sequenced; by_index = above_start c.args.tables.now.shape _ _ _ _ _ _ c.sequence_above-higher.ensures (next_start c.args.tables.now.shape _ _ c.requires.sequenced _ c.by_sequence-part.ensures _ _ _ _ (c.part_from-here.ensures.result_value, c.part_from-here.ensures.result_value_2)) }

pub returns : goal.returns
returns c = λ B.
    let S = c.args.tables.now.shape in
    let m = c.args.tables.now.marks.now in
    c.by_sides.ensures
    ∙ ap₂ (λ (b a : List ℕ). prospect_among S m c.args.displace c.args.row (may_block S m c.args.displace c.args.row c.args.holders.now b a))
    (stretch_read S c.args.index.now.records.now c.args.index.now.members.now c.args.value c.args.sequence (below B c.args.sequence) _ (c.sequence_below-lower.ensures B) _ c.stretch-below.ensures.result_value)
    (stretch_read S c.args.index.now.records.now c.args.index.now.members.now c.args.value c.args.sequence (above B c.args.sequence) _ (c.sequence_above-higher.ensures B) _ c.stretch-above.ensures.result_value)
