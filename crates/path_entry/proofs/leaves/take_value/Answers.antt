-- `path_entry::leaves::take_value` meets its contract. Assumes nothing.
use Rattle.path_entry.proofs.TrailLaws.{told-taken}
use Rattle.assignment_index.specs.Index.{the_roster}
use native.Mathlib.Omega.{arith}
use Rattle.path_entry.proofs.EnterLaws.{displaced-fits}
use Rattle.path_entry.proofs.leaves.take_value.Goals as goal

pub offset_bounds-list_rows-end : goal.offset_bounds-list_rows-end
offset_bounds-list_rows-end c = let end_is = c.displace_if_on-end.ensures in
    let few = displaced-fits c.args.tables.now.shape c.args.tables.now.marks.now c.args.tables.now.keys.now (the_roster c.args.tables.now c.args.index.now) c.args.displace _ c.requires.lifted c.requires.indexed.marked _ _ c.requires.value_value in
    omega (arith, end_is.count, few, c.requires.indexed.marked.small.few_rows)

pub bounds-list_rows-end : goal.bounds-list_rows-end
bounds-list_rows-end c = let end_is = c.displace_if_on-end.ensures in
    let few = displaced-fits c.args.tables.now.shape c.args.tables.now.marks.now c.args.tables.now.keys.now (the_roster c.args.tables.now c.args.index.now) c.args.displace _ c.requires.lifted c.requires.indexed.marked _ _ c.requires.value_value in
    omega (arith, end_is.count, few, c.requires.indexed.marked.small.few_rows, c.requires.roomy.rows_long, c.displace_if_on-end.auto.list_rows)

pub offset_bounds-list_values-end : goal.offset_bounds-list_values-end
offset_bounds-list_values-end c = let end_is = c.displace_if_on-end.ensures in
    let few = displaced-fits c.args.tables.now.shape c.args.tables.now.marks.now c.args.tables.now.keys.now (the_roster c.args.tables.now c.args.index.now) c.args.displace _ c.requires.lifted c.requires.indexed.marked _ _ c.requires.value_value in
    omega (arith, end_is.count, few, c.requires.indexed.marked.small.few_rows)

pub bounds-list_values-end : goal.bounds-list_values-end
bounds-list_values-end c = let end_is = c.displace_if_on-end.ensures in
    let few = displaced-fits c.args.tables.now.shape c.args.tables.now.marks.now c.args.tables.now.keys.now (the_roster c.args.tables.now c.args.index.now) c.args.displace _ c.requires.lifted c.requires.indexed.marked _ _ c.requires.value_value in
    omega (arith, end_is.count, few, c.requires.indexed.marked.small.few_rows, c.requires.roomy.values_long, c.displace_if_on-end.auto.list_values)

pub overflow_add-result : goal.overflow_add-result
overflow_add-result c = let end_is = c.displace_if_on-end.ensures in
    let few = displaced-fits c.args.tables.now.shape c.args.tables.now.marks.now c.args.tables.now.keys.now (the_roster c.args.tables.now c.args.index.now) c.args.displace _ c.requires.lifted c.requires.indexed.marked _ _ c.requires.value_value in
    omega (arith, end_is.count, few, c.requires.indexed.marked.small.few_rows)

pub returns : goal.returns
returns c = let call = c.displace_if_on-end in
    let few = displaced-fits c.args.tables.now.shape c.args.tables.now.marks.now c.args.tables.now.keys.now (the_roster c.args.tables.now c.args.index.now) c.args.displace _ c.requires.lifted c.requires.indexed.marked _ _ c.requires.value_value in
    let room = c.requires.roomy in
    let small = c.requires.indexed.marked.small.few_rows in
    told-taken _ _ _ _ _ _ _ _ _ _ _ call.ensures (omega (arith, call.ensures.count, few, small, room.rows_long, call.auto.list_rows)) (omega (arith, call.ensures.count, few, small, room.values_long, call.auto.list_values)) (omega (arith, call.ensures.count, few))
