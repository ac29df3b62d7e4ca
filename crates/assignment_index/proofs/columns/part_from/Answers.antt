-- `assignment_index::columns::part_from` meets its contract: the lent parts are columns, and the rows found are those under the key. Assumes nothing.
use Prim.Native.Nat.{◌+◌}
use mathlib.Core.Path.{◌∙◌}
use native.Mathlib.Omega.{arith}
use Rattle.assignment_index.proofs.ColumnLaws.{part-column, column-length, column-within}
use Rattle.assignment_index.proofs.PartLaws.{part_membership, rows_found}
use Rattle.assignment_index.specs.Index.{start_of}
use Rattle.assignment_index.proofs.columns.part_from.Goals as goal

pub members_from-requires : goal.members_from-requires
unfolding start_of
members_from-requires c = let n = c.args.rows in
    let P = c.args.part in
    let R = c.args.index.now.records.now in
    let M = c.args.index.now.members.now in
    let high = part-column n P.high _ R c.column_start-high.ensures.0 in
    let low = part-column n P.low _ R c.column_start-low.ensures.0 in
    let part = part-column (n + 1) P.column _ M c.column_start-start.ensures.0 in
    rw (high, low, part) (record { membership = part_membership n P R _ c.requires.named c.requires.records_len.0 c.requires.members_value; start_value = c.requires.before_value })

pub returns : goal.returns
unfolding start_of
returns c = let n = c.args.rows in
    let P = c.args.part in
    let R = c.args.index.now.records.now in
    let M = c.args.index.now.members.now in
    let high = part-column n P.high _ R c.column_start-high.ensures.0 in
    let low = part-column n P.low _ R c.column_start-low.ensures.0 in
    let part = part-column (n + 1) P.column _ M c.column_start-start.ensures.0 in
    let e = rw (high, low, part) at c.members_from.ensures in
    let long = column-length (n + 1) P.column M (omega (arith, c.requires.records_len.1, column-within (n + 1) P.column 3 c.requires.named.column_named)) in
    record { result_value = e.result_value ∙ rows_found n P R _ c.requires.named c.requires.records_len.0 _ _ c.requires.members_value; result_value_2 = (e.result_value_2.0, omega (arith, e.result_value_2.1, long)) }
