-- `assignment_index::columns::part_members` meets its contract: the lent parts are columns, and the rows found are those under the key. Assumes nothing.
use Prim.Native.Nat.{◌+◌}
use mathlib.Core.Path.{◌∙◌}
use Rattle.assignment_index.proofs.ColumnLaws.{part-column}
use Rattle.assignment_index.proofs.PartLaws.{part_membership, rows_found}
use Rattle.assignment_index.proofs.columns.part_members.Goals as goal

pub members_of-requires : goal.members_of-requires
members_of-requires c = let n = c.args.rows in
    let P = c.args.part in
    let R = c.args.index.now.records.now in
    let M = c.args.index.now.members.now in
    let high = part-column n P.high _ R c.column_start-high.ensures.0 in
    let low = part-column n P.low _ R c.column_start-low.ensures.0 in
    let part = part-column (n + 1) P.column _ M c.column_start-start.ensures.0 in
    rw (high, low, part) (part_membership n P R _ c.requires.named c.requires.records_len.0 c.requires.members_value)

pub returns : goal.returns
returns c = let n = c.args.rows in
    let P = c.args.part in
    let R = c.args.index.now.records.now in
    let M = c.args.index.now.members.now in
    let high = part-column n P.high _ R c.column_start-high.ensures.0 in
    let low = part-column n P.low _ R c.column_start-low.ensures.0 in
    let part = part-column (n + 1) P.column _ M c.column_start-start.ensures.0 in
    (rw (high, low, part) at c.members_of.ensures) ∙ rows_found n P R _ c.requires.named c.requires.records_len.0 _ _ c.requires.members_value
