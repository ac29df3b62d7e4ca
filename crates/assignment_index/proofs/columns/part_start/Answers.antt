-- `assignment_index::columns::part_start` meets its contract: the place is that of the lent columns. Assumes nothing.
use Prim.Native.Nat.{◌+◌}
use native.Mathlib.Omega.{arith}
use Rattle.assignment_index.proofs.ColumnLaws.{part-column}
use Rattle.assignment_index.specs.Index.{start_of}
use Rattle.assignment_index.proofs.PartLaws.{part_membership}
use Rattle.assignment_index.proofs.columns.part_start.Goals as goal

pub place_of-requires : goal.place_of-requires
place_of-requires c = let n = c.args.rows in
    let P = c.args.part in
    let R = c.args.index.now.records.now in
    let M = c.args.index.now.members.now in
    let high = part-column n P.high _ R c.column_start-high.ensures.0 in
    let low = part-column n P.low _ R c.column_start-low.ensures.0 in
    let part = part-column (n + 1) P.column _ M c.column_start-start.ensures.0 in
    record { membership = rw (high, low, part) (part_membership n P R _ c.requires.named c.requires.records_len.0 c.requires.members_value); row_bound = omega arith }

pub returns : goal.returns
unfolding start_of
returns c = let n = c.args.rows in
    let P = c.args.part in
    let R = c.args.index.now.records.now in
    let M = c.args.index.now.members.now in
    let high = part-column n P.high _ R c.column_start-high.ensures.0 in
    let low = part-column n P.low _ R c.column_start-low.ensures.0 in
    let part = part-column (n + 1) P.column _ M c.column_start-start.ensures.0 in
    rw (high, low, part) at c.place_of.ensures
