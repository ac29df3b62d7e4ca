-- `index_rows::join` meets its contract. The lent parts are columns, and what the insertion makes of one is the part with the row. Assumes nothing.
use Prim.Native.Nat.{◌+◌}
use mathlib.Core.Path.{◌∙◌}
use native.Mathlib.Omega.{arith}
use Rattle.assignment_index.proofs.ColumnLaws.{part-column, settled, cell_read}
use Rattle.assignment_index.proofs.PartLaws.{high_long, without_membership, without-room, row-joined}
use Rattle.index_rows.proofs.join.Goals as goal

pub put_row-requires : goal.put_row-requires
put_row-requires c = let n = c.args.rows in
    let P = c.args.part in
    let R = c.args.records.now in
    let M = c.args.members.now in
    let (long, long-members, l) = c.requires.records_len in
    let high = part-column n P.high _ R c.column_start-high.ensures.0 in
    let low = part-column n P.low _ R c.column_start-low.ensures.0 in
    let part = part-column (n + 1) P.column _ M c.column_start-start.ensures.0 in
    let free = without_membership n P R _ c.requires.named long c.args.row l c.requires.members_value in
    let room = without-room n P R _ c.requires.named long c.args.row l c.requires.members_value in rw (high, low, part) (record { membership = free; row_in_bounds = (omega (arith, high_long n P R M c.requires.named long), room) })

pub returns : goal.returns
returns c = let n = c.args.rows in
    let P = c.args.part in
    let R = c.args.records.now in
    let M = c.args.members.now in
    let (long, long-members, l) = c.requires.records_len in
    let start = c.column_start-start.ensures in
    let high = part-column n P.high _ R c.column_start-high.ensures.0 in
    let low = part-column n P.low _ R c.column_start-low.ensures.0 in
    let part = part-column (n + 1) P.column _ M start.0 in
    let flag = cell_read n P.flags _ R c.args.row c.column_start.ensures.0 l in
    let r = c.put_row in
    let joined = (rw (high, low, part) at r.ensures) ∙ row-joined n P R _ c.requires.named long c.args.row l _ flag c.requires.members_value in
    settled (n + 1) P.column _ M r.new.members _ start.0 start.1 long-members r.auto.members joined
