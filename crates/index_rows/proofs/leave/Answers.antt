-- `index_rows::leave` meets its contract. The lent parts are columns, and what the removal leaves of one is the part without the row. Assumes nothing.
use Prim.Native.Nat.{◌+◌}
use mathlib.Core.Path.{◌∙◌}
use native.Mathlib.Omega.{arith}
use Rattle.assignment_index.proofs.ColumnLaws.{part-column, settled}
use Rattle.assignment_index.proofs.PartLaws.{high_long, part_membership, row-left}
use Rattle.index_rows.proofs.leave.Goals as goal

pub remove_member-requires : goal.remove_member-requires
remove_member-requires c = let n = c.args.rows in
    let P = c.args.part in
    let R = c.args.records.now in
    let M = c.args.members.now in
    let (long, long-members, l) = c.requires.records_len in
    let high = part-column n P.high _ R c.column_start-high.ensures.0 in
    let low = part-column n P.low _ R c.column_start-low.ensures.0 in
    let part = part-column (n + 1) P.column _ M c.column_start-start.ensures.0 in rw (high, low, part) (record { membership = part_membership n P R _ c.requires.named long c.requires.members_value; row_in_bounds = omega (arith, high_long n P R M c.requires.named long) })

pub returns : goal.returns
returns c = let n = c.args.rows in
    let P = c.args.part in
    let R = c.args.records.now in
    let M = c.args.members.now in
    let (long, long-members, l) = c.requires.records_len in
    let start = c.column_start-start.ensures in
    let high = part-column n P.high _ R c.column_start-high.ensures.0 in
    let low = part-column n P.low _ R c.column_start-low.ensures.0 in
    let part = part-column (n + 1) P.column _ M start.0 in
    let r = c.remove_member in
    let left = (rw (high, low, part) at r.ensures) ∙ row-left n P R _ c.requires.named long c.args.row l c.requires.members_value in
    settled (n + 1) P.column _ M r.new.members _ start.0 start.1 long-members r.auto.members left
