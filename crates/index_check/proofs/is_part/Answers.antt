-- `index_check::is_part` meets its contract: the lent parts are columns. Assumes nothing.
use Prim.Native.Nat.{◌+◌}
use Rattle.assignment_index.proofs.ColumnLaws.{part-column}
use Rattle.assignment_index.proofs.PartLaws.{flags_long}
use Rattle.index_check.proofs.is_part.Goals as goal

pub returns : goal.returns
returns c = let n = c.args.rows in
    let P = c.args.part in
    let R = c.args.index.now.records.now in
    let M = c.args.index.now.members.now in
    let flags = part-column n P.flags _ R c.column_start-flags.ensures.0 in
    let high = part-column n P.high _ R c.column_start-high_keys.ensures.0 in
    let low = part-column n P.low _ R c.column_start-low_keys.ensures.0 in
    let part = part-column (n + 1) P.column _ M c.column_start-start.ensures.0 in
    rw (flags, high, low, part, flags_long n P R M c.requires.named c.requires.records_len.0) at c.is_membership.ensures
