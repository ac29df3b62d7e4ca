-- `listing_tables::fill::place_in` meets its contract. Assumes nothing.
use Prim.Native.Nat.{◌+◌}
use Rattle.listing_tables.proofs.FillLaws.{placed}
use native.Mathlib.Omega.{arith}
use Rattle.listing_tables.proofs.fill.place_in.Goals as goal

pub overflow_mul-result-2 : goal.overflow_mul-result-2
overflow_mul-result-2 c = let p = placed c.args.cells.now (c.args.i + 1) c.args.rows c.args.values c.args.i c.requires.fitting (omega arith) in
    omega (arith, p.inside, p.small, c.requires.i_bound)

pub overflow_add-result-2 : goal.overflow_add-result-2
overflow_add-result-2 c = let p = placed c.args.cells.now (c.args.i + 1) c.args.rows c.args.values c.args.i c.requires.fitting (omega arith) in
    omega (arith, p.inside, p.small, c.requires.i_bound)

pub overflow_add-result-3 : goal.overflow_add-result-3
overflow_add-result-3 c = let p = placed c.args.cells.now (c.args.i + 1) c.args.rows c.args.values c.args.i c.requires.fitting (omega arith) in
    omega (arith, p.inside, p.small, c.requires.i_bound)
