use Rattle.listing_tables.specs.Filled.{flag_in, place_in}
use Rattle.listing_tables.proofs.ScatterLaws.{scatter_none}
use Rattle.listing_tables.proofs.FillLaws.{fitting_fewer, placed, fill_long, fill_turn, fill_end}
use native.Mathlib.Omega.{arith}
use Rattle.listing_tables.proofs.fill.fill_flags.Goals as goal

pub loop-i-init : goal.loop-i-init
loop-i-init c = scatter_none _ _ _

pub place_in-place-requires : goal.place_in-place-requires
place_in-place-requires c = record { fitting = fitting_fewer _ _ _ _ _ c.requires.fitting c.loop-i-test.true; i_bound = omega arith }

pub bounds-flags-place : goal.bounds-flags-place
bounds-flags-place c = let l = c.loop-i in
    let p = placed c.args.cells.now c.args.count c.args.rows c.args.values l.i c.requires.fitting c.loop-i-test.true in
    let long = fill_long (place_in c.args.cells.now c.args.values c.args.start) (flag_in c.args.cells.now c.args.column) _ _ l.i l.invariant in
    omega (arith, p.inside, long, c.place_in-place.ensures, c.requires.count_bound)

pub loop-i-preserved : goal.loop-i-preserved
loop-i-preserved c = let l = c.loop-i in
    fill_turn (place_in c.args.cells.now c.args.values c.args.start) (flag_in c.args.cells.now c.args.column) _ _ l.i l.invariant _ _ c.place_in-place.ensures c.flag_in.ensures

pub returns : goal.returns
returns c = let l = c.loop-i in
    fill_end (place_in c.args.cells.now c.args.values c.args.start) (flag_in c.args.cells.now c.args.column) _ _ l.i l.invariant _ l.auto.i-end c.loop-i-test.false
