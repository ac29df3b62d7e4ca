use Prim.Native.Nat.{ℕ}
use mathlib.Core.Path.{ap, ◌∙◌}
use lib.ListN.{replicate}
use Rattle.rules.specs.Board.{empty}
use Rattle.listing_tables.proofs.FillLaws.{fitting_fewer}
use Rattle.listing_tables.proofs.RosterLaws.{seated_none, seated_end, roster_long}
use native.Mathlib.Omega.{arith}
use Rattle.listing_tables.proofs.roster.fill_roster.Goals as goal

pub loop-i-init : goal.loop-i-init
loop-i-init c = (c.fill.ensures.after (λ y e. e)) ∙ ap (λ (k : ℕ). replicate k empty) c.requires.count_bound.1 ∙ seated_none c.args.cells.now (replicate c.args.rows empty)

pub seat-requires : goal.seat-requires
seat-requires c = let l = c.loop-i in record { fitting = fitting_fewer _ _ _ _ _ c.requires.fitting c.loop-i-test.true; i_bound = (omega arith, roster_long c.args.cells.now _ _ _ l.invariant) }

pub loop-i-preserved : goal.loop-i-preserved
loop-i-preserved c = let l = c.loop-i in
    c.seat.ensures _ l.invariant

pub returns : goal.returns
returns c = let l = c.loop-i in
    seated_end c.args.cells.now _ _ _ _ l.invariant l.auto.i-end c.loop-i-test.false
