use native.Mathlib.Omega.{arith}
use Rattle.assignment_refresh.proofs.Seating.{seating_start, seating_asks, seating_turn, seating_end}
use Rattle.assignment_refresh.proofs.build.put_each.Goals as goal

pub loop-row-init : goal.loop-row-init
loop-row-init c = seating_start _ _ _ _ _ _ c.requires.indexed c.requires.roster_len.1

pub put_in-requires : goal.put_in-requires
put_in-requires c = let t = c.loop-row.invariant in record { indexed = t.indexed; row_lt_rows = (omega (arith, c.requires), seating_asks _ _ _ _ _ _ _ t) }

pub loop-row-preserved : goal.loop-row-preserved
loop-row-preserved c = seating_turn _ _ _ _ _ _ _ c.loop-row.invariant (omega arith) (omega (arith, c.requires)) _ _ c.put_in.ensures.records_value c.put_in.ensures.members_value

pub returns : goal.returns
returns c = let t = c.loop-row.invariant in record { records_value = seating_end _ _ _ _ _ _ _ t (omega arith); members_value = t.indexed.members_right }
