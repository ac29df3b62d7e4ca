use mathlib.Core.Path.{refl, ◌∙◌}
use Rattle.driver_calendar.proofs.RecordedLaws.{none_yet, one_row-more, all_rows_lem}
use native.Mathlib.Omega.{arith}
use Rattle.driver_calendar.proofs.gather.gather.Goals as goal

pub loop-row-init : goal.loop-row-init
loop-row-init c = (omega arith, none_yet _ _ _ _ _)

pub add_row-count-requires : goal.add_row-count-requires
add_row-count-requires c = let l = c.loop-row in record { rows_bound = (c.requires.rows_bound.0, c.requires.rows_bound.1, c.loop-row-test.true); count_in_bounds = (omega (arith, c.requires.rows_in_bounds.0, l.invariant.0, l.auto.out_rows, c.loop-row-test.true), omega (arith, c.requires.rows_in_bounds.1, l.invariant.0, l.auto.out_days, c.loop-row-test.true)) }

pub loop-row-preserved : goal.loop-row-preserved
loop-row-preserved c = let l = c.loop-row in let w = c.add_row-count in (omega (arith, w.ensures.few, l.invariant.0), one_row-more _ _ _ _ _ _ _ l.invariant.1 _ _ _ w.ensures)

pub returns : goal.returns
returns c = let l = c.loop-row in all_rows_lem _ _ _ l.row _ _ _ l.auto.row-end c.loop-row-test.false l.invariant.1
