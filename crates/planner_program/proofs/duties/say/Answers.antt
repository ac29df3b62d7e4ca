-- `planner_program::duties::say` meets its contract: the records of 128 duties have their room. Assumes nothing.
use mathlib.Core.Path.{sym}
use native.Mathlib.Omega.{arith}
use lib.Seq.{length-take-le}
use Rattle.planner_program.proofs.ProgramLaws.{records-within}
use Rattle.planner_program.proofs.duties.say.Goals as goal

pub slice_bounds-output-end : goal.slice_bounds-output-end
slice_bounds-output-end g c = records-within _ _ _ c.requires.1 c.write_duties-n.ensures.upper_bound (omega (arith, c.write_duties-n.auto.out))

pub slice_bounds-write_all-end : goal.slice_bounds-write_all-end
slice_bounds-write_all-end g c = sym (length-take-le _ _ (records-within _ _ _ c.requires.1 c.write_duties-n.ensures.upper_bound (omega (arith, c.write_duties-n.auto.out))))
