-- `table_refusals::all_under` meets its contract. The loop's invariant: what is known so far is whether all before are under the bound. Assumes nothing.
use mathlib.Core.Path.{◌≡◌}
use Rattle.basics.specs.Tests.{all_below}
use Rattle.assignment_tables.proofs.RefusalLaws.{is_under}
use Rattle.table_refusals.proofs.all_under.Given as goal

abbrev pub invariant-loop-x : goal.invariant-loop-x
invariant-loop-x l = l.fits ≡ all_below l.x-index (is_under l.bound l.listed)
