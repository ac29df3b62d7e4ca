-- `ejection_turns::take_value` meets its contract. The loop's invariant: the first allowed of the candidates that are left is that of all, and nothing but the position has changed. Assumes nothing.
use Prim.Native.Nat.{◌≤◌, ◌-◌}
use mathlib.Core.Path.{◌≡◌}
use lib.ListN.{length}
use Rattle.assignment_tables.specs.Tables.{the_board}
use Rattle.assignment_index.specs.Index.{the_roster}
use Rattle.ejection_turns.proofs.TurnLaws.{Trying}
use Rattle.ejection_turns.proofs.take_value.Given as goal

abbrev pub invariant-loop-j : goal.invariant-loop-j
invariant-loop-j l = (l.j ≤ length l.offered) × (length l.values ≡ length l.initial.values) × (Trying (the_board l.tables) (the_roster l.tables l.index) l.attempt l.window l.initial.values l.i l.offered l.values l.j)

abbrev pub decreases-loop-j : goal.decreases-loop-j
decreases-loop-j l = length l.offered - l.j
