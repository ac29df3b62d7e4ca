-- `ejection_turns::put_all_back` meets its contract. The loop's invariant: putting back the rows that are left comes to putting back all. Assumes nothing.
use Prim.Native.Nat.{◌≤◌, ◌-◌}
use mathlib.Core.Path.{◌≡◌}
use lib.ListN.{length, drop}
use Rattle.assignment_tables.specs.Tables.{the_board}
use Rattle.assignment_index.specs.Index.{the_roster}
use Rattle.ejection_turns.specs.Ejection.{put_back, places_from}
use Rattle.ejection_turns.proofs.put_all_back.Given as goal

abbrev pub invariant-loop-i : goal.invariant-loop-i
invariant-loop-i l = (l.i ≤ length l.window) × (length l.values ≡ length l.initial.values) × (put_back (the_board l.tables) (the_roster l.tables l.index) l.limit l.attempt l.window (drop l.i (places_from l.attempt l.window)) l.values ≡ put_back (the_board l.tables) (the_roster l.tables l.index) l.limit l.attempt l.window (places_from l.attempt l.window) l.initial.values)

abbrev pub decreases-loop-i : goal.decreases-loop-i
decreases-loop-i l = length l.window - l.i
