-- A run gives the moves that the steps give, in their order; where it is done, all of them. Assumes nothing.
use Prim.Native.Nat.{ℕ, zero, suc, ◌-◌}
use mathlib.Core.Path.{◌≡◌, refl, ap}
use mathlib.Core.Bool.{true, false}
use mathlib.Core.List.{List, ◌∷◌}
use Rattle.std.specs.Prelude.{Option, None, Some}
use lib.ListN.{length}
use Rattle.basics.specs.Edits.{Edit}
use Rattle.basics.proofs.Bools.{by, clash}
use Rattle.window_kinds.specs.declared.CycleWindowCursor.{CycleWindowCursor}
use Rattle.window_kinds.specs.Kinds.{Stepped, walk, cursor_after}
use Rattle.assignment_walk.specs.Runs.{Run, stopped, finished, with_move, run}
use Rattle.assignment_walk.proofs.RunLaws.{run_done, run_full, run_long, run_more}

-- as many steps as it has moves give them, and lead to its cursor, or, where it is done, to the one before
pub record Same (step : CycleWindowCursor → Stepped) (c : CycleWindowCursor) (r : Run) : Type 0 where
  pub moves : walk step (length r.moves) c ≡ r.moves
  pub stays : r.done ≡ false → cursor_after step (length r.moves) c ≡ r.next
  pub ends : r.done ≡ true → ((step (cursor_after step (length r.moves) c)).move ≡ None) × ((step (cursor_after step (length r.moves) c)).next ≡ r.next)

module _ (step : CycleWindowCursor → Stepped) where
  stop_same : (c : CycleWindowCursor) (r : Run) → r ≡ stopped c → Same step c r
  unfolding walk cursor_after
  stop_same c r e = rw e (record { moves = refl; stays = λ f. refl; ends = λ t. absurd (clash t refl) })

  done_same : (c : CycleWindowCursor) (r : Run) → (step c).move ≡ None → r ≡ finished (step c).next → Same step c r
  unfolding walk cursor_after
  done_same c r m e = rw e (record { moves = refl; stays = λ f. absurd (clash refl f); ends = λ t. (m, refl) })

  more_same : (c : CycleWindowCursor) (L : List Edit) (r s : Run) → (step c).move ≡ Some L → Same step (step c).next s → r ≡ with_move L s → Same step c r
  unfolding walk cursor_after
  more_same c L r s m w e = rw e (record { moves = rw m (ap (λ (l : List (List Edit)). L ∷ l) w.moves); stays = w.stays; ends = w.ends })

  here : (b a : ℕ) (c : CycleWindowCursor) (o : Option (List Edit)) → (step c).move ≡ o → ((L : List Edit) → (step c).move ≡ Some L → Same step c (run step b a c)) → Same step c (run step b a c)
  here b a c None m more = done_same c (run step b a c) m (run_done step c m b a)
  here b a c (Some L) m more = more L m

  pub same_moves : (b a : ℕ) (c : CycleWindowCursor) → Same step c (run step b a c)
  same_moves zero a c = here 0 a c (step c).move refl (λ L m. stop_same c (run step 0 a c) (run_full step c L m 0 a refl))
  same_moves (suc b) a c =
      here (suc b) a c (step c).move refl (λ L m. by a (length L)
      (λ l. stop_same c (run step (suc b) a c) (run_long step c L m (suc b) a l))
      (λ l. more_same c L (run step (suc b) a c) (run step b (a - length L) (step c).next) m (same_moves b (a - length L) (step c).next) (run_more step c L m b a l)))
