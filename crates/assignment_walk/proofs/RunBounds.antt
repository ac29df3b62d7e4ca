-- How much a run writes: no more than there is room for, and a move where one has room and the walk is not done. Assumes nothing.
use Prim.Native.Nat.{ℕ, zero, suc, ◌-◌, ◌≤◌}
use mathlib.Core.Path.{◌≡◌, refl, ap}
use mathlib.Core.Bool.{false}
use mathlib.Core.List.{List, []}
use Rattle.std.specs.Prelude.{Option, None, Some}
use native.Mathlib.Omega.{arith}
use lib.ListN.{length, length-append}
use Rattle.basics.specs.Edits.{Edit}
use Rattle.basics.proofs.Bools.{by, clash}
use Rattle.window_kinds.specs.declared.CycleWindowCursor.{CycleWindowCursor}
use Rattle.window_kinds.specs.Kinds.{Stepped}
use Rattle.assignment_walk.specs.Runs.{Run, with_move, run, joined}
use Rattle.assignment_walk.proofs.RunLaws.{run_done, run_full, run_long, run_more, joined-more}

pub record Within (b a : ℕ) (r : Run) : Type 0 where
  pub few : length r.moves ≤ b
  pub short : length (joined r.moves) ≤ a

nothing : (b a : ℕ) (r : Run) → r.moves ≡ [] → Within b a r
unfolding joined
nothing b a r e = record { few = rw e (omega arith); short = rw e (omega arith) }

more : (b a : ℕ) (L : List Edit) (r s : Run) → r ≡ with_move L s → length L ≤ a → Within b (a - length L) s → Within (suc b) a r
more b a L r s e l w = record {
  few = omega (arith, ap (λ (x : Run). length x.moves) e, w.few);
  short = omega (
    arith,
    ap (λ (x : Run). length (joined x.moves)) e,
    ap length (joined-more L s.moves),
    length-append L (joined s.moves),
    w.short,
  );
}

module _ (step : CycleWindowCursor → Stepped) where
  here : (b a : ℕ) (c : CycleWindowCursor) (o : Option (List Edit)) → (step c).move ≡ o → ((L : List Edit) → (step c).move ≡ Some L → Within b a (run step b a c)) → Within b a (run step b a c)
  here b a c None m some-move = nothing b a (run step b a c) (ap (λ (x : Run). x.moves) (run_done step c m b a))
  here b a c (Some L) m some-move = some-move L m

  pub within : (b a : ℕ) (c : CycleWindowCursor) → Within b a (run step b a c)
  within zero a c = here 0 a c (step c).move refl (λ L m. nothing 0 a (run step 0 a c) (ap (λ (x : Run). x.moves) (run_full step c L m 0 a refl)))
  within (suc b) a c =
      here (suc b) a c (step c).move refl (λ L m. by a (length L)
      (λ l. nothing (suc b) a (run step (suc b) a c) (ap (λ (x : Run). x.moves) (run_long step c L m (suc b) a l)))
      (λ l. more b a L (run step (suc b) a c) (run step b (a - length L) (step c).next) (run_more step c L m b a l) l (within b (a - length L) (step c).next)))

  -- 8.8: a walk that is not done has written a move, where each has room
  pub writes_one : (b a : ℕ) (c : CycleWindowCursor) → ((L : List Edit) → (step c).move ≡ Some L → length L ≤ a) → (run step (suc b) a c).done ≡ false → 1 ≤ length (run step (suc b) a c).moves
  writes_one b a c fits f = go (step c).move refl
    where
      go : (o : Option (List Edit)) → (step c).move ≡ o → 1 ≤ length (run step (suc b) a c).moves
      go None m = absurd (clash (ap (λ (x : Run). x.done) (run_done step c m (suc b) a)) f)
      go (Some L) m = omega (arith, ap (λ (x : Run). length x.moves) (run_more step c L m b a (fits L m)))
