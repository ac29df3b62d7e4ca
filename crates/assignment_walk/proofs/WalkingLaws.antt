-- The walk on its way: what is left, written behind what was written, is the whole. Assumes nothing.
use Prim.Native.Nat.{ℕ, suc, ◌+◌, ◌-◌, ◌≤◌, ◌<◌, min}
use mathlib.Core.Path.{◌≡◌, refl, sym, ap, ap₂, ◌∙◌}
use mathlib.Core.Logic.{⊎_elim}
use mathlib.Core.Bool.{Bool, true, not}
use mathlib.Core.List.{List}
use Rattle.std.specs.Prelude.{None, Some}
use native.Mathlib.Omega.{arith}
use lib.ListN.{length, set, length-set}
use lib.Seq.{sets, length-sets}
use Rattle.basics.specs.Edits.{Edit, edits as listed, rows_of, values_of}
use Rattle.basics.proofs.Edits.{rows_edits, values-edits, length-edits}
use Rattle.rules.specs.Board.{Board}
use Rattle.rules.specs.Roster.{Roster}
use Rattle.window_kinds.specs.declared.CycleWindowCursor.{CycleWindowCursor}
use Rattle.window_kinds.specs.Kinds.{Stepped}
use Rattle.assignment_cycle.specs.Windows.{rematch_step}
use Rattle.walk_answers.specs.declared.Walk.{Walk}
use Rattle.walk_answers.specs.Answers.{move_fits, stopped_walk, finished_walk}
use Rattle.walk_answers.proofs.FitLaws.{not_fitting}
use Rattle.assignment_walk.specs.Runs.{Run, stopped, finished, run, Left, leaves, resumed}
use Rattle.assignment_walk.proofs.RunLaws.{run_done, run_full, run_long, run_more, resumed_none, resumed-more}

-- what is as it was, and how far the walk is
pub record Underway (O₀ U₀ N₀ O U N : List ℕ) (room moves edits : ℕ) : Type 0 where
  pub rows_long : length O ≡ length O₀
  pub values_long : length U ≡ length U₀
  pub lengths_long : length N ≡ length N₀
  pub counted : moves ≤ length N₀
  pub within : edits ≤ room
  pub room_is : room ≡ min (length O₀) (length U₀)

-- the whole is what is left, written behind what is there
abbrev pub Rest : Board → Roster → List ℕ → CycleWindowCursor → List ℕ → List ℕ → List ℕ → List ℕ → List ℕ → List ℕ → ℕ → ℕ → ℕ → CycleWindowCursor → Type 0
Rest B h order first O₀ U₀ N₀ O U N room moves edits c =
    resumed 0 0 (run (rematch_step B h order) (length N₀) (min (length O₀) (length U₀)) first) O₀ U₀ N₀
    ≡ resumed moves edits (run (rematch_step B h order) (length N₀ - moves) (room - edits) c) O U N

pub begins : (O U N : List ℕ) (room : ℕ) → room ≡ min (length O) (length U) → Underway O U N O U N room 0 0
begins O U N room e = record { rows_long = refl; values_long = refl; lengths_long = refl; counted = omega arith; within = omega arith; room_is = e }

pub rest-begins : (B : Board) (h : Roster) (order : List ℕ) (c : CycleWindowCursor) (O U N : List ℕ) (room : ℕ) → room ≡ min (length O) (length U) → Rest B h order c O U N O U N room 0 0 c
rest-begins B h order c O U N room e =
    let a : min (length O) (length U) ≡ room - 0 = omega arith in
    let b : length N ≡ length N - 0 = omega arith in
    ap₂ (λ (x y : ℕ). resumed 0 0 (run (rematch_step B h order) x y c) O U N) b a

module _ (O₀ U₀ N₀ O U N : List ℕ) (room moves edits : ℕ) (w : Underway O₀ U₀ N₀ O U N room moves edits) (k : ℕ) (fits : k ≤ room - edits) where
  pub rows_room : edits + k ≤ length O
  rows_room = omega (arith, w.rows_long, w.within, w.room_is)

  pub values-room : edits + k ≤ length U
  values-room = omega (arith, w.values_long, w.within, w.room_is)

  pub goes_on : (moves ≡ length N → ⊥) → (O' U' : List ℕ) (xs ys : List ℕ) → O' ≡ sets O edits xs → U' ≡ sets U edits ys → Underway O₀ U₀ N₀ O' U' (set N moves k) room (moves + 1) (edits + k)
  goes_on more O' U' xs ys e f = record {
    rows_long = ap length e ∙ length-sets O edits xs ∙ w.rows_long;
    values_long = ap length f ∙ length-sets U edits ys ∙ w.values_long;
    lengths_long = length-set N moves k ∙ w.lengths_long;
    counted = below moves (length N) w.lengths_long w.counted more;
    within = omega (arith, w.within);
    room_is = w.room_is;
  }
    where
      below : (m n : ℕ) → n ≡ length N₀ → m ≤ length N₀ → (m ≡ n → ⊥) → m + 1 ≤ length N₀
      below m n e l f = omega (arith, e, l, f)

  pub lengths_room : (moves ≡ length N → ⊥) → moves < length N
  lengths_room more = omega (arith, w.counted, w.lengths_long, more)

module _ (B : Board) (h : Roster) (order : List ℕ) (first : CycleWindowCursor) (O₀ U₀ N₀ O U N : List ℕ) (room moves edits : ℕ) (c : CycleWindowCursor)
    (rest : Rest B h order first O₀ U₀ N₀ O U N room moves edits c) where
  abbrev step : Stepped
  step = rematch_step B h order c

  abbrev whole : Left
  whole = resumed 0 0 (run (rematch_step B h order) (length N₀) (min (length O₀) (length U₀)) first) O₀ U₀ N₀

  pub all_done : step.move ≡ None → (d : CycleWindowCursor) → d ≡ step.next → (r : Walk) → r ≡ finished_walk d moves edits → leaves r O U N ≡ whole
  all_done e d q r f =
      rw (f, q) (sym (rest ∙ ap (λ (r : Run). resumed moves edits r O U N) (run_done (rematch_step B h order) c e (length N₀ - moves) (room - edits)) ∙ resumed_none moves edits O U N (finished step.next) refl))

  module _ (L : List Edit) (e : step.move ≡ Some L) where
    stops : run (rematch_step B h order) (length N₀ - moves) (room - edits) c ≡ stopped c → (r : Walk) → r ≡ stopped_walk c moves edits → leaves r O U N ≡ whole
    stops q r f = rw f (sym (rest ∙ ap (λ (x : Run). resumed moves edits x O U N) q ∙ resumed_none moves edits O U N (stopped c) refl))

    no_move_more : moves ≡ length N → length N ≡ length N₀ → (r : Walk) → r ≡ stopped_walk c moves edits → leaves r O U N ≡ whole
    no_move_more q l = stops (run_full (rematch_step B h order) c L e (length N₀ - moves) (room - edits) (omega arith))

    no_room-more : room - edits < length L → (r : Walk) → r ≡ stopped_walk c moves edits → leaves r O U N ≡ whole
    no_room-more l = stops (run_long (rematch_step B h order) c L e (length N₀ - moves) (room - edits) l)

    -- the move, of k edits, does not fit
    pub no_more : (k : ℕ) → length L ≡ k → (b : Bool) → b ≡ move_fits (length N) moves room edits k → not b ≡ true → length N ≡ length N₀
        → (r : Walk) → r ≡ stopped_walk c moves edits → leaves r O U N ≡ whole
    no_more k e b q h l r f =
        ⊎_elim
        (λ (z : moves ≡ length N). no_move_more z l r f)
        (λ (z : room - edits < k). no_room-more (rw e z) r f)
        (not_fitting (length N) moves room edits k b q h)

    move_on : moves < length N₀ → length L ≤ room - edits
        → Rest B h order first O₀ U₀ N₀ (sets O edits (rows_of L)) (sets U edits (values_of L)) (set N moves (length L)) room (moves + 1) (edits + length L) step.next
    move_on m l =
        let b : length N₀ - moves ≡ suc (length N₀ - (moves + 1)) = omega arith in
        let a : room - edits - length L ≡ room - (edits + length L) = omega arith in
        rest
        ∙ ap (λ (r : Run). resumed moves edits r O U N)
        (ap (λ (x : ℕ). run (rematch_step B h order) x (room - edits) c) b
        ∙ run_more (rematch_step B h order) c L e (length N₀ - (moves + 1)) (room - edits) l)
        ∙ resumed-more moves edits O U N L (run (rematch_step B h order) (length N₀ - (moves + 1)) (room - edits - length L) step.next)
        ∙ ap (λ (x : ℕ). resumed (moves + 1) (edits + length L) (run (rematch_step B h order) (length N₀ - (moves + 1)) x step.next) (sets O edits (rows_of L)) (sets U edits (values_of L)) (set N moves (length L))) a

  said_so : (rs vs : List ℕ) (n : ℕ) (after : CycleWindowCursor) (xs ys : List ℕ) (k : ℕ) (d : CycleWindowCursor) → rs ≡ xs → vs ≡ ys → n ≡ k → d ≡ after
      → (O' U' : List ℕ) → O' ≡ sets O edits xs → U' ≡ sets U edits ys
      → Rest B h order first O₀ U₀ N₀ (sets O edits rs) (sets U edits vs) (set N moves n) room (moves + 1) (edits + n) after
      → Rest B h order first O₀ U₀ N₀ O' U' (set N moves k) room (moves + 1) (edits + k) d
  said_so rs vs n after xs ys k d p q r g O' U' e f w = rw (e, f, g, ← p, ← q, ← r) w

  -- the same with the move's rows and values as they stand in two slices
  pub step_on : (xs ys : List ℕ) (k : ℕ) → length xs ≡ k → length ys ≡ k → step.move ≡ Some (listed xs ys) → moves < length N₀ → k ≤ room - edits
      → (O' U' : List ℕ) → O' ≡ sets O edits xs → U' ≡ sets U edits ys → (d : CycleWindowCursor) → d ≡ step.next
      → Rest B h order first O₀ U₀ N₀ O' U' (set N moves k) room (moves + 1) (edits + k) d
  step_on xs ys k a b m l q O' U' e f d g =
      let long : length (listed xs ys) ≡ k = length-edits xs ys (a ∙ sym b) ∙ a in
      said_so (rows_of (listed xs ys)) (values_of (listed xs ys)) (length (listed xs ys)) step.next xs ys k d (rows_edits xs ys (a ∙ sym b)) (values-edits xs ys (a ∙ sym b)) long g O' U' e f
      (move_on (listed xs ys) m l (rw long q))

pub count-is : (xs ys : List ℕ) (k : ℕ) → length xs ≡ k → length ys ≡ k → length (listed xs ys) ≡ k
count-is xs ys k a b = length-edits xs ys (a ∙ sym b) ∙ a
