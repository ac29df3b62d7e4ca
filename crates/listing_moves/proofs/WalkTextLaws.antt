-- A listing written walk by walk. Assumes nothing.
use Prim.Native.Nat.{ℕ, zero, suc, ◌+◌, ◌-◌, ◌≤◌, ◌<◌}
use mathlib.Core.Path.{◌≡◌, refl, sym, ap, subst, ◌∙◌}
use mathlib.Core.Bool.{true, false, cond}
use mathlib.Core.List.Memᴰ.{head as here}
use mathlib.Core.List.{List, [], ◌∷◌, ◌++◌}
use Rattle.std.specs.Prelude.{Option, None, Some}
use native.Mathlib.Omega.{arith}
use lib.ListN.{length, length-append}
use Rattle.basics.specs.Edits.{Edit}
use Rattle.basics.proofs.Bools.{by}
use Rattle.basics.proofs.Lists.{◌∈◌}
use Rattle.rules.specs.Board.{Board}
use Rattle.rules.specs.Roster.{Roster}
use Rattle.outputs.proofs.Writing.{Writing, begun, room, turned, ended}
use Rattle.window_kinds.specs.declared.CycleWindowCursor.{CycleWindowCursor}
use Rattle.window_kinds.specs.Kinds.{rematching, ahead, Stepped, Fitting, onward, walk}
use Rattle.window_kinds.proofs.CursorLaws.{walks}
use Rattle.assignment_cycle.specs.Windows.{move_at, rematch_step}
use Rattle.window_kinds.proofs.WalkLaws.{walk_gives, next_fits}
use Rattle.window_kinds.proofs.Walked.{rematching_walks}
use Rattle.assignment_walk.specs.Runs.{Run, stopped, finished, with_move, run}
use Rattle.assignment_walk.proofs.RunLaws.{run_done, run_full, run_long, run_more}
use Rattle.assignment_walk.proofs.RunBounds.{writes_one}
use Rattle.listing_text.specs.Output.{moves_from}
use Rattle.written_text.specs.Wrote.{Wrote}
use Rattle.listing_moves.specs.WalkText.{moves_ahead, Room}
use Rattle.listing_moves.proofs.RoomLaws.{move_fits}
use Rattle.listing_moves.proofs.CutLaws.{lines_none, lines-append}

-- ---- the moves ahead, a step at a time

walk_step : (step : CycleWindowCursor → Stepped) (k : ℕ) (c : CycleWindowCursor) → walk step (suc k) c ≡ onward (step c).move (walk step k (step c).next)
unfolding walk
walk_step step k c = refl

module _ (B : Board) (h : Roster) (order : List ℕ) (few : length order ≤ 128) (c : CycleWindowCursor) (fits : Fitting rematching (length order) c) where
  abbrev step : CycleWindowCursor → Stepped
  step = rematch_step B h order

  pub steps_on : Fitting rematching (length order) (step c).next
  steps_on = next_fits rematching rematching_walks (move_at B h order) (length order) few c fits

  ahead-is : moves_ahead B h order c ≡ onward (step c).move (moves_ahead B h order (step c).next)
  ahead-is =
      let k = length (ahead rematching (length order) c) + length (ahead rematching (length order) (step c).next) in
      sym (walk_gives rematching rematching_walks (move_at B h order) (length order) c (walks rematching (length order) c rematching_walks few fits) (suc k) (omega arith))
      ∙ walk_step step k c
      ∙ ap (onward (step c).move) (walk_gives rematching rematching_walks (move_at B h order) (length order) (step c).next (walks rematching (length order) (step c).next rematching_walks few steps_on) k (omega arith))

  pub ahead_move : (L : List Edit) → (step c).move ≡ Some L → moves_ahead B h order c ≡ L ∷ moves_ahead B h order (step c).next
  ahead_move L e = ahead-is ∙ ap (λ (o : Option (List Edit)). onward o (moves_ahead B h order (step c).next)) e

  pub ahead_done : (step c).move ≡ None → moves_ahead B h order c ≡ []
  ahead_done e = ahead-is ∙ ap (λ (o : Option (List Edit)). onward o (moves_ahead B h order (step c).next)) e

-- ---- the moves ahead, a walk at a time

-- those of a run, and then those from its cursor on, or none where it is done
abbrev behind : Board → Roster → List ℕ → Run → List (List Edit)
behind B h order r = cond r.done [] (moves_ahead B h order r.next)

pub record Ahead (B : Board) (h : Roster) (order : List ℕ) (c : CycleWindowCursor) (r : Run) : Type 0 where
  pub fits : Fitting rematching (length order) r.next
  pub moves : moves_ahead B h order c ≡ r.moves ++ behind B h order r

module _ (B : Board) (h : Roster) (order : List ℕ) (few : length order ≤ 128) where
  abbrev steps : CycleWindowCursor → Stepped
  steps = rematch_step B h order

  stopped-ahead : (c : CycleWindowCursor) (r : Run) → Fitting rematching (length order) c → r ≡ stopped c → Ahead B h order c r
  stopped-ahead c r f e = rw e (record { fits = f; moves = refl })

  finished-ahead : (c : CycleWindowCursor) (r : Run) → Fitting rematching (length order) c → (steps c).move ≡ None → r ≡ finished (steps c).next → Ahead B h order c r
  finished-ahead c r f m e = rw e (record { fits = steps_on B h order few c f; moves = ahead_done B h order few c f m })

  more-ahead : (c : CycleWindowCursor) (L : List Edit) (r s : Run) → Fitting rematching (length order) c → (steps c).move ≡ Some L → r ≡ with_move L s → Ahead B h order (steps c).next s → Ahead B h order c r
  more-ahead c L r s f m e w = rw e (record { fits = w.fits; moves = ahead_move B h order few c f L m ∙ ap (λ (l : List (List Edit)). L ∷ l) w.moves })

  case : (b a : ℕ) (c : CycleWindowCursor) (f : Fitting rematching (length order) c) (o : Option (List Edit)) → (steps c).move ≡ o
      → ((L : List Edit) → (steps c).move ≡ Some L → Ahead B h order c (run steps b a c)) → Ahead B h order c (run steps b a c)
  case b a c f None m some-move = finished-ahead c (run steps b a c) f m (run_done steps c m b a)
  case b a c f (Some L) m some-move = some-move L m

  pub run-ahead : (b a : ℕ) (c : CycleWindowCursor) → Fitting rematching (length order) c → Ahead B h order c (run steps b a c)
  run-ahead zero a c f = case 0 a c f (steps c).move refl (λ L m. stopped-ahead c (run steps 0 a c) f (run_full steps c L m 0 a refl))
  run-ahead (suc b) a c f =
      case (suc b) a c f (steps c).move refl (λ L m. by a (length L)
      (λ l. stopped-ahead c (run steps (suc b) a c) f (run_long steps c L m (suc b) a l))
      (λ l. more-ahead c L (run steps (suc b) a c) (run steps b (a - length L) (steps c).next) f m (run_more steps c L m b a l) (run-ahead b (a - length L) (steps c).next (steps_on B h order few c f))))

  -- each has room in 128 cells, so a walk that is not done has written one
  pub one_written : (b : ℕ) (c : CycleWindowCursor) → Fitting rematching (length order) c → (run steps (suc b) 128 c).done ≡ false → 1 ≤ length (run steps (suc b) 128 c).moves
  one_written b c f = writes_one steps b 128 c (λ L m.
      omega (arith, few, move_fits B h order c L (subst (λ (l : List (List Edit)). L ∈ l) (sym (ahead_move B h order few c f L m)) (here refl))))

-- ---- the lines, a walk at a time

-- on the way: the moves left, under the next number, are what is still to be written
pub record Going (B : Board) (h : Roster) (order : List ℕ) (first : CycleWindowCursor) (out : List ℕ) (from : ℕ) (now : List ℕ) (at number : ℕ) (c : CycleWindowCursor) : Type 0 where
  pub fits : Fitting rematching (length order) c
  pub writing : Writing now at (moves_from number (moves_ahead B h order c)) out from (moves_from 1 (moves_ahead B h order first))
  pub counted : number + length (moves_ahead B h order c) ≡ 1 + length (moves_ahead B h order first)

pub going : (B : Board) (h : Roster) (order : List ℕ) (first : CycleWindowCursor) (out : List ℕ) (from : ℕ) → Fitting rematching (length order) first → Going B h order first out from out from 1 first
going B h order first out from f = record { fits = f; writing = begun out from (moves_from 1 (moves_ahead B h order first)); counted = refl }

module _ (B : Board) (h : Roster) (order : List ℕ) (few : length order ≤ 128) (first : CycleWindowCursor) (out : List ℕ) (from : ℕ) where
  abbrev left : CycleWindowCursor → List (List Edit)
  left = moves_ahead B h order

  module _ (now : List ℕ) (at number : ℕ) (c : CycleWindowCursor) (g : Going B h order first out from now at number c) (r : Run) (e : r ≡ run (rematch_step B h order) 128 128 c) where
    told : Ahead B h order c r
    told = rw e (run-ahead B h order few 128 128 c g.fits)

    these : moves_from number (left c) ≡ moves_from number r.moves ++ moves_from (number + length r.moves) (behind B h order r)
    these = ap (moves_from number) told.moves ∙ lines-append number r.moves (behind B h order r)

    counts : length (left c) ≡ length r.moves + length (behind B h order r)
    counts = ap length told.moves ∙ length-append r.moves (behind B h order r)

    pub walk-room : Room (left first) from out → at + length (moves_from number r.moves) ≤ length now
    walk-room w = room _ _ _ _ _ _ g.writing (moves_from number r.moves) (moves_from (number + length r.moves) (behind B h order r)) these w.lines

    pub numbers_few : Room (left first) from out → number + length r.moves ≤ 65537
    numbers_few w = omega (arith, counts, g.counted, w.few)

    rest-written : (u : List ℕ) (b : ℕ) → Wrote now at (moves_from number r.moves) u b → Writing u b (moves_from (number + length r.moves) (behind B h order r)) out from (moves_from 1 (left first))
    rest-written u b w = turned _ _ _ _ _ _ g.writing (moves_from number r.moves) (moves_from (number + length r.moves) (behind B h order r)) these b u (w.place, w.bytes)

    module _ (f : r.done ≡ false) where
      goes_on : behind B h order r ≡ left r.next
      goes_on = rw f

      pub nearer : (d : CycleWindowCursor) → d ≡ r.next → length (left d) < length (left c)
      nearer d q =
          let one : 1 ≤ length r.moves = rw e (one_written B h order few 127 c g.fits (ap (λ (x : Run). x.done) (sym e) ∙ f)) in
          rw q (omega (arith, one, counts, ap length goes_on))

      pub walk-written : (u : List ℕ) (b : ℕ) → Wrote now at (moves_from number r.moves) u b → (d : CycleWindowCursor) → d ≡ r.next → Going B h order first out from u b (number + length r.moves) d
      walk-written u b w d q = rw q (record {
        fits = told.fits;
        writing = subst (λ (M : List (List Edit)). Writing u b (moves_from (number + length r.moves) M) out from (moves_from 1 (left first))) goes_on (rest-written u b w);
        counted = omega (arith, g.counted, counts, ap length goes_on);
      })

    pub all-written : r.done ≡ true → (u : List ℕ) (b : ℕ) → Wrote now at (moves_from number r.moves) u b → Wrote out from (moves_from 1 (left first)) u b
    all-written t u b w =
        let none_left : behind B h order r ≡ [] = rw t in
        let (p, q) = ended _ _ _ _ _ _ (rest-written u b w) (ap (moves_from (number + length r.moves)) none_left ∙ lines_none (number + length r.moves)) in
        record { place = p; bytes = q }
