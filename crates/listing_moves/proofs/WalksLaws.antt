-- A turn of the listing: a walk is read back, its moves are written, and the listing goes on behind them or ends. Assumes nothing.
use Prim.Native.Nat.{ℕ, ◌+◌, ◌≤◌, ◌<◌, min}
use mathlib.Core.Path.{◌≡◌, sym, ap₂, subst}
use mathlib.Core.Bool.{true, false}
use mathlib.Core.List.{List}
use native.Mathlib.Omega.{arith}
use lib.ListN.{length, take}
use Rattle.std.specs.Prelude.{Ok}
use Rattle.basics.specs.Edits.{Edit}
use Rattle.rules.specs.Board.{Board}
use Rattle.rules.specs.Roster.{Roster}
use Rattle.window_kinds.specs.declared.CycleWindowCursor.{CycleWindowCursor}
use Rattle.assignment_cycle.specs.Windows.{rematch_step}
use Rattle.walk_answers.specs.declared.Walk.{Walk}
use Rattle.walk_answers.specs.declared.Progress.TheVariants as progress
use Rattle.assignment_walk.specs.Runs.{Run, run, leaves, resumed}
use Rattle.assignment_walk.proofs.RunBounds.{Within, within}
use Rattle.listing_text.specs.Output.{moves_from}
use Rattle.written_text.specs.Wrote.{Wrote}
use Rattle.listing_moves.specs.WalkText.{moves_ahead, cut, Laid, Wide, Room}
use Rattle.listing_moves.proofs.WalkTextLaws.{Going, walk-room, numbers_few, nearer, walk-written, all-written}
use Rattle.listing_moves.proofs.WalkReading.{Said, next_so, stopped_so, done_so, front_long, numbers_so, laid_so, cut_so}

module _ (B : Board) (h : Roster) (order : List ℕ) (few : length order ≤ 128) (first : CycleWindowCursor) (out : List ℕ) (from : ℕ) (enough : Room (moves_ahead B h order first) from out)
    (now : List ℕ) (at number : ℕ) (c : CycleWindowCursor) (g : Going B h order first out from now at number c)
    (O U N O' U' N' : List ℕ) (w : Wide O U N) (r : Walk)
    (e : leaves r O' U' N' ≡ resumed 0 0 (run (rematch_step B h order) (length N) (min (length O) (length U)) c) O U N) where
  abbrev R : Run
  R = run (rematch_step B h order) (length N) (min (length O) (length U)) c

  same : R ≡ run (rematch_step B h order) 128 128 c
  same =
      let a : min (length O) (length U) ≡ 128 = omega (arith, w.rows, w.values) in
      ap₂ (λ (x y : ℕ). run (rematch_step B h order) x y c) w.lengths a

  bounds : Within 128 128 R
  bounds = subst (λ (x : Run). Within 128 128 x) (sym same) (within (rematch_step B h order) 128 128 c)

  module _ (n : ℕ) (q : n ≡ 0 + length R.moves) where
    abbrev these : List (List Edit)
    these = cut (take n N') O' U'

    these_are : these ≡ R.moves
    these_are = cut_so R r O U N O' U' N' e w bounds n q

    asked : Laid (take n N') O' U' × ((at + length (moves_from number these) ≤ length now) × (number + length (take n N') ≤ 65537))
    asked = (
      laid_so R r O U N O' U' N' e w bounds n q,
      (
        subst (λ (M : List (List Edit)). at + length (moves_from number M) ≤ length now) (sym these_are) (walk-room B h order few first out from now at number c g R same enough),
        omega (arith, numbers_so R r O U N O' U' N' e w bounds n q, numbers_few B h order few first out from now at number c g R same enough),
      ),
    )

    as_moves : (u : List ℕ) (b : ℕ) → Wrote now at (moves_from number these) u b → Wrote now at (moves_from number R.moves) u b
    as_moves u b = subst (λ (M : List (List Edit)). Wrote now at (moves_from number M) u b) these_are

  module _ (n k : ℕ) (a : r.answer ≡ Ok (progress.Moves n k)) where
    stops : Said R.done false n (0 + length R.moves)
    stops = stopped_so R r O U N O' U' N' e n k a

    pub stop_front : n ≤ length N'
    stop_front = front_long R r O U N O' U' N' e w bounds n stops.number

    pub stop_asked : Laid (take n N') O' U' × ((at + length (moves_from number (cut (take n N') O' U')) ≤ length now) × (number + length (take n N') ≤ 65537))
    stop_asked = asked n stops.number

    pub stop_number : number + n ≤ 65537
    stop_number = omega (arith, stops.number, numbers_few B h order few first out from now at number c g R same enough)

    pub stop_goes : (u : List ℕ) (b : ℕ) → Wrote now at (moves_from number (cut (take n N') O' U')) u b → Going B h order first out from u b (number + n) r.next
    stop_goes u b v =
        let q : number + length R.moves ≡ number + n = omega (arith, stops.number) in
        subst (λ (m : ℕ). Going B h order first out from u b m r.next) q
        (walk-written B h order few first out from now at number c g R same stops.flag u b (as_moves n stops.number u b v) r.next (next_so R r O U N O' U' N' e))

    pub stop_nearer : length (moves_ahead B h order r.next) < length (moves_ahead B h order c)
    stop_nearer = nearer B h order few first out from now at number c g R same stops.flag r.next (next_so R r O U N O' U' N' e)

  module _ (n k : ℕ) (a : r.answer ≡ Ok (progress.Done n k)) where
    ends : Said R.done true n (0 + length R.moves)
    ends = done_so R r O U N O' U' N' e n k a

    pub end_front : n ≤ length N'
    end_front = front_long R r O U N O' U' N' e w bounds n ends.number

    pub end_asked : Laid (take n N') O' U' × ((at + length (moves_from number (cut (take n N') O' U')) ≤ length now) × (number + length (take n N') ≤ 65537))
    end_asked = asked n ends.number

    pub end_written : (u : List ℕ) (b : ℕ) → Wrote now at (moves_from number (cut (take n N') O' U')) u b → Wrote out from (moves_from 1 (moves_ahead B h order first)) u b
    end_written u b v = all-written B h order few first out from now at number c g R same ends.flag u b (as_moves n ends.number u b v)
