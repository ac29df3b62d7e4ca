-- The walk over the windows of an order, of any kind: every try of every window once, in order; exactly the moves among them; and it ends. Assumes nothing.
use Prim.Native.Nat.{ℕ, ◌≤◌}
use mathlib.Core.Path.{◌≡◌, ap, ◌∙◌}
use mathlib.Core.List.{List}
use Rattle.std.specs.Prelude.{Option}
use native.Mathlib.Omega.{arith}
use Rattle.basics.specs.Edits.{Edit}
use Rattle.window_kinds.specs.declared.CycleWindowCursor.{CycleWindowCursor}
use Rattle.window_kinds.specs.Kinds.{Kind, Walkable, rematching, reinserting, first_cursor, positions, ahead, moves_of, Walked}
use Rattle.window_kinds.proofs.CursorLaws.{first_fits, walks}
use Rattle.window_kinds.proofs.AheadLaws.{ahead-starts}
use Rattle.window_kinds.proofs.PositionLaws.{position_iff, positions_rise, positions-once, positions_few}
use Rattle.window_kinds.proofs.WalkLaws.{walk_gives, walk_ends}

module _ (K : Kind) (u : Walkable K) (move : CycleWindowCursor → Option (List Edit)) (n size : ℕ) (few : n ≤ 128) where
  abbrev first : CycleWindowCursor
  first = first_cursor K n size

  all-ahead : ahead K n first ≡ positions K n first.longest
  all-ahead = ahead-starts K u n 0 first.longest

  pub walked : Walked K move n size
  walked =
      let w = walks K n first u few (first_fits K n size) in
      record {
        each = position_iff K n first.longest u;
        once = positions-once K n first.longest;
        in_order = positions_rise K n first.longest;
        gives = λ k l. walk_gives K u move n first w k (rw all-ahead l) ∙ ap (moves_of move) all-ahead;
        ends = λ k l. walk_ends K u move n first w k (rw all-ahead l);
        bound = positions_few K n first.longest;
      }

pub rematching_walks : Walkable rematching
rematching_walks = record { some_row = omega arith; few_least = omega arith; few_tries = λ l h. omega arith }

pub reinserting_walks : Walkable reinserting
reinserting_walks = record { some_row = omega arith; few_least = omega arith; few_tries = λ l h. h }
