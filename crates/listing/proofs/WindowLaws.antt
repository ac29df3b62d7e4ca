-- The order of the rows in its room, and the listing of their windows. Assumes nothing.
use Prim.Native.Nat.{ℕ, ◌≤◌}
use mathlib.Core.Path.{◌≡◌, sym, ap, subst, ◌∙◌}
use mathlib.Core.List.{List}
use native.Mathlib.Omega.{arith}
use lib.ListN.{length, take, drop, length-append, replicate, length-replicate}
use lib.IntN.{ℤ, pos}
use lib.Seq.{take_at, length-take-le}
use Rattle.rules.specs.Ranks.{Ranks}
use Rattle.outputs.specs.Outputs.{fronted, cells}
use Rattle.outputs.proofs.CellLaws.{length-cells}
use Rattle.assignment_tables.specs.declared.Shape.{Shape}
use Rattle.assignment_tables.specs.Layout.{ranks_length, Small}
use Rattle.assignment_tables.specs.Tables.{board, ranks_of}
use Rattle.assignment_index.specs.Index.{roster_in}
use Rattle.assignment_state.specs.Admission.{Ready}
use Rattle.assignment_order.specs.Positions.{assigned_rows}
use Rattle.assignment_order.specs.Ordered.{Filled}
use Rattle.window_kinds.specs.Kinds.{rematching, first_cursor}
use Rattle.listing_shape.specs.FileBoard.{file_ranks}
use Rattle.listing_text.specs.Output.{listing_text}
use Rattle.written_text.specs.Wrote.{Wrote}
use Rattle.listing_moves.specs.WalkText.{moves_ahead}
use Rattle.listing.specs.FileListing.{board_listing}
use Rattle.listing.specs.Steps.{Listable}
use Rattle.listing_room.specs.Room.{no_ranks}
use Rattle.listing_room.proofs.RoomLaws.{ranks-room}

pub ranks-small : (S : Shape) (m k R M : List ℕ) → Listable S m k R M → Small S
ranks-small S m k R M w = (w.ready (replicate (ranks_length S) (pos 0)) (length-replicate (ranks_length S) (pos 0))).tables.marked.small

module _ (S : Shape) (m k R M : List ℕ) (w : Listable S m k R M) (P : List ℤ) (given : ℕ) (e : P ≡ no_ranks) (g : given ≡ ranks_length S) where
  pub ranks-within : given ≤ length P
  ranks-within = ranks-room P given e (omega (arith, w.small))

  pub ranks_long : given ≡ length (take given P)
  ranks_long = sym (length-take-le given P ranks-within)

  pub ready_so : Ready S m k (take given P) R M
  ready_so = w.ready (take given P) (sym ranks_long ∙ g)

  module _ (W O : List ℕ) (count : ℕ) (z : W ≡ cells 0) (f : Filled (board S m k) (ranks_of S m (take given P)) (roster_in S.rows R) 0 W O count) (kept : length O ≡ length W) where
    abbrev order : List ℕ
    order = assigned_rows (board S m k) file_ranks (roster_in S.rows R) 0

    same-order : assigned_rows (board S m k) (ranks_of S m (take given P)) (roster_in S.rows R) 0 ≡ order
    same-order = ap (λ (K : Ranks). assigned_rows (board S m k) K (roster_in S.rows R) 0) (w.unranked (take given P))

    front : O ≡ fronted order W
    front = f.rows ∙ ap (λ (l : List ℕ). fronted l W) same-order

    number : count ≡ length order
    number = f.number ∙ ap length same-order

    few : length order ≤ 128
    few = omega (arith, kept, ap length front, length-append order (drop (length order) W), ap length z, length-cells 0)

    taken : take count O ≡ order
    taken = ap (take count) front ∙ take_at order (drop (length order) W) count (sym number)

    pub order-within : count ≤ length O
    order-within = omega (arith, number, few, kept, ap length z, length-cells 0)

    pub order_long : count ≡ length (take count O)
    order_long = number ∙ sym (ap length taken)

    pub order_few : length (take count O) ≤ 128
    order_few = omega (arith, ap length taken, few)

    pub windows_listed : (b a : List ℕ) (r : ℕ)
        → Wrote b 0 (listing_text (moves_ahead (board S m k) (roster_in S.rows R) (take count O) (first_cursor rematching (length (take count O)) 4))) a r
        → Wrote b 0 (board_listing (board S m k) (roster_in S.rows R)) a r
    unfolding board_listing
    windows_listed b a r t =
        subst (λ (l : List ℕ). Wrote b 0 (listing_text (moves_ahead (board S m k) (roster_in S.rows R) l (first_cursor rematching (length l) 4))) a r) taken t
