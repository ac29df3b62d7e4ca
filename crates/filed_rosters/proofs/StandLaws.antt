-- Tables and index in the fronts of slices, cut off for whoever asks for their lengths. Assumes nothing.
use Prim.Native.Nat.{ℕ, ◌+◌, ◌*◌}
use mathlib.Core.Path.{◌≡◌, sym}
use mathlib.Core.List.{List}
use lib.ListN.{length, take, replicate, length-replicate}
use lib.IntN.{ℤ, pos}
use lib.Seq.{length-take-le}
use Rattle.assignment_tables.specs.declared.Shape.{Shape}
use Rattle.assignment_tables.specs.Layout.{Small, marks_length, keys_length, ranks_length}
use Rattle.assignment_state.specs.Admission.{Ready}
use Rattle.filed_rosters.specs.Filing.{records_front, members_front, Stands}

module _ (S : Shape) (m k R M : List ℕ) (w : Stands S m k R M) where
  pub stands-small : Small S
  stands-small = (w.ready (replicate (ranks_length S) (pos 0)) (length-replicate (ranks_length S) (pos 0))).tables.marked.small

  pub marks_end : (a : ℕ) → a ≡ marks_length S → a ≡ length (take a m)
  marks_end a e = rw e (sym (length-take-le (marks_length S) m w.marks_room))

  pub keys_end : (b : ℕ) → b ≡ keys_length S → b ≡ length (take b k)
  keys_end b e = rw e (sym (length-take-le (keys_length S) k w.keys_room))

  pub records_end : 5 * S.rows ≡ length (records_front S R)
  records_end = sym (length-take-le (5 * S.rows) R w.records_room)

  pub members_end : 3 * (S.rows + 1) ≡ length (members_front S M)
  members_end = sym (length-take-le (3 * (S.rows + 1)) M w.members_room)

  pub ready_ends : (a b : ℕ) → a ≡ marks_length S → b ≡ keys_length S → (p : List ℤ) → length p ≡ ranks_length S → Ready S (take a m) (take b k) p (records_front S R) (members_front S M)
  ready_ends a b e f p l = rw (e, f) (w.ready p l)
