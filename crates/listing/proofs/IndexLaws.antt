-- An index in the fronts of slices can be listed. Assumes nothing.
use Prim.Native.Nat.{ℕ}
use mathlib.Core.Path.{◌≡◌}
use mathlib.Core.List.{List}
use lib.ListN.{take}
use Rattle.assignment_tables.specs.declared.Shape.{Shape}
use Rattle.assignment_tables.specs.Layout.{marks_length, keys_length}
use Rattle.assignment_tables.specs.Tables.{board}
use Rattle.assignment_index.specs.Index.{roster_in}
use Rattle.written_text.specs.Wrote.{Wrote}
use Rattle.listing_moves.specs.WalkText.{Bounded}
use Rattle.filed_rosters.specs.Filing.{marks_front, keys_front, records_front, members_front, Stands}
use Rattle.filed_rosters.proofs.StandLaws.{stands-small, ready_ends}
use Rattle.listing.specs.FileListing.{board_listing}
use Rattle.listing.specs.Steps.{Listable}

module _ (S : Shape) (m k R M : List ℕ) (w : Stands S m k R M) (a b : ℕ) (e : a ≡ marks_length S) (f : b ≡ keys_length S) where
  pub listable : Bounded (board S (marks_front S m) (keys_front S k)) → Listable S (take a m) (take b k) (records_front S R) (members_front S M)
  listable bounded = record {
    ready = ready_ends S m k R M w a b e f;
    small = (stands-small S m k R M w).few_rows;
    unranked = λ p. rw e (w.unranked p);
    bounded = rw (e, f) bounded;
  }

  pub index_listed : (before after : List ℕ) (n : ℕ) → Wrote before 0 (board_listing (board S (take a m) (take b k)) (roster_in S.rows (records_front S R))) after n
      → Wrote before 0 (board_listing (board S (marks_front S m) (keys_front S k)) (roster_in S.rows (records_front S R))) after n
  index_listed before after n t = rw (← e, ← f) t
