-- What a refresh and a build leave is an index again, of the roster that they promise: for the crates above. Assumes nothing.
use mathlib.Core.Path.{◌≡◌, ap, ◌∙◌}
use mathlib.Core.Bool.{false}
use mathlib.Core.List.{List}
use Prim.Native.Nat.{ℕ}
use native.Mathlib.Omega.{arith}
use lib.ListN.{length, get_or-eq_default}
use lib.Dec.{ltb}
use borrow.Author.Tests.{ltb-true}
use Rattle.basics.specs.Tests.{among}
use Rattle.basics.specs.Edits.{edits, Listed}
use Rattle.basics.proofs.Lists.{all_at_lem, among_not}
use Rattle.basics.proofs.Edits.{rows_edits}
use Rattle.rules.specs.Board.{empty}
use Rattle.rules.specs.Roster.{Roster, roster_of, after}
use Rattle.rules.proofs.Rosters.{untouched}
use Rattle.assignment_tables.specs.declared.Shape.{Shape}
use Rattle.assignment_tables.specs.Layout.{Marked, keys_length}
use Rattle.assignment_index.specs.Index.{members_of, roster_in, Indexed}
use Rattle.assignment_refresh.proofs.Kept.{Within, roster_records, roster_now, indexed_now, index-within}

-- a list of rows below n leaves the others
pub after-within : (n : ℕ) (h : Roster) (rs vs : List ℕ) → Listed n rs vs → Within n h → Within n (after h (edits rs vs))
after-within n h rs vs y f r l = untouched h (edits rs vs) (ap (among r) (rows_edits rs vs y.as_many) ∙ other) ∙ f r l
  where
    other : among r rs ≡ false
    other = (among_not r rs).1 (λ m. omega (arith, ltb-true r n (all_at_lem (λ (i : ℕ). ltb i n) y.in_range m)))

module _ (S : Shape) (m k R M : List ℕ) (w : Indexed S m k R M) (rs vs : List ℕ) (y : Listed S.rows rs vs) (R' M' : List ℕ)
    (e : R' ≡ roster_records S m k (after (roster_in S.rows R) (edits rs vs))) (f : M' ≡ members_of S.rows R') where
  pub roster_refreshed : roster_in S.rows R' ≡ after (roster_in S.rows R) (edits rs vs)
  roster_refreshed = roster_now S m k w.marked w.keys_long _ (after-within S.rows _ rs vs y (index-within S m k R M w)) R' M' e f

  pub indexed_refreshed : Indexed S m k R' M'
  indexed_refreshed = indexed_now S m k w.marked w.keys_long _ (after-within S.rows _ rs vs y (index-within S m k R M w)) R' M' e f

module _ (S : Shape) (m k : List ℕ) (marked : Marked S m) (keys_long : length k ≡ keys_length S) (l : List ℕ) (long : length l ≡ S.rows) (R M : List ℕ)
    (e : R ≡ roster_records S m k (roster_of l)) (f : M ≡ members_of S.rows R) where
  built-within : Within S.rows (roster_of l)
  built-within r g = get_or-eq_default l empty (rw long g)

  pub roster_built : roster_in S.rows R ≡ roster_of l
  roster_built = roster_now S m k marked keys_long (roster_of l) built-within R M e f

  pub indexed_built : Indexed S m k R M
  indexed_built = indexed_now S m k marked keys_long (roster_of l) built-within R M e f
