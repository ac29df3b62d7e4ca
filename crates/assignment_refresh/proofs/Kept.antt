-- Slices that are the records of a roster and the members of those records are an index again, of that roster. Assumes nothing.
use mathlib.Core.Path.{◌≡◌, sym, ap, ◌∙◌}
use mathlib.Core.List.{List}
use Prim.Native.Nat.{ℕ, ◌<◌, ◌≤◌}
use native.Mathlib.Omega.{arith}
use lib.ListN.{length, get_or-eq_default}
use lib.Dec.{lit<}
use Rattle.rules.specs.Board.{empty}
use Rattle.rules.specs.Roster.{Roster, put}
use Rattle.rules.proofs.Rosters.{put_other}
use Rattle.assignment_tables.specs.declared.Shape.{Shape}
use Rattle.assignment_tables.specs.Layout.{Marked, keys_length}
use Rattle.assignment_tables.specs.Tables.{capacity_at, sequence_at}
use Rattle.assignment_index.specs.Columns.{column}
use Rattle.assignment_index.specs.Index.{records_of, members_of, roster_in, Indexed}
use Rattle.assignment_index.proofs.PartLaws.{column_long}
use Rattle.assignment_index.proofs.Records.{roster_back}
use Rattle.assignment_index.proofs.Changes.{records_long, members_long}

-- past the n rows of a roster nobody holds anything
abbrev pub Within : ℕ → Roster → Type 0
Within n h = (r : ℕ) → n ≤ r → h r ≡ empty

pub put-within : (n : ℕ) (h : Roster) (r v : ℕ) → r < n → Within n h → Within n (put h r v)
put-within n h r v l f i g = put_other h r v (λ e. omega arith) ∙ f i g

module _ (S : Shape) (m k : List ℕ) where
  abbrev pub roster_records : Roster → List ℕ
  roster_records = records_of S.rows (capacity_at S m k) (sequence_at S m k)

module _ (S : Shape) (m k : List ℕ) (marked : Marked S m) (keys_long : length k ≡ keys_length S) (h : Roster) (within : Within S.rows h) (R M : List ℕ)
    (e : R ≡ roster_records S m k h) (f : M ≡ members_of S.rows R) where
  pub roster_now : roster_in S.rows R ≡ h
  roster_now = ap (roster_in S.rows) e ∙ roster_back S.rows (capacity_at S m k) (sequence_at S m k) h within

  pub indexed_now : Indexed S m k R M
  indexed_now = record {
    marked = marked;
    keys_long = keys_long;
    records_right = e ∙ ap (roster_records S m k) (sym roster_now);
    members_right = f;
  }

module _ (S : Shape) (m k R M : List ℕ) (w : Indexed S m k R M) where
  pub index-within : Within S.rows (roster_in S.rows R)
  index-within r l = get_or-eq_default (column S.rows 0 R) empty (omega (arith, column_long S.rows 0 R (records_long S m k R M w) (lit< tt)))

  -- one row set
  module _ (r v : ℕ) (l : r < S.rows) (R' M' : List ℕ) (e : R' ≡ roster_records S m k (put (roster_in S.rows R) r v)) (f : M' ≡ members_of S.rows R') where
    pub roster_put : roster_in S.rows R' ≡ put (roster_in S.rows R) r v
    roster_put = roster_now S m k w.marked w.keys_long _ (put-within S.rows _ r v l index-within) R' M' e f

    pub indexed_put : Indexed S m k R' M'
    indexed_put = indexed_now S m k w.marked w.keys_long _ (put-within S.rows _ r v l index-within) R' M' e f

  -- an index of as many rows has as many cells
  module _ (R' M' : List ℕ) (w' : Indexed S m k R' M') where
    pub same-records : length R' ≡ length R
    same-records = records_long S m k R' M' w' ∙ sym (records_long S m k R M w)

    pub same_members : length M' ≡ length M
    same_members = members_long S m k R' M' w' ∙ sym (members_long S m k R M w)
