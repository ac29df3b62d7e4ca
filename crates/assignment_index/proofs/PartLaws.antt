-- One part of the members: how a row leaves it and joins it, and whose rows it lists. Assumes nothing.
use mathlib.Core.Path.{◌≡◌, ◌∙◌}
use mathlib.Core.Bool.{cond, false}
use mathlib.Core.List.{List}
use Prim.Native.Nat.{ℕ, ◌+◌, ◌-◌, ◌<◌}
use native.Mathlib.Omega.{arith}
use lib.ListN.{length, get_or, set, length-set}
use lib.Seq.{set-get_or, set-set}
use lib.Dec.{eqb, ltb}
use Rattle.basics.specs.Sorting.{insert_sorted}
use Rattle.membership.specs.Cells.{code_at, codes_in, cells, remove, rows_in, rows_under, Membership}
use Rattle.membership.specs.Canonical.{is_member, key_rows}
use Rattle.membership.proofs.Flags.{flag-gone}
use Rattle.membership.proofs.Slices.{membership_now, room, row_out, row_in}
use Rattle.membership.proofs.KeyRows.{members_found}
use Rattle.assignment_index.specs.declared.columns.Part.{Part}
use Rattle.assignment_index.specs.Columns.{column, records_length, Named}
use Rattle.assignment_index.specs.Index.{part_of, part_without}
use Rattle.assignment_index.proofs.ColumnLaws.{column-within, column-length}

-- a column of the records has a cell a row
pub column_long : (n j : ℕ) (R : List ℕ) → length R ≡ records_length n → j < 5 → length (column n j R) ≡ n
column_long n j R e h = column-length n j R (omega (arith, column-within n j 5 h))

module _ (n : ℕ) (P : Part) (R m : List ℕ) (named : Named n P) (long : length R ≡ records_length n) where
  abbrev F : List ℕ
  F = column n P.flags R

  abbrev H : List ℕ
  H = column n P.high R

  abbrev L : List ℕ
  L = column n P.low R

  pub high_long : length H ≡ n
  high_long = column_long n P.high R long named.high_named

  pub low_long : length L ≡ n
  low_long = column_long n P.low R long named.low_named

  pub flags_long : length F ≡ n
  flags_long = column_long n P.flags R long named.flags_named

  pub part_membership : m ≡ part_of n P R → Membership H L m
  part_membership e = membership_now P.absent F H L n m e named.few high_long low_long

  module _ (r : ℕ) (l : r < n) where
    pub row-left : m ≡ part_of n P R → cells (length m - 1) (remove (code_at H L r) (codes_in H L m)) ≡ part_without n P R r
    row-left e =
        let out = row_out P.absent F H L n m e named.few r l (get_or H r 0) (get_or L r 0) in
        out ∙ rw (set-get_or H r 0, set-get_or L r 0)

    abbrev without : List ℕ
    without = set F r P.absent

    gone : is_member P.absent without r ≡ false
    gone = flag-gone P.absent F r

    pub without_membership : m ≡ part_without n P R r → Membership H L m
    without_membership e = membership_now P.absent without H L n m e named.few high_long low_long

    pub without-room : m ≡ part_without n P R r → get_or m 0 0 + 1 < length m
    without-room e = room P.absent without H L n m e r l gone

    pub row-joined : (x : ℕ) → x ≡ get_or F r 0 → m ≡ part_without n P R r
        → cells (length m - 1) (cond (eqb x P.absent) (codes_in H L m) (insert_sorted ltb (code_at H L r) (codes_in H L m))) ≡ part_of n P R
    row-joined x q e =
        let come = row_in P.absent without H L n m e named.few r l (get_or H r 0) (get_or L r 0) gone x (length-set F r P.absent ∙ flags_long) in
        let come' = rw (set-get_or H r 0, set-get_or L r 0) at come in
        come' ∙ rw (set-set F r P.absent x, q, set-get_or F r 0)

  pub rows_found : (h l : ℕ) → m ≡ part_of n P R → rows_under H L h l (rows_in m) ≡ key_rows P.absent F H L h l n
  rows_found h l e = members_found P.absent F H L n m e named.few h l
