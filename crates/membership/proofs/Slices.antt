-- A lent slice that is the membership which the tables give: what it holds, and what a row's going and coming make of it. Assumes nothing.
use Prim.Native.Nat.{ℕ, suc, ◌+◌, ◌-◌, ◌<◌, ◌≤◌}
use mathlib.Core.Path.{◌≡◌, sym, ap, ◌∙◌}
use mathlib.Core.Bool.{false, cond}
use mathlib.Core.List.{List, map}
use native.Mathlib.Omega.{arith}
use lib.Dec.{ltb, eqb}
use lib.ListN.{length, get_or, set, length-set}
use Rattle.basics.specs.Tests.{count_below}
use Rattle.basics.specs.Sorting.{insert_sorted}
use Rattle.basics.proofs.Below.{count_below_less}
use Rattle.sorted_cells.specs.Codes.{row_of}
use Rattle.membership.specs.Cells.{code_at, cells, rows_in, codes_in, Membership, remove}
use Rattle.membership.specs.Canonical.{is_member, member_codes, membership_of}
use Rattle.membership.proofs.Reading.{length-cells, count_of_cells, rows_of_cells, codes_of_cells, membership_of_lem}
use Rattle.membership.proofs.Canonical.{codes-length, codes_le, codes_iff, codes-rising, keys_of_others}
use Rattle.membership.proofs.Changes.{taken_out_set, put_in_set, put-row-set}

module _ (absent : ℕ) (flags hs ls : List ℕ) (n : ℕ) (m : List ℕ) (is : m ≡ membership_of absent flags hs ls n) where
  as_cells : m ≡ cells n (member_codes absent flags hs ls n)
  unfolding membership_of
  as_cells = is

  pub length-now : length m ≡ suc n
  length-now = rw as_cells (length-cells n (member_codes absent flags hs ls n) (codes_le absent flags hs ls n))

  pub count-now : get_or m 0 0 ≡ count_below n (is_member absent flags)
  count-now = rw as_cells (count_of_cells n (member_codes absent flags hs ls n) ∙ codes-length absent flags hs ls n)

  pub rows_now : rows_in m ≡ map row_of (member_codes absent flags hs ls n)
  rows_now = rw as_cells (rows_of_cells n (member_codes absent flags hs ls n))

  -- a row that is no member leaves room for it
  pub room : (r : ℕ) → r < n → is_member absent flags r ≡ false → get_or m 0 0 + 1 < length m
  room r h f = omega (arith, length-now, count-now, count_below_less (is_member absent flags) n r h f)

  module _ (small : n ≤ 128) where
    pub codes-now : codes_in hs ls m ≡ member_codes absent flags hs ls n
    codes-now = rw as_cells (codes_of_cells n (member_codes absent flags hs ls n) hs ls (λ c k. ((codes_iff absent flags hs ls n small c).0 k).2))

    pub membership_now : length hs ≡ n → length ls ≡ n → Membership hs ls m
    membership_now lh ll =
        rw as_cells
        (membership_of_lem n (member_codes absent flags hs ls n) hs ls (λ c k. ((codes_iff absent flags hs ls n small c).0 k).2)
        (codes_le absent flags hs ls n) (ll ∙ sym lh) (omega arith) (codes-rising absent flags hs ls n small)
        (λ c k. let s = (codes_iff absent flags hs ls n small c).0 k in omega arith))

-- there is one such slice
pub one_slice : (absent : ℕ) (flags hs ls : List ℕ) (n : ℕ) (m m' : List ℕ) → m ≡ membership_of absent flags hs ls n → m' ≡ membership_of absent flags hs ls n → m ≡ m'
one_slice absent flags hs ls n m m' p q = p ∙ sym q

-- the keys of a row that is no member may be set first
pub keys-set : (absent : ℕ) (flags hs ls : List ℕ) (n : ℕ) (m : List ℕ) (r h l : ℕ) → is_member absent flags r ≡ false
    → m ≡ membership_of absent flags hs ls n → m ≡ membership_of absent flags (set hs r h) (set ls r l) n
unfolding membership_of
keys-set absent flags hs ls n m r h l free is = is ∙ ap (cells n) (keys_of_others absent flags hs ls n r h l free)

module _ (absent : ℕ) (flags hs ls : List ℕ) (n : ℕ) (m : List ℕ) (is : m ≡ membership_of absent flags hs ls n) (small : n ≤ 128) (r : ℕ) (in_range : r < n) (h l : ℕ) where
  less_one : length m - 1 ≡ n
  less_one = omega (arith, length-now absent flags hs ls n m is)

  -- the row goes, whatever the tables then have for its key
  pub row_out : cells (length m - 1) (remove (code_at hs ls r) (codes_in hs ls m)) ≡ membership_of absent (set flags r absent) (set hs r h) (set ls r l) n
  unfolding membership_of
  row_out = rw (less_one, codes-now absent flags hs ls n m is small) (ap (cells n) (taken_out_set absent flags hs ls n small r in_range h l))

  -- the row comes, where it was no member
  module _ (free : is_member absent flags r ≡ false) where
    codes-set : codes_in (set hs r h) (set ls r l) m ≡ member_codes absent flags hs ls n
    codes-set =
        codes-now absent flags (set hs r h) (set ls r l) n m (keys-set absent flags hs ls n m r h l free is) small
        ∙ sym (keys_of_others absent flags hs ls n r h l free)

    pub membership_in : length hs ≡ n → length ls ≡ n → Membership (set hs r h) (set ls r l) m
    membership_in lh ll =
        membership_now absent flags (set hs r h) (set ls r l) n m (keys-set absent flags hs ls n m r h l free is) small
        (length-set hs r h ∙ lh) (length-set ls r l ∙ ll)

    module _ (x : ℕ) (long : length flags ≡ n) where
      pub member_in : (x ≡ absent → ⊥)
          → cells (length m - 1) (insert_sorted ltb (code_at (set hs r h) (set ls r l) r) (codes_in (set hs r h) (set ls r l) m))
          ≡ membership_of absent (set flags r x) (set hs r h) (set ls r l) n
      unfolding membership_of
      member_in some = rw (less_one, codes-set) (ap (cells n) (put_in_set absent flags hs ls n small r in_range h l free x long some))

      pub row_in :
          cells (length m - 1) (cond (eqb x absent) (codes_in (set hs r h) (set ls r l) m) (insert_sorted ltb (code_at (set hs r h) (set ls r l) r) (codes_in (set hs r h) (set ls r l) m)))
          ≡ membership_of absent (set flags r x) (set hs r h) (set ls r l) n
      unfolding membership_of
      row_in = rw (less_one, codes-set) (ap (cells n) (put-row-set absent flags hs ls n small r in_range h l free x long))
