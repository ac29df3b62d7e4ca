-- The codes of the members that the tables give: which they are, in what order, how many, and what they depend on. Assumes nothing.
use Prim.Native.Nat.{ℕ, suc, ◌<◌, ◌≤◌}
use mathlib.Core.Path.{◌≡◌, refl, sym, ap, ◌∙◌}
use mathlib.Core.Logic.{◌↔◌}
use mathlib.Core.Bool.{true, false}
use mathlib.Core.List.Memᴰ
use mathlib.Core.List.{List, [], map}
use native.Mathlib.Nat.{sub-zero}
use native.Mathlib.Omega.{arith}
use lib.Dec.{ltb}
use lib.ListN.{length, get_or, set, replicate, length-map}
use lib.Seq.{get_or-set_other}
use Rattle.basics.specs.Tests.{count_below, all_of_below}
use Rattle.basics.specs.Sorting.{rising, sort}
use Rattle.basics.proofs.Bools.{clash}
use Rattle.basics.proofs.Lists.{◌∈◌, nothing}
use Rattle.basics.proofs.Below.{count_below_le, count_below_zero, all_of_below_iff, all_of_below-length, all_of_below-distinct, all_of_below-same}
use Rattle.basics.proofs.Reordered.{back, member_reordered, apart_iff, reordered_full}
use Rattle.basics.proofs.Sorting.{by_number, length-sort, member_sort, sort-rising, rising_unique, rising_apart}
use Rattle.basics.proofs.Maps.{get_d_replicate_any, map_same, map_apart}
use Rattle.sorted_cells.specs.Codes.{row_of}
use Rattle.membership.specs.Cells.{code_at, cells}
use Rattle.membership.specs.Canonical.{is_member, member_codes, membership_of}
use Rattle.sorted_cells.proofs.Codes.{row_of_code}
use Rattle.membership.proofs.Flags.{flag_none}

-- the code of a member among the rows below n
abbrev pub MemberCode : ℕ → List ℕ → List ℕ → List ℕ → ℕ → ℕ → Type 0
MemberCode absent flags hs ls n c = (row_of c < n) × (is_member absent flags (row_of c) ≡ true) × (code_at hs ls (row_of c) ≡ c)

module _ (absent : ℕ) (flags hs ls : List ℕ) (n : ℕ) where
  pub codes-length : length (member_codes absent flags hs ls n) ≡ count_below n (is_member absent flags)
  unfolding member_codes
  codes-length =
      length-sort ltb (map (code_at hs ls) (all_of_below n (is_member absent flags)))
      ∙ length-map (all_of_below n (is_member absent flags)) (code_at hs ls)
      ∙ all_of_below-length (is_member absent flags) n

  pub codes_le : length (member_codes absent flags hs ls n) ≤ n
  codes_le = rw codes-length (count_below_le (is_member absent flags) n)

  module _ (small : n ≤ 128) where
    pub row_is : (r : ℕ) → r < n → row_of (code_at hs ls r) ≡ r
    row_is r h = row_of_code (get_or hs r 0) (get_or ls r 0) r (omega arith)

    pub codes_iff : (c : ℕ) → c ∈ member_codes absent flags hs ls n ↔ MemberCode absent flags hs ls n c
    unfolding member_codes
    codes_iff c = (
      λ m.
          let (r, k, e) = Memᴰ.of_map (code_at hs ls) (all_of_below n (is_member absent flags)) ((member_sort ltb c _).0 m) in
          let (l, t) = (all_of_below_iff (is_member absent flags) n r).0 k in
          let q : row_of c ≡ r = ap row_of (sym e) ∙ row_is r l in
          rw q (l, t, e),
      λ (l, t, e). (member_sort ltb c _).1 (Memᴰ.cast (sym e) (Memᴰ.map (code_at hs ls) ((all_of_below_iff (is_member absent flags) n (row_of c)).1 (l, t)))),
    )

    pub codes-rising : rising ltb (member_codes absent flags hs ls n) ≡ true
    unfolding member_codes
    codes-rising =
        sort-rising by_number (map (code_at hs ls) (all_of_below n (is_member absent flags)))
        (map_apart (code_at hs ls) (all_of_below n (is_member absent flags)) ((apart_iff _).0 (all_of_below-distinct (is_member absent flags) n))
        (λ q r k l e. sym (row_is q ((all_of_below_iff (is_member absent flags) n q).0 k).0) ∙ ap row_of e ∙ row_is r ((all_of_below_iff (is_member absent flags) n r).0 l).0))

    -- no other rising list has the members' codes
    pub codes_unique : (cs : List ℕ) → rising ltb cs ≡ true → ((c : ℕ) → c ∈ cs ↔ MemberCode absent flags hs ls n c) → cs ≡ member_codes absent flags hs ls n
    codes_unique cs r f =
        rising_unique by_number cs (member_codes absent flags hs ls n) r codes-rising
        (λ c. (λ m. (codes_iff c).1 ((f c).0 m), λ m. (f c).1 ((codes_iff c).0 m)))

    -- a rising list of members' codes, as many as there are members, has them all
    pub codes_full : (cs : List ℕ) → rising ltb cs ≡ true → length cs ≡ count_below n (is_member absent flags) → ((c : ℕ) → c ∈ cs → MemberCode absent flags hs ls n c)
        → cs ≡ member_codes absent flags hs ls n
    codes_full cs r k f =
        let p = reordered_full cs (member_codes absent flags hs ls n) (rising_apart by_number cs r) (k ∙ sym codes-length) (λ c m. (codes_iff c).1 (f c m)) in
        codes_unique cs r (λ c. (f c, λ q. member_reordered (back p) ((codes_iff c).1 q)))

-- ---- what they depend on

module _ (absent : ℕ) (flags flags' hs hs' ls ls' : List ℕ) (n : ℕ) where
  -- which rows below n are members, and the members' keys
  pub codes_same : ((r : ℕ) → r < n → is_member absent flags r ≡ is_member absent flags' r)
      → ((r : ℕ) → r < n → is_member absent flags r ≡ true → code_at hs ls r ≡ code_at hs' ls' r)
      → member_codes absent flags hs ls n ≡ member_codes absent flags' hs' ls' n
  unfolding member_codes
  codes_same f g =
      rw (← all_of_below-same (is_member absent flags) (is_member absent flags') n f)
      (ap (λ (cs : List ℕ). sort ltb cs)
      (map_same (code_at hs ls) (code_at hs' ls') (all_of_below n (is_member absent flags))
      (λ r m. let (l, t) = (all_of_below_iff (is_member absent flags) n r).0 m in g r l t)))

module _ (absent : ℕ) (flags hs ls : List ℕ) (n : ℕ) where
  -- the keys of other rows do not matter
  pub keys_of_others : (r h l : ℕ) → is_member absent flags r ≡ false → member_codes absent flags hs ls n ≡ member_codes absent flags (set hs r h) (set ls r l) n
  keys_of_others r h l f =
      codes_same absent flags flags hs (set hs r h) ls (set ls r l) n
      (λ k i. refl)
      (λ k i t.
      let other : ¬ (k ≡ r) = λ e. clash t (ap (is_member absent flags) e ∙ f) in
      rw (get_or-set_other hs r k h 0 other, get_or-set_other ls r k l 0 other))

  -- no members, no codes
  pub codes_none : ((r : ℕ) → r < n → is_member absent flags r ≡ false) → member_codes absent flags hs ls n ≡ []
  codes_none f = nothing (member_codes absent flags hs ls n) (codes-length absent flags hs ls n ∙ (count_below_zero (is_member absent flags) n).1 f)

  pub membership_none : ((r : ℕ) → r < n → is_member absent flags r ≡ false) → membership_of absent flags hs ls n ≡ cells n []
  unfolding membership_of
  membership_none f = ap (cells n) (codes_none f)

pub absent_none : (absent k : ℕ) (hs ls : List ℕ) (n : ℕ) → membership_of absent (replicate k absent) hs ls n ≡ cells n []
absent_none absent k hs ls n = membership_none absent (replicate k absent) hs ls n (λ r h. flag_none absent (replicate k absent) r (get_d_replicate_any k r absent))

-- which is a slice of zeros
pub cells_none : (n : ℕ) → cells n [] ≡ replicate (suc n) 0
unfolding cells
cells_none n = rw (sub-zero n)
