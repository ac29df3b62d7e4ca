-- The rows that a lookup finds in the membership which the tables give: the members under the key, in the order of the rows. Assumes nothing.
use Prim.Native.Nat.{ℕ, ◌<◌, ◌≤◌}
use mathlib.Core.Path.{◌≡◌, refl, sym, ap, ◌∙◌}
use mathlib.Core.Logic.{◌↔◌, ⊎_elim}
use mathlib.Core.Bool.{Bool, true, ◌&&◌, and_self}
use mathlib.Core.List.Memᴰ
use mathlib.Core.List.Memᴰ.{cases_cons}
use mathlib.Core.List.Memᴰ.{head as here}
use mathlib.Core.List.Memᴰ.{not-nil}
use mathlib.Core.List.Memᴰ.{tail as there}
use mathlib.Core.List.{List, [], ◌∷◌, map}
use lib.Dec.{ltb, eqb}
use lib.ListN.{length, get_or}
use Rattle.basics.specs.Tests.{count_below, all_of_below}
use Rattle.basics.specs.Sorting.{rising}
use Rattle.basics.proofs.Bools.{either, clash, and_left, and_right, and_join}
use Rattle.basics.proofs.Lists.{◌∈◌, all_at_lem, all_of}
use Rattle.basics.proofs.Below.{all_of_below_iff, all_of_below-length, all_of_below-rising, all_of_below-same}
use Rattle.basics.proofs.Sorting.{by_number, rising_cons, rising_unique}
use Rattle.sorted_cells.specs.Codes.{row_of}
use Rattle.membership.specs.Cells.{code_at, rows_in, has_key, rows_under}
use Rattle.membership.specs.Canonical.{is_member, member_codes, membership_of, is_under, key_rows}
use Rattle.sorted_cells.proofs.Codes.{code_row}
use Rattle.membership.proofs.Lookup.{under_nil, under_here, under_past, has_parts}
use Rattle.membership.proofs.Canonical.{row_is, codes_iff, codes-rising}
use Rattle.membership.proofs.Slices.{rows_now, codes-now}

module _ (hs ls : List ℕ) (h l : ℕ) where
  pub member_under : (rs : List ℕ) (z : ℕ) → z ∈ rows_under hs ls h l rs ↔ ((z ∈ rs) × (has_key hs ls h l z ≡ true))
  member_under [] z = rw (under_nil hs ls h l) (λ m. absurd (not-nil m), λ (m, t). m)
  member_under (r ∷ rs) z =
      either (has_key hs ls h l r)
      (λ t. rw (under_here hs ls h l r rs t) (
        λ m. ⊎_elim (λ e. (here e, rw e t)) (λ k. let (i, u) = (member_under rs z).0 k in (there i, u)) (cases_cons m),
        λ (m, u). ⊎_elim (λ e. here e) (λ k. there ((member_under rs z).1 (k, u))) (cases_cons m),
      ))
      (λ f. rw (under_past hs ls h l r rs f) (
        λ m. let (i, u) = (member_under rs z).0 m in (there i, u),
        λ (m, u). ⊎_elim (λ e. absurd (clash u (rw e f))) (λ k. (member_under rs z).1 (k, u)) (cases_cons m),
      ))

  -- rows whose codes rise: those under one key rise themselves
  pub under_rising : (rs : List ℕ) → rising ltb (map (code_at hs ls) rs) ≡ true → rising ltb (rows_under hs ls h l rs) ≡ true
  unfolding rising
  under_rising [] o = rw (under_nil hs ls h l)
  under_rising (r ∷ rs) o =
      let s = (rising_cons ltb (code_at hs ls r) (map (code_at hs ls) rs)).0 o in
      either (has_key hs ls h l r)
      (λ t. rw (under_here hs ls h l r rs t)
      (and_join
      (all_of (ltb r) (rows_under hs ls h l rs)
      (λ z m.
      let (i, u) = (member_under rs z).0 m in
      let (p, q) = has_parts hs ls h l r t in
      let (v, w) = has_parts hs ls h l z u in
      code_row (get_or hs r 0) (get_or ls r 0) r (get_or hs z 0) (get_or ls z 0) z (p ∙ sym v) (q ∙ sym w)
      ∙ all_at_lem (ltb (code_at hs ls r)) s.0 (Memᴰ.map (code_at hs ls) i)))
      (under_rising rs s.1)))
      (λ f. rw (under_past hs ls h l r rs f) (under_rising rs s.1))

pub key-count : (absent : ℕ) (flags hs ls : List ℕ) (h l n : ℕ) → length (key_rows absent flags hs ls h l n) ≡ count_below n (is_under absent flags hs ls h l)
unfolding key_rows
key-count absent flags hs ls h l n = all_of_below-length (is_under absent flags hs ls h l) n

-- a key of one part stands in one table, which is named twice
pub one_part : (absent : ℕ) (flags hs : List ℕ) (h n : ℕ) → key_rows absent flags hs hs h h n ≡ all_of_below n (λ (r : ℕ). is_member absent flags r && eqb (get_or hs r 0) h)
unfolding key_rows
one_part absent flags hs h n =
    all_of_below-same _ _ n (λ r l. ap (λ (b : Bool). is_member absent flags r && b) (and_self (eqb (get_or hs r 0) h)))

module _ (absent : ℕ) (flags hs ls : List ℕ) (n : ℕ) (m : List ℕ) (is : m ≡ membership_of absent flags hs ls n) (small : n ≤ 128) where
  -- the rows of the slice are the members
  pub rows_iff : (z : ℕ) → z ∈ rows_in m ↔ ((z < n) × (is_member absent flags z ≡ true))
  rows_iff z = rw (rows_now absent flags hs ls n m is) (
    λ i.
        let (c, k, e) = Memᴰ.of_map row_of (member_codes absent flags hs ls n) i in
        let s = (codes_iff absent flags hs ls n small c).0 k in
        rw (← e) (s.0, s.1),
    λ (i, t).
        let e = row_is absent flags hs ls n small z i in
        Memᴰ.cast (sym e) (Memᴰ.map row_of ((codes_iff absent flags hs ls n small (code_at hs ls z)).1 (rw e (i, t, refl)))),
  )

  module _ (h l : ℕ) where
    pub members_found : rows_under hs ls h l (rows_in m) ≡ key_rows absent flags hs ls h l n
    unfolding key_rows
    members_found =
        rising_unique by_number (rows_under hs ls h l (rows_in m)) (key_rows absent flags hs ls h l n)
        (under_rising hs ls h l (rows_in m) (rw (codes-now absent flags hs ls n m is small) (codes-rising absent flags hs ls n small)))
        (all_of_below-rising (is_under absent flags hs ls h l) n)
        (λ z. (
          λ i.
              let (j, t) = (member_under hs ls h l (rows_in m) z).0 i in
              let (k, u) = (rows_iff z).0 j in
              (all_of_below_iff (is_under absent flags hs ls h l) n z).1 (k, and_join u t),
          λ i.
              let (k, t) = (all_of_below_iff (is_under absent flags hs ls h l) n z).0 i in
              (member_under hs ls h l (rows_in m) z).1 ((rows_iff z).1 (k, and_left (is_member absent flags z) _ t), and_right (is_member absent flags z) _ t),
        ))

    pub count-found : length (rows_under hs ls h l (rows_in m)) ≡ count_below n (is_under absent flags hs ls h l)
    count-found = ap length members_found ∙ key-count absent flags hs ls h l n
