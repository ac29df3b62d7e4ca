-- One row taken out of the members that the tables give, and one put in. Assumes nothing.
use Prim.Native.Nat.{ℕ, ◌<◌, ◌≤◌}
use mathlib.Core.Path.{◌≡◌, refl, sym, ap, ◌∙◌}
use mathlib.Core.Logic.{◌↔◌, ⊎_elim}
use mathlib.Core.Bool.{true, false, cond}
use mathlib.Core.List.Memᴰ.{cases_cons}
use mathlib.Core.List.Memᴰ.{head as here}
use mathlib.Core.List.Memᴰ.{tail as there}
use mathlib.Core.List.{List}
use native.Mathlib.Decide.{ℕ_discrete}
use native.Mathlib.Omega.{arith}
use lib.Dec.{ltb, eqb}
use lib.ListN.{length, set}
use borrow.Author.Tests.{ne_eqb, eqb-true, eqb-false}
use Rattle.basics.specs.Sorting.{insert_sorted}
use Rattle.basics.proofs.Bools.{either, clash}
use Rattle.basics.proofs.Sorting.{by_number, member_insert, insert_rising, rising_apart}
use Rattle.sorted_cells.specs.Codes.{row_of}
use Rattle.membership.specs.Cells.{code_at, remove}
use Rattle.membership.specs.Canonical.{is_member, member_codes}
use Rattle.membership.proofs.Removing.{member_remove, remove-rising}
use Rattle.membership.proofs.Flags.{flag-other, flag-here, flag-gone}
use Rattle.membership.proofs.Canonical.{MemberCode, row_is, codes_iff, codes-rising, codes_unique, codes_same, keys_of_others}

module _ (absent : ℕ) (flags hs ls : List ℕ) (n : ℕ) (small : n ≤ 128) (r : ℕ) (in_range : r < n) where
  -- the codes of the other rows are as they were
  others : (x c : ℕ) → (row_of c ≡ r → ⊥) → MemberCode absent flags hs ls n c ↔ MemberCode absent (set flags r x) hs ls n c
  others x c d =
      let e = flag-other absent flags r x (row_of c) d in
      (λ (l, t, q). (l, e ∙ t, q), λ (l, t, q). (l, sym e ∙ t, q))

  -- a code of the row r is that of the tables
  own : (c : ℕ) → MemberCode absent flags hs ls n c → row_of c ≡ r → c ≡ code_at hs ls r
  own c (l, t, q) e = sym q ∙ ap (code_at hs ls) e

  -- taken out, whether or not it was a member
  pub taken_out : remove (code_at hs ls r) (member_codes absent flags hs ls n) ≡ member_codes absent (set flags r absent) hs ls n
  taken_out =
      let cs = member_codes absent flags hs ls n in
      let o = codes-rising absent flags hs ls n small in
      codes_unique absent (set flags r absent) hs ls n small (remove (code_at hs ls r) cs) (remove-rising (code_at hs ls r) ltb cs o)
      (λ c. (
        λ m.
            let (k, d) = (member_remove (code_at hs ls r) cs (rising_apart by_number cs o) c).0 m in
            let s = (codes_iff absent flags hs ls n small c).0 k in
            (others absent c (λ e. d (own c s e))).0 s,
        λ s.
            let d : ¬ (row_of c ≡ r) = λ e. clash s.1 (ap (is_member absent (set flags r absent)) e ∙ flag-gone absent flags r) in
            (member_remove (code_at hs ls r) cs (rising_apart by_number cs o) c).1
            ((codes_iff absent flags hs ls n small c).1 ((others absent c d).1 s), λ e. d (ap row_of e ∙ row_is absent flags hs ls n small r in_range)),
      ))

  module _ (free : is_member absent flags r ≡ false) where
    -- put in, where it was no member
    pub put_in : (x : ℕ) → length flags ≡ n → (x ≡ absent → ⊥) → insert_sorted ltb (code_at hs ls r) (member_codes absent flags hs ls n) ≡ member_codes absent (set flags r x) hs ls n
    put_in x long some =
        let cs = member_codes absent flags hs ls n in
        let c₀ = code_at hs ls r in
        let mine : row_of c₀ ≡ r = row_is absent flags hs ls n small r in_range in
        let now : is_member absent (set flags r x) r ≡ true = flag-here absent flags r x (omega arith) ∙ rw (ne_eqb x absent some) in
        let apart : (c : ℕ) → MemberCode absent flags hs ls n c → ¬ (row_of c ≡ r) = λ c s e. clash s.1 (ap (is_member absent flags) e ∙ free) in
        codes_unique absent (set flags r x) hs ls n small (insert_sorted ltb c₀ cs)
        (insert_rising by_number c₀ cs (λ m. apart c₀ ((codes_iff absent flags hs ls n small c₀).0 m) mine) (codes-rising absent flags hs ls n small))
        (λ c. (
          λ m. ⊎_elim
              (λ e. let q : row_of c ≡ r = ap row_of e ∙ mine in rw q (in_range, now, sym e))
              (λ k. let s = (codes_iff absent flags hs ls n small c).0 k in (others x c (apart c s)).0 s)
              (cases_cons ((member_insert ltb c c₀ cs).0 m)),
          λ s. (member_insert ltb c c₀ cs).1 (elim (ℕ_discrete (row_of c) r) [
            | yes e ↦ here (sym s.2 ∙ ap (code_at hs ls) e)
            | no d ↦ there ((codes_iff absent flags hs ls n small c).1 ((others x c d).1 s))
          ]),
        ))

-- a row that is no member may as well have the flag that says so
pub put_none : (absent : ℕ) (flags hs ls : List ℕ) (n r : ℕ) → is_member absent flags r ≡ false
    → member_codes absent flags hs ls n ≡ member_codes absent (set flags r absent) hs ls n
put_none absent flags hs ls n r free =
    codes_same absent flags (set flags r absent) hs hs ls ls n
    (λ k i. elim (ℕ_discrete k r) [
      | yes e ↦ rw e (free ∙ sym (flag-gone absent flags r))
      | no d ↦ sym (flag-other absent flags r absent k d)
    ])
    (λ k i t. refl)

-- the same, with the row's key set too
module _ (absent : ℕ) (flags hs ls : List ℕ) (n : ℕ) (small : n ≤ 128) (r : ℕ) (in_range : r < n) (h l : ℕ) where
  pub taken_out_set : remove (code_at hs ls r) (member_codes absent flags hs ls n) ≡ member_codes absent (set flags r absent) (set hs r h) (set ls r l) n
  taken_out_set = taken_out absent flags hs ls n small r in_range ∙ keys_of_others absent (set flags r absent) hs ls n r h l (flag-gone absent flags r)

  module _ (free : is_member absent flags r ≡ false) where
    pub put_in_set : (x : ℕ) → length flags ≡ n → (x ≡ absent → ⊥)
        → insert_sorted ltb (code_at (set hs r h) (set ls r l) r) (member_codes absent flags hs ls n) ≡ member_codes absent (set flags r x) (set hs r h) (set ls r l) n
    put_in_set x long some =
        ap (insert_sorted ltb (code_at (set hs r h) (set ls r l) r)) (keys_of_others absent flags hs ls n r h l free)
        ∙ put_in absent flags (set hs r h) (set ls r l) n small r in_range free x long some

    pub put_none_set : member_codes absent flags hs ls n ≡ member_codes absent (set flags r absent) (set hs r h) (set ls r l) n
    put_none_set =
        put_none absent flags hs ls n r free ∙ keys_of_others absent (set flags r absent) hs ls n r h l (flag-gone absent flags r)

    -- whichever the flag says
    pub put-row-set : (x : ℕ) → length flags ≡ n
        → cond (eqb x absent) (member_codes absent flags hs ls n) (insert_sorted ltb (code_at (set hs r h) (set ls r l) r) (member_codes absent flags hs ls n))
        ≡ member_codes absent (set flags r x) (set hs r h) (set ls r l) n
    put-row-set x long =
        either (eqb x absent)
        (λ t. let e : x ≡ absent = eqb-true x absent t in rw (t, e) put_none_set)
        (λ f. rw f (put_in_set x long (eqb-false x absent f)))
