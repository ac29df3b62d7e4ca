-- The rows under one key stand together in a membership, from the place of the key's start to the place of its end. Assumes nothing.
use Prim.Native.Nat.{ℕ, ◌+◌, ◌-◌, ◌^◌, ◌<◌, ◌≤◌}
use mathlib.Core.Path.{◌≡◌, refl, sym, ap, ◌∙◌}
use mathlib.Core.Bool.{Bool, true, false, not}
use mathlib.Core.List.Memᴰ.{head as here}
use mathlib.Core.List.Memᴰ.{tail as there}
use mathlib.Core.List.{List, [], ◌∷◌, map}
use native.Mathlib.Nat.{sub-zero, suc-sub-suc}
use native.Mathlib.Omega.{arith}
use lib.Dec.{ltb, eqb}
use lib.ListN.{length, get_or, take, drop, length-drop}
use lib.Seq.{drop-drop, take-take, length-take-le}
use borrow.Author.Tests.{lt-ltb, le-ltb, eq-eqb, eqb-true, not-true, not-false}
use Rattle.basics.specs.Sorting.{rising, place}
use Rattle.basics.proofs.Bools.{either, and_left, and_right, and_join, by}
use Rattle.basics.proofs.Lists.{◌∈◌, place_of}
use Rattle.basics.proofs.Sorting.{by_number, rising_cons, place-front, place_mono, place_upto, place-onward}
use Rattle.basics.proofs.Maps.{drop-take}
use Rattle.sorted_cells.specs.Codes.{key, code}
use Rattle.membership.specs.Cells.{code_at, rows_in, codes_in, Membership, has_key, rows_under}
use Rattle.sorted_cells.proofs.Codes.{of_key, key_parts}
use Rattle.membership.proofs.Reading.{length-rows_in, row_at, length-codes_in}
use Rattle.membership.proofs.Stores.{place-count}

module _ (hs ls : List ℕ) (h l : ℕ) where
  pub under_nil : rows_under hs ls h l [] ≡ []
  unfolding rows_under
  under_nil = refl

  pub under_here : (r : ℕ) (rs : List ℕ) → has_key hs ls h l r ≡ true → rows_under hs ls h l (r ∷ rs) ≡ r ∷ rows_under hs ls h l rs
  unfolding rows_under
  under_here r rs t = rw t

  pub under_past : (r : ℕ) (rs : List ℕ) → has_key hs ls h l r ≡ false → rows_under hs ls h l (r ∷ rs) ≡ rows_under hs ls h l rs
  unfolding rows_under
  under_past r rs f = rw f

  -- a row with the key has it in both parts
  pub has_parts : (r : ℕ) → has_key hs ls h l r ≡ true → (get_or hs r 0 ≡ h) × (get_or ls r 0 ≡ l)
  has_parts r t = (eqb-true _ _ (and_left (eqb (get_or hs r 0) h) _ t), eqb-true _ _ (and_right (eqb (get_or hs r 0) h) _ t))

  -- its code stands between the ends of the key
  between : (r : ℕ) → r < 128 → has_key hs ls h l r ≡ true → (code h l 0 ≤ code_at hs ls r) × (code_at hs ls r < code h l 128)
  between r s t = let (p, q) = has_parts r t in rw (p, q) (omega arith)

  outside : (r : ℕ) → r < 128 → (code h l 0 ≤ code_at hs ls r → code_at hs ls r < code h l 128 → ⊥) → has_key hs ls h l r ≡ false
  outside r s n = either (has_key hs ls h l r) (λ t. let (a, b) = between r s t in absurd (n a b)) (λ f. f)

  module _ (fl : l < 2 ^ 64) where
    inside : (r : ℕ) → r < 128 → get_or ls r 0 < 2 ^ 64 → code h l 0 ≤ code_at hs ls r → code_at hs ls r < code h l 128 → has_key hs ls h l r ≡ true
    inside r s f a b =
        let (p, q) = key_parts (get_or hs r 0) (get_or ls r 0) h l f fl (of_key (key h l) (key (get_or hs r 0) (get_or ls r 0)) r s a b) in
        and_join (eq-eqb _ _ p) (eq-eqb _ _ q)

    -- rows whose codes rise: those under the key are the part from the place of its start to the place of its end
    under_part : (rs : List ℕ) → ((r : ℕ) → r ∈ rs → (r < 128) × (get_or ls r 0 < 2 ^ 64)) → rising ltb (map (code_at hs ls) rs) ≡ true
        → rows_under hs ls h l rs
        ≡ take (place ltb (code h l 128) (map (code_at hs ls) rs) - place ltb (code h l 0) (map (code_at hs ls) rs)) (drop (place ltb (code h l 0) (map (code_at hs ls) rs)) rs)
    unfolding place
    under_part [] f o = under_nil
    under_part (r ∷ rs) f o =
        let x = code_at hs ls r in
        let s = (rising_cons ltb x (map (code_at hs ls) rs)).0 o in
        let (small, fits) = f r (here refl) in
        let rest = under_part rs (λ q m. f q (there m)) s.1 in
        by x (code h l 0)
        (λ p. rw (under_past r rs (outside r small (λ a b. omega arith)), lt-ltb x (code h l 0) p, lt-ltb x (code h l 128) (omega arith), suc-sub-suc) rest)
        (λ p.
        let first : place ltb (code h l 0) (map (code_at hs ls) rs) ≡ 0 = place-front by_number (code h l 0) x (map (code_at hs ls) rs) (le-ltb x (code h l 0) p) s.0 in
        by x (code h l 128)
        (λ q. rw (under_here r rs (inside r small fits p q), le-ltb x (code h l 0) p, lt-ltb x (code h l 128) q, sub-zero, rest, first, sub-zero))
        (λ q.
        let last : place ltb (code h l 128) (map (code_at hs ls) rs) ≡ 0 = place-front by_number (code h l 128) x (map (code_at hs ls) rs) (le-ltb x (code h l 128) q) s.0 in
        rw (under_past r rs (outside r small (λ a b. omega arith)), le-ltb x (code h l 0) p, le-ltb x (code h l 128) q, rest, first, last)))

-- in a lent membership, where a and b are those places
module _ (hs ls m : List ℕ) (w : Membership hs ls m) (h l a b : ℕ) (p : a ≡ place ltb (code h l 0) (codes_in hs ls m)) (q : b ≡ place ltb (code h l 128) (codes_in hs ls m)) where
  pub in_order : a ≤ b
  in_order = rw (p, q) (place_mono by_number (code h l 0) (code h l 128) (codes_in hs ls m) (lt-ltb (code h l 0) (code h l 128) (omega arith)))

  pub within_count : b ≤ get_or m 0 0
  within_count = rw q (place-count hs ls m w (code h l 128))

  pub part_of_key : l < 2 ^ 64 → ((r : ℕ) → get_or ls r 0 < 2 ^ 64) → take (b + 1 - (a + 1)) (drop (a + 1) m) ≡ rows_under hs ls h l (rows_in m)
  part_of_key fl fs = cut ∙ sym (under_part hs ls h l fl (rows_in m) below w.order ∙ rw (← p, ← q))
    where
      below : (r : ℕ) → r ∈ rows_in m → (r < 128) × (get_or ls r 0 < 2 ^ 64)
      below r i =
          let (k, j, e) = place_of 0 i in
          let c : k < get_or m 0 0 = omega (arith, length-rows_in m w.count) in
          (omega (arith, w.rows k c, row_at m w.count k c, w.small), fs r)

      cut : take (b + 1 - (a + 1)) (drop (a + 1) m) ≡ take (b - a) (drop a (rows_in m))
      cut =
          let i : b + 1 - (a + 1) ≡ b - a = omega arith in
          let j : a + 1 ≡ 1 + a = omega arith in
          let k : b - a ≤ get_or m 0 0 - a = omega (arith, within_count) in
          rw (i, j, drop-take a (get_or m 0 0) (drop 1 m), drop-drop a 1 m, take-take (b - a) (get_or m 0 0 - a) (drop (1 + a) m) k)

  -- the part is as long as the two places are apart, and the next key starts where it ends
  part_length : a + length (take (b + 1 - (a + 1)) (drop (a + 1) m)) ≡ b
  part_length =
      let i : b + 1 - (a + 1) ≡ b - a = omega arith in
      let room : b - a ≤ length (drop (a + 1) m) = omega (arith, length-drop (a + 1) m, within_count, w.count) in
      let n : length (take (b - a) (drop (a + 1) m)) ≡ b - a = length-take-le (b - a) (drop (a + 1) m) room in
      rw i (omega (arith, n, in_order))

  next_code : code h l 128 ≡ code h (l + 1) 0
  unfolding key
  next_code = omega arith

  pub next_start : a + length (take (b + 1 - (a + 1)) (drop (a + 1) m)) ≡ place ltb (code h (l + 1) 0) (codes_in hs ls m)
  next_start = part_length ∙ q ∙ ap (λ (c : ℕ). place ltb c (codes_in hs ls m)) next_code

  pub next_within : a + length (take (b + 1 - (a + 1)) (drop (a + 1) m)) < length m
  next_within = omega (arith, part_length, within_count, w.count)

-- ---- the end of the members under a key, from a place a that is not behind it

module _ (hs ls m : List ℕ) (w : Membership hs ls m) (c a : ℕ) (h : a ≤ place ltb c (codes_in hs ls m)) where
  as_long : length (codes_in hs ls m) ≡ get_or m 0 0
  as_long = length-codes_in m w.count hs ls

  pub end_last : get_or m 0 0 ≤ a → a ≡ place ltb c (codes_in hs ls m)
  end_last l = omega (arith, place-count hs ls m w c)

  module _ (b : Bool) (e : b ≡ ltb (get_or (codes_in hs ls m) a 0) c) (l : a < get_or m 0 0) where
    pub end_here : not b ≡ true → a ≡ place ltb c (codes_in hs ls m)
    end_here f = omega (arith, place_upto ltb 0 c (codes_in hs ls m) a (rw as_long l) (sym e ∙ not-true b f))

    pub end_later : not b ≡ false → a + 1 ≤ place ltb c (codes_in hs ls m)
    end_later t = omega (arith, place-onward ltb 0 c (codes_in hs ls m) a h (rw as_long l) (sym e ∙ not-false b t))
