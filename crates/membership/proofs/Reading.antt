-- What the cells of a lent membership hold. Assumes nothing.
use Prim.Native.Nat.{ℕ, suc, ◌+◌, ◌-◌, ◌<◌, ◌≤◌}
use mathlib.Core.Path.{◌≡◌, refl, sym, ap, ap₂, ◌∙◌}
use mathlib.Core.Bool.{true}
use mathlib.Core.List.Memᴰ.{head as here}
use mathlib.Core.List.Memᴰ.{tail as there}
use mathlib.Core.List.{List, [], ◌∷◌, ◌++◌, map}
use native.Mathlib.Numerals.{add-one}
use native.Mathlib.Omega.{arith}
use lib.Dec.{ltb}
use lib.ListN.{length, get_or, drop, replicate, length-take, length-drop, length-map, length-append, length-replicate, get_or-append}
use lib.Seq.{get_or-take, get_or-drop, get_or-append-add, take_at}
use Rattle.basics.specs.Sorting.{rising}
use Rattle.basics.proofs.Lists.{◌∈◌, at_place}
use Rattle.basics.proofs.Maps.{get_d_replicate_any, get_d_map_lt}
use Rattle.sorted_cells.specs.Codes.{row_of}
use Rattle.membership.specs.Cells.{code_at, cells, rows_in, codes_in, Membership}

-- ---- a lent slice whose count is below its length

module _ (m : List ℕ) (count : get_or m 0 0 < length m) where
  pub length-rows_in : length (rows_in m) ≡ get_or m 0 0
  length-rows_in = simp (length-take, length-drop) (omega arith)

  pub row_at : (k : ℕ) → k < get_or m 0 0 → get_or (rows_in m) k 0 ≡ get_or m (k + 1) 0
  row_at k l = get_or-take (get_or m 0 0) (drop 1 m) k 0 l ∙ get_or-drop 1 m k 0 ∙ ap (λ (j : ℕ). get_or m j 0) (omega arith)

  module _ (hs ls : List ℕ) where
    pub length-codes_in : length (codes_in hs ls m) ≡ get_or m 0 0
    length-codes_in = length-map (rows_in m) (code_at hs ls) ∙ length-rows_in

    -- the code of the member at k, by its cell
    pub code_at_lem : (k : ℕ) → k < get_or m 0 0 → get_or (codes_in hs ls m) k 0 ≡ code_at hs ls (get_or m (k + 1) 0)
    code_at_lem k l = get_d_map_lt (code_at hs ls) 0 0 (rows_in m) k (omega (arith, length-rows_in)) ∙ ap (code_at hs ls) (row_at k l)

-- ---- the cells of a list of codes, read back

map_back : (g : ℕ → ℕ) (cs : List ℕ) → ((c : ℕ) → c ∈ cs → g (row_of c) ≡ c) → map g (map row_of cs) ≡ cs
map_back g [] f = refl
map_back g (c ∷ cs) f = ap₂ ◌∷◌ (f c (here refl)) (map_back g cs (λ d m. f d (there m)))

module _ (n : ℕ) (cs : List ℕ) where
  pub length-cells : length cs ≤ n → length (cells n cs) ≡ suc n
  unfolding cells
  length-cells h = simp (length-append, length-map, length-replicate) (omega arith)

  pub count_of_cells : get_or (cells n cs) 0 0 ≡ length cs
  unfolding cells
  count_of_cells = refl

  pub rows_of_cells : rows_in (cells n cs) ≡ map row_of cs
  unfolding cells
  rows_of_cells = take_at (map row_of cs) (replicate (n - length cs) 0) (length cs) (length-map cs row_of)

  pub row_of_cells : (k : ℕ) → k < length cs → get_or (cells n cs) (k + 1) 0 ≡ row_of (get_or cs k 0)
  unfolding cells
  row_of_cells k h =
      let l : k < length (map row_of cs) = omega (arith, length-map cs row_of) in
      rw (add-one k, get_or-append (map row_of cs) (replicate (n - length cs) 0) 0 k l) (get_d_map_lt row_of 0 0 cs k h)

  pub rest_of_cells : (k : ℕ) → length cs ≤ k → get_or (cells n cs) (k + 1) 0 ≡ 0
  unfolding cells
  rest_of_cells k h =
      let e : k ≡ length (map row_of cs) + (k - length cs) = omega (arith, length-map cs row_of) in
      rw (add-one k)
      (ap (λ (j : ℕ). get_or (map row_of cs ++ replicate (n - length cs) 0) j 0) e
      ∙ get_or-append-add (map row_of cs) (replicate (n - length cs) 0) (k - length cs) 0
      ∙ get_d_replicate_any (n - length cs) (k - length cs) 0)

  module _ (hs ls : List ℕ) (given : (c : ℕ) → c ∈ cs → code_at hs ls (row_of c) ≡ c) where
    pub codes_of_cells : codes_in hs ls (cells n cs) ≡ cs
    codes_of_cells = ap (map (code_at hs ls)) rows_of_cells ∙ map_back (code_at hs ls) cs given

    -- the cells of codes that the tables give, in order, are a membership
    pub membership_of_lem : length cs ≤ n → length ls ≡ length hs → length hs < 129 → rising ltb cs ≡ true → ((c : ℕ) → c ∈ cs → row_of c < length hs)
        → Membership hs ls (cells n cs)
    membership_of_lem h t s r f = record {
      form = ap (cells n) (sym codes_of_cells) ∙ ap (λ (k : ℕ). cells k (codes_in hs ls (cells n cs))) (omega (arith, length-cells h));
      count = omega (arith, length-cells h, count_of_cells);
      tables = t;
      small = s;
      rows = λ k l.
          let i : k < length cs = omega (arith, count_of_cells) in
          rw (row_of_cells k i) (f (get_or cs k 0) (at_place 0 cs k i));
      order = rw codes_of_cells r;
    }
