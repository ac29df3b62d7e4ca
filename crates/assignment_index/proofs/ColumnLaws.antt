-- The laws of columns: what a store, and a part that was lent and came back, leave of each. Assumes nothing.
use mathlib.Core.Path.{◌≡◌, sym, ap, ap₂, ◌∙◌}
use mathlib.Core.Bool.{false}
use mathlib.Core.List.{List, ◌++◌}
use Prim.Native.Nat.{ℕ, zero, suc, ◌+◌, ◌-◌, ◌*◌, ◌<◌, ◌≤◌}
use native.Mathlib.Omega.{arith}
use native.Mathlib.Nat.{mul-le-mul, mul-le-mul_right, suc-mul, add-sub_cancel_left, sub-zero, zero-mul, add_comm}
use native.Mathlib.Decide.{dec_lt}
use lib.ListN.{length, get_or, take, drop, set, take-append-drop, length-drop, length-append, get_or-append}
use lib.Seq.{length-take-le, take_all, take_at, drop_at, drop-drop, drop-set-add, take-set-lt, take-set-le, drop-set-lt, get_or-take, get_or-drop, get_or-append-add, ext_get_or}
use borrow.Rule.Slice.PartMut.{put_mid}
use lib.Dec.{eqb}
use borrow.Author.Tests.{eqb-false}
use Rattle.basics.proofs.Lists.{nothing}
use Rattle.assignment_index.specs.Columns.{column, Placed}

pub few : (m n : ℕ) → m ≤ 5 → n ≤ 129 → m * n ≤ 645
few m n p q = mul-le-mul {n₁ = m} {m₁ = n} {n₂ = 5} {m₂ = 129} p q

-- the j-th of m columns of n cells ends within them
pub column-within : (n j m : ℕ) → j < m → j * n + n ≤ m * n
column-within n j m h = omega (arith, mul-le-mul_right {m = suc j} {n = m} n h, suc-mul j n)

pub column-length : (n j : ℕ) (l : List ℕ) → j * n + n ≤ length l → length (column n j l) ≡ n
unfolding column
column-length n j l h = length-take-le n (drop (j * n) l) (omega (arith, length-drop (j * n) l))

pub get_d_column : (n j : ℕ) (l : List ℕ) (i : ℕ) → i < n → get_or (column n j l) i 0 ≡ get_or l (j * n + i) 0
unfolding column
get_d_column n j l i h = get_or-take n (drop (j * n) l) i 0 h ∙ get_or-drop (j * n) l i 0

pub column-set : (n j : ℕ) (l : List ℕ) (i x : ℕ) → i < n → column n j (set l (j * n + i) x) ≡ set (column n j l) i x
unfolding column
column-set n j l i x h = rw (drop-set-add (j * n) l i x) (take-set-lt n (drop (j * n) l) i x h)

by_order : {A : Type 0} (j k : ℕ) → eqb j k ≡ false → (j < k → A) → (k < j → A) → A
by_order {A} j k e f g = go (dec_lt j k)
  where
    go : Dec (j < k) → A
    go (yes p) = f p
    go (no p) = g (omega (arith, eqb-false j k e))

pub column-set-other : (n j k : ℕ) (l : List ℕ) (i x : ℕ) → eqb j k ≡ false → i < n → column n j (set l (k * n + i) x) ≡ column n j l
unfolding column
column-set-other n j k l i x e h =
    by_order j k e
    (λ p. let w = column-within n j k p in
    let q : k * n + i ≡ j * n + (k * n + i - j * n) = omega arith in
    rw (q, drop-set-add (j * n) l (k * n + i - j * n) x) (take-set-le n (drop (j * n) l) (k * n + i - j * n) x (omega arith)))
    (λ p. let w = column-within n k j p in ap (take n) (drop-set-lt (j * n) l (k * n + i) x (omega arith)))

-- a part that was lent and came back as ys
abbrev pub back : ℕ → ℕ → List ℕ → List ℕ → List ℕ
back a n ys l = take a l ++ (ys ++ drop n (drop a l))

module _ (n a : ℕ) (l ys : List ℕ) (w : a + n ≤ length l) (e : length ys ≡ n) where
  front : length (take a l) ≡ a
  front = length-take-le a l (omega arith)

  pub length_back : length (back a n ys l) ≡ length l
  length_back = simp (length-append, length-drop) (omega (arith, front))

  back_at : (i : ℕ) → i < a → get_or (back a n ys l) i 0 ≡ get_or l i 0
  back_at i h = get_or-append (take a l) (ys ++ drop n (drop a l)) 0 i (omega (arith, front)) ∙ get_or-take a l i 0 h

  back-past : (i : ℕ) → a + n ≤ i → get_or (back a n ys l) i 0 ≡ get_or l i 0
  back-past i h =
      let p : i ≡ length (take a l) + (length ys + (i - (a + n))) = omega (arith, front) in
      let q : a + (n + (i - (a + n))) ≡ i = omega arith in
      ap (λ (k : ℕ). get_or (back a n ys l) k 0) p
      ∙ get_or-append-add (take a l) (ys ++ drop n (drop a l)) (length ys + (i - (a + n))) 0
      ∙ get_or-append-add ys (drop n (drop a l)) (i - (a + n)) 0
      ∙ get_or-drop n (drop a l) (i - (a + n)) 0
      ∙ get_or-drop a l (n + (i - (a + n))) 0
      ∙ ap (λ (k : ℕ). get_or l k 0) q

pub placed : (n j : ℕ) (l ys : List ℕ) → j * n + n ≤ length l → 3 * n ≤ length l → length ys ≡ n → Placed n j l (back (j * n) n ys l) ys
unfolding column
placed n j l ys w m e = record {
  long = length_back n (j * n) l ys w e;
  here = rw (drop_at (take (j * n) l) (ys ++ drop n (drop (j * n) l)) (j * n) (length-take-le (j * n) l (omega arith))) (take_at ys (drop n (drop (j * n) l)) n e);
  rest = λ k f h.
      let u = column-within n k 3 h in
      let t = length_back n (j * n) l ys w e in
      let p = column-length n k (back (j * n) n ys l) (omega arith) in
      ext_get_or 0 (column n k (back (j * n) n ys l)) (column n k l) (p ∙ sym (column-length n k l (omega arith)))
      (λ i r. get_d_column n k (back (j * n) n ys l) i (omega arith)
      ∙ by_order k j f
      (λ o. let v = column-within n k j o in back_at n (j * n) l ys w e (k * n + i) (omega arith))
      (λ o. let v = column-within n j k o in back-past n (j * n) l ys w e (k * n + i) (omega arith))
      ∙ sym (get_d_column n k l i (omega arith)));
}

-- a part as the borrow checker has it, from the start of a column
pub part-column : (n j a : ℕ) (l : List ℕ) → a ≡ j * n → take (a + n - a) (drop a l) ≡ column n j l
unfolding column
part-column n j a l e = rw (add-sub_cancel_left a n, e)

-- a column that was lent to a call came back as ys, which are zs
pub settled : (n j a : ℕ) (l ys zs : List ℕ) → a ≡ j * n → a + n ≤ 3 * n → length l ≡ 3 * n → length ys ≡ length (take (a + n - a) (drop a l)) → ys ≡ zs
    → Placed n j l (put_mid a (a + n - a) l ys) zs
settled n j a l ys zs e w m k f =
    let p = part-column n j a l e in
    let q : j * n + n ≤ length l = omega arith in
    rw (add-sub_cancel_left a n, e, ← f) (placed n j l ys q (omega arith) (k ∙ ap length p ∙ column-length n j l q))

pub part-first : (n : ℕ) (l : List ℕ) → take (n - 0) (drop 0 l) ≡ column n 0 l
unfolding column
part-first n l = rw (sub-zero n, zero-mul n)

-- the columns behind the first are those of what is behind it
pub column_next : (n j : ℕ) (l : List ℕ) → column n (suc j) l ≡ column n j (drop n l)
unfolding column
column_next n j l = rw (suc-mul j n, drop-drop (j * n) n l, add_comm n (j * n))

column-first : (n : ℕ) (l : List ℕ) → column n 0 l ≡ take n l
unfolding column
column-first n l = rw (zero-mul n)

-- the columns of a list say what it is
pub columns_tell : (m n : ℕ) (l l' : List ℕ) → length l ≡ m * n → length l' ≡ m * n → ((j : ℕ) → j < m → column n j l ≡ column n j l') → l ≡ l'
columns_tell zero n l l' p q f = nothing l (p ∙ zero-mul n) ∙ sym (nothing l' (q ∙ zero-mul n))
columns_tell (suc m) n l l' p q f =
    sym (take-append-drop n l)
    ∙ ap₂ ◌++◌ (sym (column-first n l) ∙ f 0 (omega arith) ∙ column-first n l')
    (columns_tell m n (drop n l) (drop n l') (rest l p) (rest l' q) (λ j h. sym (column_next n j l) ∙ f (suc j) (omega arith) ∙ column_next n j l'))
    ∙ take-append-drop n l'
  where
    rest : (l : List ℕ) → length l ≡ suc m * n → length (drop n l) ≡ m * n
    rest l e = omega (arith, length-drop n l, suc-mul m n)

-- columns of a list that is put together of them
pub column-here : (n : ℕ) (a l : List ℕ) → length a ≡ n → column n 0 (a ++ l) ≡ a
column-here n a l e = column-first n (a ++ l) ∙ take_at a l n e

pub column-past : (n j : ℕ) (a l : List ℕ) → length a ≡ n → column n (suc j) (a ++ l) ≡ column n j l
column-past n j a l e = column_next n j (a ++ l) ∙ ap (column n j) (drop_at a l n e)

pub column_last : (n : ℕ) (a : List ℕ) → length a ≡ n → column n 0 a ≡ a
column_last n a e = column-first n a ∙ take_all n a (omega arith)

-- a cell of a column as the code reads it, from the start of the column
pub cell_read : (n j a : ℕ) (l : List ℕ) (i : ℕ) → a ≡ j * n → i < n → get_or l (a + i) 0 ≡ get_or (column n j l) i 0
cell_read n j a l i e h = rw e (sym (get_d_column n j l i h))
