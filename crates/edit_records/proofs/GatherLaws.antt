-- What is gathered of 129 records or fewer is the list of their rows and the list of their values; of more it is 129 records. Assumes nothing.
use mathlib.Core.Path.{◌≡◌, refl, sym, ◌∙◌, ap}
use mathlib.Core.Bool.{Bool, false, cond, ◌&&◌}
use mathlib.Core.List.{List, [], ◌∷◌, ◌++◌, append_assoc, append-nil}
use Prim.Native.Nat.{ℕ, ◌+◌, ◌≤◌, ◌<◌}
use native.Mathlib.Nat.{add-zero}
use native.Mathlib.Numerals.{add-one}
use native.Mathlib.Omega.{arith}
use lib.ListN.{length, set, take, drop, length-set, length-take, length-replicate, drop_of_length-le}
use lib.Seq.{take-suc-set}
use lib.Dec.{ltb}
use borrow.Author.Tests.{ltb-true, ltb-false, lt-ltb, le-ltb}
use Rattle.basics.proofs.Bools.{either}
use Rattle.basics.proofs.Maps.{take-written}
use Rattle.edit_records.specs.declared.Edit.{Edit}
use Rattle.edit_records.specs.declared.Gathered.{Gathered}
use Rattle.edit_records.specs.Records.{rows_in, values_in, none_gathered, placed, one_more, all_more, gathered}

-- ---- one record more

pub more-placed : (g : Gathered) (e : Edit) → g.count < 129 → placed g e ≡ one_more g e
unfolding one_more
more-placed g e l = sym (ap (λ (b : Bool). cond b (placed g e) g) (lt-ltb g.count 129 l))

pub more_full : (g : Gathered) (e : Edit) → 129 ≤ g.count → g ≡ one_more g e
unfolding one_more
more_full g e l = sym (ap (λ (b : Bool). cond b (placed g e) g) (le-ltb g.count 129 l))

-- lists of 129 cells, of which no more are used
pub record Sized (g : Gathered) : Type 0 where
  pub rows_long : length g.rows ≡ 129
  pub values_long : length g.values ≡ 129
  pub within : g.count ≤ 129

none_sized : Sized none_gathered
unfolding none_gathered
none_sized = record {
  rows_long = length-replicate {A = ℕ} 129 0;
  values_long = length-replicate {A = ℕ} 129 0;
  within = omega arith;
}

placed-sized : (g : Gathered) (e : Edit) → Sized g → g.count < 129 → Sized (placed g e)
placed-sized g e z l = record {
  rows_long = length-set g.rows g.count e.row ∙ z.rows_long;
  values_long = length-set g.values g.count e.value ∙ z.values_long;
  within = omega arith;
}

-- by whether there is room
more_by : (P : Gathered → Type 0) (g : Gathered) (e : Edit) → (g.count < 129 → P (placed g e)) → (129 ≤ g.count → P g) → P (one_more g e)
more_by P g e room full =
    either (ltb g.count 129)
    (λ t. rw (← more-placed g e (ltb-true g.count 129 t)) (room (ltb-true g.count 129 t)))
    (λ f. rw (← more_full g e (ltb-false g.count 129 f)) (full (ltb-false g.count 129 f)))

all-sized : (es : List Edit) (g : Gathered) → Sized g → Sized (all_more g es)
all-sized [] g z = z
all-sized (e ∷ es) g z = all-sized es (one_more g e) (more_by Sized g e (placed-sized g e z) (λ l. z))

pub gathered-sized : (es : List Edit) → Sized (gathered es)
unfolding gathered
gathered-sized es = all-sized es none_gathered none_sized

pub few_gathered : (es : List Edit) (g : Gathered) → g ≡ gathered es → g.count ≤ 129
few_gathered es g e = rw e (gathered-sized es).within

-- ---- 129 records or fewer

record Follows (es : List Edit) (g h : Gathered) : Type 0 where
  pub counts : h.count ≡ g.count + length es
  pub rows_are : take h.count h.rows ≡ take g.count g.rows ++ rows_in es
  pub values_are : take h.count h.values ≡ take g.count g.values ++ values_in es

all_follow : (es : List Edit) (g : Gathered) → Sized g → g.count + length es ≤ 129 → Follows es g (all_more g es)
all_follow [] g z l = record { counts = sym (add-zero g.count); rows_are = sym (append-nil _); values_are = sym (append-nil _) }
all_follow (e ∷ es) g z l =
    let less : g.count < 129 = omega arith in
    let f = all_follow es (placed g e) (placed-sized g e z less) (omega arith) in
    rw (← more-placed g e less) (record {
      counts = f.counts ∙ omega arith;
      rows_are = f.rows_are ∙ (ap (λ (xs : List ℕ). xs ++ rows_in es) (take-written g.rows g.count e.row (omega (arith, z.rows_long))) ∙ append_assoc (take g.count g.rows) (e.row ∷ []) (rows_in es));
      values_are = f.values_are ∙ (ap (λ (xs : List ℕ). xs ++ values_in es) (take-written g.values g.count e.value (omega (arith, z.values_long))) ∙ append_assoc (take g.count g.values) (e.value ∷ []) (values_in es));
    })

module _ (es : List Edit) (l : length es ≤ 129) where
  all_there : Follows es none_gathered (gathered es)
  unfolding gathered none_gathered
  all_there = all_follow es none_gathered none_sized (omega arith)

  pub rows_gathered : take (gathered es).count (gathered es).rows ≡ rows_in es
  unfolding none_gathered
  rows_gathered = all_there.rows_are

  pub values-gathered : take (gathered es).count (gathered es).values ≡ values_in es
  unfolding none_gathered
  values-gathered = all_there.values_are

-- ---- more

all_full : (es : List Edit) (g : Gathered) → g.count ≤ 129 → 129 ≤ g.count + length es → (all_more g es).count ≡ 129
all_full [] g a l = omega arith
all_full (e ∷ es) g a l =
    more_by (λ (h : Gathered). (all_more h es).count ≡ 129) g e
    (λ r. all_full es (placed g e) (omega arith) (omega arith))
    (λ r. all_full es g a (omega arith))

module _ (es : List Edit) (l : 129 ≤ length es) where
  pub full : (gathered es).count ≡ 129
  unfolding gathered none_gathered
  full = all_full es none_gathered (omega arith) (omega arith)

  pub rows_full : length (take (gathered es).count (gathered es).rows) ≡ 129
  rows_full = omega (arith, length-take (gathered es).count (gathered es).rows, full, (gathered-sized es).rows_long)

  pub values_full : length (take (gathered es).count (gathered es).values) ≡ 129
  values_full = omega (arith, length-take (gathered es).count (gathered es).values, full, (gathered-sized es).values_long)

-- ---- a loop over the records stops at their end, or at 129

pub more_counts : (g : Gathered) (e : Edit) → g.count < 129 → (one_more g e).count ≡ g.count + 1
more_counts g e l = sym (ap (λ (h : Gathered). h.count) (more-placed g e l))

all_stay : (es : List Edit) (g : Gathered) → 129 ≤ g.count → all_more g es ≡ g
all_stay [] g l = refl
all_stay (e ∷ es) g l = ap (λ (h : Gathered). all_more h es) (sym (more_full g e l)) ∙ all_stay es g l

pub all-gathered : (es : List Edit) (i : ℕ) (g : Gathered) → g.count ≡ i → all_more g (drop i es) ≡ gathered es → ltb i (length es) && ltb i 129 ≡ false → g ≡ gathered es
all-gathered es i g c e f =
    either (ltb i (length es))
    (λ t.
    let over : ltb i 129 ≡ false = rw t at f in
    sym (all_stay (drop i es) g (omega (arith, ltb-false i 129 over))) ∙ e)
    (λ n. ap (all_more g) (sym (drop_of_length-le es (ltb-false i (length es) n))) ∙ e)

-- ---- the first cells of a list of 129

pub room_for : (n : ℕ) (xs : List ℕ) → n ≤ 129 → length xs ≡ 129 → n ≤ length xs
room_for n xs l e = omega arith

pub as_many : (n : ℕ) (xs : List ℕ) → n ≤ 129 → length xs ≡ 129 → n ≡ length (take n xs)
as_many n xs l e = omega (arith, length-take n xs)
