-- The cursor case by case: how a walk begins, which cursors fit, and where each leads. Assumes nothing.
use Prim.Native.Nat.{ℕ, ◌+◌, ◌-◌, ◌*◌, min, max, ◌≤◌, ◌<◌}
use mathlib.Core.Path.{◌≡◌, sym, ◌∙◌}
use mathlib.Core.Bool.{Bool, true, false, not, ◌&&◌}
use mathlib.Core.List.{List}
use native.Mathlib.Nat.{add-sub_cancel_left}
use native.Mathlib.Omega.{arith}
use lib.ListN.{length, take, drop, length-take}
use lib.Dec.{ltb, leb}
use borrow.Author.Tests.{lt-ltb, le-ltb, le-leb, lt-leb, leb-true, leb-false, ltb-true, ltb-false, not-true, not-false}
use Rattle.std.specs.Prelude.{Ok, Err}
use Rattle.basics.proofs.Bools.{either, and_left, and_right, and_join}
use Rattle.refusals.specs.declared.Refusal.TheVariants as refusal
use Rattle.window_kinds.specs.declared.CycleWindowCursor.{CycleWindowCursor}
use Rattle.window_kinds.specs.Kinds.{cursor, Kind, Walkable, first_cursor, new_by, has_window, past, advance_by, advance, fits_by, cursor_fits, Fitting, Walking}

-- ---- a new cursor

module _ (least count size : ℕ) where
  pub too_many : 128 < count → Err refusal.Sizes ≡ new_by least count size
  unfolding new_by
  too_many h = rw (lt-leb _ _ h)

  pub begins : count ≤ 128 → (x y : ℕ) → x ≡ min size count → y ≡ max 2 x → Ok (cursor 0 least 0 y) ≡ new_by least count size
  unfolding new_by
  begins h x y e f = rw (le-leb _ _ h, f, e)

pub first_fits : (K : Kind) (count size : ℕ) → Fitting K count (first_cursor K count size)
first_fits K count size = record { starts = omega arith; least = omega arith; fits = omega arith; tried = omega arith; long = omega arith; within = omega arith }

-- ---- which cursors fit

module _ (K : Kind) (count : ℕ) (c : CycleWindowCursor) where
  abbrev length_fits : Bool
  length_fits = leb K.least c.length && leb c.length (max K.least c.longest)

  pub fits_told : cursor_fits K count c ≡ true → Fitting K count c
  unfolding fits_by
  fits_told h =
      let abc = and_left (leb c.start count && length_fits && leb c.variant (K.tries c.length)) _ h in
      let d = and_right (leb c.start count && length_fits && leb c.variant (K.tries c.length)) _ h in
      let ab = and_left (leb c.start count && length_fits) _ abc in
      let b = and_right (leb c.start count) _ ab in
      record {
        starts = leb-true _ _ (and_left (leb c.start count) _ ab);
        least = leb-true _ _ (and_left (leb K.least c.length) _ b);
        fits = leb-true _ _ (and_right (leb K.least c.length) _ b);
        tried = leb-true _ _ (and_right (leb c.start count && length_fits) _ abc);
        long = leb-true _ _ (and_left (leb 2 c.longest) _ d);
        within = leb-true _ _ (and_right (leb 2 c.longest) _ d);
      }

  pub told-fits : Fitting K count c → cursor_fits K count c ≡ true
  unfolding fits_by
  told-fits f =
      and_join
      (and_join (and_join (le-leb _ _ f.starts) (and_join (le-leb _ _ f.least) (le-leb _ _ f.fits))) (le-leb _ _ f.tried))
      (and_join (le-leb _ _ f.long) (le-leb _ _ f.within))

  pub walks : Walkable K → count ≤ 128 → Fitting K count c → Walking K count c
  walks u h f = record {
    few = h;
    starts = f.starts;
    least = f.least;
    short = omega (arith, f.fits, f.within, u.few_least);
    tried = f.tried;
    long = omega (arith, f.within);
  }

-- ---- the cursor's window

module _ (count : ℕ) (c : CycleWindowCursor) where
  pub window_told : has_window count c ≡ true → (c.length ≤ c.longest) × (c.start + c.length ≤ count)
  unfolding has_window
  window_told h = (leb-true _ _ (and_left (leb c.length c.longest) _ h), leb-true _ _ (and_right (leb c.length c.longest) _ h))

  pub window_is : c.length ≤ c.longest → c.start + c.length ≤ count → has_window count c ≡ true
  unfolding has_window
  window_is a b = and_join (le-leb _ _ a) (le-leb _ _ b)

  -- in terms of the longest window at the start
  pub window_longest : has_window count c ≡ true → c.length ≤ min c.longest (count - c.start)
  window_longest h = let w = window_told h in omega arith

  pub no_window_longest : 1 ≤ c.length → has_window count c ≡ false → min c.longest (count - c.start) < c.length
  unfolding has_window
  no_window_longest l h =
      either (leb c.length c.longest)
      (λ t. let b : leb (c.start + c.length) count ≡ false = rw t at h in omega (arith, leb-false (c.start + c.length) count b))
      (λ f. omega (arith, leb-false c.length c.longest f))

-- the part of the order that the code takes for it
pub part-is : (order : List ℕ) (s l : ℕ) → take (s + l - s) (drop s order) ≡ take l (drop s order)
part-is order s l = rw (add-sub_cancel_left s l)

module _ (order : List ℕ) (c : CycleWindowCursor) (b : Bool) (e : b ≡ has_window (length order) c) (t : not b ≡ false) where
  pub part-within : c.start + c.length ≤ length order
  part-within = (window_told (length order) c (sym e ∙ not-false b t)).1

  pub short_window : length order ≤ 128 → length (take (c.start + c.length - c.start) (drop c.start order)) ≤ 128
  short_window few =
      let inside = part-within in
      rw (part-is order c.start c.length) (omega (arith, length-take c.length (drop c.start order)))

-- ---- where a cursor leads

module _ (K : Kind) (count : ℕ) (c : CycleWindowCursor) where
  pub to_start : has_window count c ≡ false → advance K count c ≡ cursor (c.start + 1) K.least 0 c.longest
  unfolding advance_by
  to_start h = rw h

  pub to_variant : has_window count c ≡ true → c.variant < K.tries c.length → advance K count c ≡ past c
  unfolding advance_by
  to_variant h l = rw (h, lt-ltb _ _ l)

  pub to_length : has_window count c ≡ true → K.tries c.length ≤ c.variant → advance K count c ≡ cursor c.start (c.length + 1) 0 c.longest
  unfolding advance_by
  to_length h l = rw (h, le-ltb _ _ l)

-- the same, as the code asks for the window, by numbers
module _ (count least tries : ℕ) (c : CycleWindowCursor) (b : Bool) (e : b ≡ has_window count c) where
  pub code_start : not b ≡ true → cursor (c.start + 1) least 0 c.longest ≡ advance_by count least tries c
  unfolding advance_by
  code_start t = rw (← e, not-true b t)

  pub code_variant : not b ≡ false → c.variant < tries → past c ≡ advance_by count least tries c
  unfolding advance_by
  code_variant t l = rw (← e, not-false b t, lt-ltb _ _ l)

  pub code-length : not b ≡ false → tries ≤ c.variant → cursor c.start (c.length + 1) 0 c.longest ≡ advance_by count least tries c
  unfolding advance_by
  code-length t l = rw (← e, not-false b t, le-ltb _ _ l)

-- a proof by the three ways on
pub by_way : {P : Type 0} (K : Kind) (count : ℕ) (c : CycleWindowCursor)
    → (has_window count c ≡ false → P)
    → (has_window count c ≡ true → c.variant < K.tries c.length → P)
    → (has_window count c ≡ true → K.tries c.length ≤ c.variant → P)
    → P
by_way K count c f g k = either (has_window count c) (λ t. either (ltb c.variant (K.tries c.length)) (λ l. g t (ltb-true _ _ l)) (λ l. k t (ltb-false _ _ l))) f

-- ---- a cursor on its way comes nearer to the end, and stays one

abbrev pub left : ℕ → CycleWindowCursor → ℕ
left count c = (count - c.start) * 20000 + (130 - c.length) * 150 + (149 - c.variant)

module _ (K : Kind) (u : Walkable K) (count : ℕ) (c : CycleWindowCursor) (w : Walking K count c) (l : c.start < count) where
  pub nearer : left count (advance K count c) < left count c
  nearer =
      by_way K count c
      (λ h. rw (to_start K count c h) (omega (arith, w.tried, u.few_tries c.length w.short)))
      (λ h v. rw (to_variant K count c h v) (omega (arith, w.tried, u.few_tries c.length w.short)))
      (λ h v. let b = window_told count c h in rw (to_length K count c h v) (omega (arith, w.tried, w.long, u.few_tries c.length w.short)))

  pub walks_on : Walking K count (advance K count c)
  walks_on =
      by_way K count c
      (λ h. rw (to_start K count c h) (record { few = w.few; starts = omega arith; least = omega arith; short = omega (arith, u.few_least); tried = omega arith; long = w.long }))
      (λ h v. rw (to_variant K count c h v) (record { few = w.few; starts = w.starts; least = w.least; short = w.short; tried = omega arith; long = w.long }))
      (λ h v. let b = window_told count c h in
      rw (to_length K count c h v) (record { few = w.few; starts = w.starts; least = omega (arith, w.least); short = omega (arith, w.long); tried = omega arith; long = w.long }))

  -- the same of the cursor that the code has
  module _ (d : CycleWindowCursor) (e : d ≡ advance K count c) where
    pub nearer_to : left count d < left count c
    nearer_to = rw e nearer

    pub walks_on_to : Walking K count d
    walks_on_to = rw e walks_on
