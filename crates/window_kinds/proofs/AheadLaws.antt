-- What is still to come at a cursor, as the cursor goes on. Assumes nothing.
use Prim.Native.Nat.{ℕ, suc, ◌+◌, ◌-◌, min, ◌≤◌, ◌<◌}
use mathlib.Core.Path.{◌≡◌, sym, ap, ◌∙◌}
use mathlib.Core.Bool.{true, false}
use mathlib.Core.List.{List, [], ◌∷◌, ◌++◌, append_assoc}
use native.Mathlib.Numerals.{add-one}
use native.Mathlib.Omega.{arith}
use Rattle.window_kinds.specs.declared.CycleWindowCursor.{CycleWindowCursor}
use Rattle.window_kinds.specs.Kinds.{cursor, Kind, Walkable, joined_from, tries_from, lengths_from, starts_from, has_window, ahead, past}
use Rattle.basics.proofs.Bools.{either, by}
use Rattle.window_kinds.proofs.CursorLaws.{window_longest, no_window_longest}

module _ {A : Type 0} (f : ℕ → List A) (i : ℕ) where
  pub joined_none : (k : ℕ) → k ≡ 0 → joined_from f i k ≡ []
  unfolding joined_from
  joined_none k e = rw e

  pub joined_next : (k m : ℕ) → k ≡ suc m → joined_from f i k ≡ f i ++ joined_from f (suc i) m
  unfolding joined_from
  joined_next k m e = rw e

-- ---- tries, lengths, starts: the first of them and the rest, or none

module _ (K : Kind) (g s l v : ℕ) where
  pub tries_here : v < K.tries l → tries_from K g s l v ≡ cursor s l v g ∷ tries_from K g s l (suc v)
  unfolding tries_from
  tries_here h = joined_next _ v (K.tries l - v) (K.tries l - suc v) (omega arith)

  pub tries_none : K.tries l ≤ v → tries_from K g s l v ≡ []
  unfolding tries_from
  tries_none h = joined_none _ v (K.tries l - v) (omega arith)

module _ (K : Kind) (n g s l : ℕ) where
  pub lengths_here : l ≤ min g (n - s) → lengths_from K n g s l ≡ tries_from K g s l 0 ++ lengths_from K n g s (suc l)
  unfolding lengths_from
  lengths_here h = joined_next _ l (suc (min g (n - s)) - l) (suc (min g (n - s)) - suc l) (omega arith)

  pub lengths_none : min g (n - s) < l → lengths_from K n g s l ≡ []
  unfolding lengths_from
  lengths_none h = joined_none _ l (suc (min g (n - s)) - l) (omega arith)

module _ (K : Kind) (n g s : ℕ) where
  pub starts-here : s < n → starts_from K n g s ≡ lengths_from K n g s K.least ++ starts_from K n g (suc s)
  unfolding starts_from
  starts-here h = joined_next _ s (n - s) (n - suc s) (omega arith)

  pub starts_none : n ≤ s → starts_from K n g s ≡ []
  unfolding starts_from
  starts_none h = joined_none _ s (n - s) (omega arith)

-- ---- what is ahead

module _ (K : Kind) (n : ℕ) (c : CycleWindowCursor) where
  ahead_window : has_window n c ≡ true
      → ahead K n c ≡ tries_from K c.longest c.start c.length c.variant ++ (lengths_from K n c.longest c.start (suc c.length) ++ starts_from K n c.longest (suc c.start))
  unfolding ahead
  ahead_window h = rw h

  ahead_no_window : 1 ≤ c.length → has_window n c ≡ false → ahead K n c ≡ starts_from K n c.longest (suc c.start)
  unfolding ahead
  ahead_no_window l h =
      let longest = no_window_longest n c l h in
      rw (h, lengths_none K n c.longest c.start (suc c.length) (omega arith))

-- at the first try of a length: the lengths from there on
ahead_lengths : (K : Kind) (n s l g : ℕ) → 1 ≤ l → ahead K n (cursor s l 0 g) ≡ lengths_from K n g s l ++ starts_from K n g (suc s)
ahead_lengths K n s l g a =
    either (has_window n (cursor s l 0 g))
    (λ t.
    ahead_window K n (cursor s l 0 g) t
    ∙ sym (append_assoc (tries_from K g s l 0) (lengths_from K n g s (suc l)) (starts_from K n g (suc s)))
    ∙ ap (λ (xs : List CycleWindowCursor). xs ++ starts_from K n g (suc s)) (sym (lengths_here K n g s l (window_longest n (cursor s l 0 g) t))))
    (λ f. ahead_no_window K n (cursor s l 0 g) a f ∙ ap (λ (xs : List CycleWindowCursor). xs ++ starts_from K n g (suc s)) (sym (lengths_none K n g s l (no_window_longest n (cursor s l 0 g) a f))))

-- at the first length of a start: the starts from there on
pub ahead-starts : (K : Kind) → Walkable K → (n s g : ℕ) → ahead K n (cursor s K.least 0 g) ≡ starts_from K n g s
ahead-starts K u n s g =
    ahead_lengths K n s K.least g u.some_row
    ∙ by s n
    (λ l. sym (starts-here K n g s l))
    (λ l. rw (lengths_none K n g s K.least (omega (arith, u.some_row)), starts_none K n g s l) (starts_none K n g (suc s) (omega arith)))

module _ (K : Kind) (n : ℕ) (c : CycleWindowCursor) where
  same_window : has_window n c ≡ true → has_window n (past c) ≡ true
  unfolding has_window
  same_window h = h

  pub ahead_try : has_window n c ≡ true → c.variant < K.tries c.length → ahead K n c ≡ c ∷ ahead K n (past c)
  ahead_try h v =
      ahead_window K n c h
      ∙ ap (λ (xs : List CycleWindowCursor). xs ++ (lengths_from K n c.longest c.start (suc c.length) ++ starts_from K n c.longest (suc c.start))) (tries_here K c.longest c.start c.length c.variant v)
      ∙ ap (λ (xs : List CycleWindowCursor). c ∷ xs) (sym (ahead_window K n (past c) (same_window h) ∙ rw (add-one c.variant)))

  pub ahead-length : has_window n c ≡ true → K.tries c.length ≤ c.variant → ahead K n c ≡ ahead K n (cursor c.start (c.length + 1) 0 c.longest)
  ahead-length h v =
      ahead_window K n c h
      ∙ rw (tries_none K c.longest c.start c.length c.variant v, add-one c.length) (sym (ahead_lengths K n c.start (suc c.length) c.longest (omega arith)))

  pub ahead_start : Walkable K → 1 ≤ c.length → has_window n c ≡ false → ahead K n c ≡ ahead K n (cursor (c.start + 1) K.least 0 c.longest)
  ahead_start u l h = ahead_no_window K n c l h ∙ rw (add-one c.start) (sym (ahead-starts K u n (suc c.start) c.longest))

  pub ahead_end : 1 ≤ c.length → n ≤ c.start → ahead K n c ≡ []
  ahead_end l e =
      either (has_window n c)
      (λ t. absurd (omega (arith, window_longest n c t)))
      (λ f. ahead_no_window K n c l f ∙ starts_none K n c.longest (suc c.start) (omega arith))
