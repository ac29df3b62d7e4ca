-- A walk from any cursor on its way: what it gives, that it ends, and that its cursors fit. Assumes nothing.
use Prim.Native.Nat.{ℕ, zero, suc, max, ◌≤◌, ◌<◌}
use mathlib.Core.Path.{◌≡◌, refl, sym, ap, ◌∙◌}
use mathlib.Core.List.{List, [], ◌∷◌}
use Rattle.std.specs.Prelude.{Option, None, Some}
use Rattle.std.proofs.lemmas.Option.{none-some}
use native.Mathlib.Omega.{arith}
use lib.ListN.{length}
use Rattle.basics.specs.Edits.{Edit}
use Rattle.basics.proofs.Bools.{by}
use Rattle.window_kinds.specs.declared.CycleWindowCursor.{CycleWindowCursor}
use Rattle.window_kinds.specs.Kinds.{Kind, Walkable, ahead, past, Stepped, stepped, step_by, move_here, advance, Fitting, Walking, walk, cursor_after, and_move, moves_of}
use Rattle.window_kinds.proofs.CursorLaws.{left, nearer, walks, walks_on, window_told, to_start, to_variant, to_length, by_way}
use Rattle.window_kinds.proofs.AheadLaws.{ahead_try, ahead-length, ahead_start, ahead_end}
use Rattle.window_kinds.proofs.StepLaws.{here-told, here-is, step_end, step-here, step_on}

-- ---- steps alike give walks alike

module _ (step : CycleWindowCursor → Stepped) where
  walk_none : (k : ℕ) (c : CycleWindowCursor) → (step c).move ≡ None → walk step k c ≡ []
  unfolding walk
  walk_none zero c e = refl
  walk_none (suc k) c e = rw e

  walk_same : (k : ℕ) (c d : CycleWindowCursor) → step c ≡ step d → walk step k c ≡ walk step k d
  unfolding walk
  walk_same zero c d e = refl
  walk_same (suc k) c d e = rw e

  walk_move : (k : ℕ) (c d : CycleWindowCursor) (L : List Edit) → step c ≡ stepped d (Some L) → walk step (suc k) c ≡ L ∷ walk step k d
  unfolding walk
  walk_move k c d L e = rw e

  after_none : (k : ℕ) (c : CycleWindowCursor) → step c ≡ stepped c None → cursor_after step k c ≡ c
  unfolding cursor_after
  after_none zero c e = refl
  after_none (suc k) c e = rw e (after_none k c e)

  after_same : (k : ℕ) (c d : CycleWindowCursor) → step c ≡ step d → step (cursor_after step k c) ≡ step (cursor_after step k d)
  unfolding cursor_after
  after_same zero c d e = e
  after_same (suc k) c d e = rw e

  after_move : (k : ℕ) (c d : CycleWindowCursor) (L : List Edit) → step c ≡ stepped d (Some L) → cursor_after step (suc k) c ≡ cursor_after step k d
  unfolding cursor_after
  after_move k c d L e = rw e

-- ---- one try at a time

module _ (K : Kind) (u : Walkable K) (move : CycleWindowCursor → Option (List Edit)) (n : ℕ) where
  abbrev step : CycleWindowCursor → Stepped
  step = step_by K move n

  -- a proof for every cursor on its way: at the end, past no move, past a move
  along : (P : CycleWindowCursor → Type 0)
      → ((c : CycleWindowCursor) → Walking K n c → n ≤ c.start → P c)
      → ((c : CycleWindowCursor) → Walking K n c → c.start < n → move_here K move n c ≡ None → P (advance K n c) → P c)
      → ((c : CycleWindowCursor) → Walking K n c → c.start < n → (L : List Edit) → move_here K move n c ≡ Some L → P (advance K n c) → P c)
      → (c : CycleWindowCursor) → Walking K n c → P c
  along P atEnd past_none past_move c w = go (suc (left n c)) c w (omega arith)
    where
      turn : (c : CycleWindowCursor) → Walking K n c → c.start < n → P (advance K n c) → (o : Option (List Edit)) → move_here K move n c ≡ o → P c
      turn c w s p None e = past_none c w s e p
      turn c w s p (Some L) e = past_move c w s L e p

      go : (m : ℕ) (c : CycleWindowCursor) → Walking K n c → left n c < m → P c
      go zero c w l = absurd (omega arith)
      go (suc m) c w l =
          by c.start n
          (λ s. turn c w s (go m (advance K n c) (walks_on K u n c w s) (omega (arith, nearer K u n c w s))) (move_here K move n c) refl)
          (λ s. atEnd c w s)

  moves_none : moves_of move [] ≡ []
  unfolding moves_of
  moves_none = refl

  moves_next : (c : CycleWindowCursor) (cs : List CycleWindowCursor) → moves_of move (c ∷ cs) ≡ and_move (move c) (moves_of move cs)
  unfolding moves_of
  moves_next c cs = refl

  module _ (c : CycleWindowCursor) (w : Walking K n c) (s : c.start < n) where
    -- what is ahead past a move
    ahead_move : (L : List Edit) → move_here K move n c ≡ Some L → (ahead K n c ≡ c ∷ ahead K n (advance K n c)) × (move c ≡ Some L)
    ahead_move L m =
        let t = here-told K u move n c L m in
        (rw (to_variant K n c t.0 t.1) (ahead_try K n c t.0 t.1), t.2)

    -- and past none
    ahead_none : move_here K move n c ≡ None → (moves_of move (ahead K n c) ≡ moves_of move (ahead K n (advance K n c))) × (length (ahead K n (advance K n c)) ≤ length (ahead K n c))
    ahead_none m =
        by_way K n c
        (λ f. rw (to_start K n c f, ← ahead_start K n c u (omega (arith, w.least, u.some_row)) f) (refl, omega arith))
        (λ t v. rw (to_variant K n c t v, ahead_try K n c t v, moves_next c (ahead K n (past c)), ← here-is K u move n c t v, m) (refl, omega arith))
        (λ t v. rw (to_length K n c t v, ← ahead-length K n c t v) (refl, omega arith))

  -- as many steps as there are positions ahead give every move
  pub walk_gives : (c : CycleWindowCursor) → Walking K n c → (k : ℕ) → length (ahead K n c) ≤ k → walk step k c ≡ moves_of move (ahead K n c)
  walk_gives =
      along (λ (c : CycleWindowCursor). (k : ℕ) → length (ahead K n c) ≤ k → walk step k c ≡ moves_of move (ahead K n c))
      (λ c w s k l. rw (ahead_end K n c (omega (arith, w.least, u.some_row)) s, moves_none) (walk_none step k c (ap (λ (x : Stepped). x.move) (step_end K u move n c (omega (arith, w.least, u.some_row)) s))))
      (λ c w s m p k l. let a = ahead_none c w s m in
      walk_same step k c (advance K n c) (step_on K u move n c (omega (arith, w.least, u.some_row)) s m) ∙ p k (omega (arith, a.1)) ∙ sym a.0)
      (λ c w s L m p k l. past_move c w s L m p k (rw (ahead_move c w s L m).0 at l))
    where
      past_move : (c : CycleWindowCursor) → Walking K n c → c.start < n → (L : List Edit) → move_here K move n c ≡ Some L
          → ((k : ℕ) → length (ahead K n (advance K n c)) ≤ k → walk step k (advance K n c) ≡ moves_of move (ahead K n (advance K n c)))
          → (k : ℕ) → suc (length (ahead K n (advance K n c))) ≤ k → walk step k c ≡ moves_of move (ahead K n c)
      past_move c w s L m p zero l = absurd (omega arith)
      past_move c w s L m p (suc k) l =
          let a = ahead_move c w s L m in
          walk_move step k c (advance K n c) L (step-here K u move n c (omega (arith, w.least, u.some_row)) s L m)
          ∙ rw (a.0, moves_next c (ahead K n (advance K n c)), a.1) (ap (λ (Ls : List (List Edit)). L ∷ Ls) (p k (omega arith)))

  -- and then the walk is done
  pub walk_ends : (c : CycleWindowCursor) → Walking K n c → (k : ℕ) → length (ahead K n c) ≤ k → (step (cursor_after step k c)).move ≡ None
  walk_ends =
      along (λ (c : CycleWindowCursor). (k : ℕ) → length (ahead K n c) ≤ k → (step (cursor_after step k c)).move ≡ None)
      (λ c w s k l. let e = step_end K u move n c (omega (arith, w.least, u.some_row)) s in
      rw (after_none step k c e) (ap (λ (x : Stepped). x.move) e))
      (λ c w s m p k l. let a = ahead_none c w s m in
      ap (λ (x : Stepped). x.move) (after_same step k c (advance K n c) (step_on K u move n c (omega (arith, w.least, u.some_row)) s m)) ∙ p k (omega (arith, a.1)))
      (λ c w s L m p k l. past_move c w s L m p k (rw (ahead_move c w s L m).0 at l))
    where
      past_move : (c : CycleWindowCursor) → Walking K n c → c.start < n → (L : List Edit) → move_here K move n c ≡ Some L
          → ((k : ℕ) → length (ahead K n (advance K n c)) ≤ k → (step (cursor_after step k (advance K n c))).move ≡ None)
          → (k : ℕ) → suc (length (ahead K n (advance K n c))) ≤ k → (step (cursor_after step k c)).move ≡ None
      past_move c w s L m p zero l = absurd (omega arith)
      past_move c w s L m p (suc k) l =
          rw (after_move step k c (advance K n c) L (step-here K u move n c (omega (arith, w.least, u.some_row)) s L m)) (p k (omega arith))

  -- the cursor behind a step fits
  reach : (c : CycleWindowCursor) → Walking K n c → 2 ≤ c.longest → c.longest ≤ max 2 n → (n ≤ c.start → Fitting K n c) → Fitting K n (step c).next
  reach =
      along (λ (c : CycleWindowCursor). 2 ≤ c.longest → c.longest ≤ max 2 n → (n ≤ c.start → Fitting K n c) → Fitting K n (step c).next)
      (λ c w s a b f. rw (step_end K u move n c (omega (arith, w.least, u.some_row)) s) (f s))
      (λ c w s m p a b f. rw (step_on K u move n c (omega (arith, w.least, u.some_row)) s m) (on c w s p a b))
      (λ c w s L m p a b f. let t = here-told K u move n c L m in
      let inside = window_told n c t.0 in
      rw (step-here K u move n c (omega (arith, w.least, u.some_row)) s L m, to_variant K n c t.0 t.1)
      (record { starts = w.starts; least = w.least; fits = omega (arith, inside.0); tried = omega (arith, t.1); long = a; within = b }))
    where
      on : (c : CycleWindowCursor) → Walking K n c → c.start < n
          → (2 ≤ (advance K n c).longest → (advance K n c).longest ≤ max 2 n → (n ≤ (advance K n c).start → Fitting K n (advance K n c)) → Fitting K n (step (advance K n c)).next)
          → 2 ≤ c.longest → c.longest ≤ max 2 n → Fitting K n (step (advance K n c)).next
      on c w s p a b =
          by_way K n c
          (λ f. let e = to_start K n c f in
          rw e ((rw e at p) a b (λ l. record { starts = omega arith; least = omega arith; fits = omega arith; tried = omega arith; long = a; within = b })))
          (λ t v. let e = to_variant K n c t v in rw e ((rw e at p) a b (λ l. absurd (omega arith))))
          (λ t v. let e = to_length K n c t v in rw e ((rw e at p) a b (λ l. absurd (omega arith))))

  pub next_fits : n ≤ 128 → (c : CycleWindowCursor) → Fitting K n c → Fitting K n (step c).next
  next_fits few c f = reach c (walks K n c u few f) f.long f.within (λ l. f)

  -- done repeats
  pub done_repeats : (c : CycleWindowCursor) → Walking K n c → (step c).move ≡ None → step (step c).next ≡ stepped (step c).next None
  done_repeats =
      along (λ (c : CycleWindowCursor). (step c).move ≡ None → step (step c).next ≡ stepped (step c).next None)
      (λ c w s e. let q = step_end K u move n c (omega (arith, w.least, u.some_row)) s in rw (q, q))
      (λ c w s m p e. let q = step_on K u move n c (omega (arith, w.least, u.some_row)) s m in rw q (p (rw q at e)))
      (λ c w s L m p e. absurd (none-some L (sym (rw (step-here K u move n c (omega (arith, w.least, u.some_row)) s L m) at e))))
