-- The steps of a try and of a walk, each as an equation, on the way down: the roster counts as if displacement had emptied all it may. Assumes nothing.
use Prim.Native.Nat.{ℕ, zero, suc, ◌+◌}
use mathlib.Core.Path.{◌≡◌, refl, ap, ◌∙◌}
use mathlib.Core.Bool.{Bool, true, false, cond}
use mathlib.Core.List.{List, [], ◌∷◌, ◌++◌}
use Rattle.std.specs.Prelude.{None, Some}
use lib.Dec.{eqb}
use Rattle.basics.specs.Edits.{Edit}
use Rattle.basics.proofs.Bools.{and_left}
use Rattle.basics.proofs.Below.{first_found}
use Rattle.rules.specs.Board.{Board}
use Rattle.rules.specs.Roster.{Roster, after}
use Rattle.search_rules.specs.Blockers.{is_free, first_required}
use Rattle.search_rules.specs.Search.{Terms, Reply, miss, hit, edit, stops, displaced, enter, or_else, walk, offers, closed, make_way, descend, within, try_row}
use Rattle.search_rules.specs.Lifted.{bare, Lifted, Plain}
use Rattle.search_rules.proofs.Lifting.{lifted-more, required_kept, free_down, required_down}

module _ (B : Board) (h : Roster) (q : Terms) where
  -- the first required blocker is required
  pub first_required_lem : (g : Roster) (r v b : ℕ) → first_required B g r v ≡ Some b → B.required b ≡ true
  unfolding first_required
  first_required_lem g r v b e = and_left (B.required b) _ (first_found _ 0 B.rows e).2

  -- ---- entering

  module _ (r v : ℕ) (L : List Edit) (n : ℕ) (deeper : List Edit → Reply) where
    enter-stops : stops q (n + 1) ≡ true → enter B h q r v L n deeper ≡ miss (n + 1)
    unfolding enter
    enter-stops t = rw t

    module _ (goes : stops q (n + 1) ≡ false) where
      enter_illegal : B.legal r v ≡ false → enter B h q r v L n deeper ≡ miss (n + 1)
      unfolding enter
      enter_illegal f = rw (goes, f)

      module _ (legal : B.legal r v ≡ true) where
        enter_free : is_free B (after h (displaced B q.displace h r v L)) r v ≡ true
            → enter B h q r v L n deeper ≡ hit (n + 1) (displaced B q.displace h r v L ++ (edit r v ∷ []))
        unfolding enter
        enter_free t = rw (goes, legal, t)

        enter_deeper : is_free B (after h (displaced B q.displace h r v L)) r v ≡ false
            → enter B h q r v L n deeper ≡ deeper (displaced B q.displace h r v L)
        unfolding enter
        enter_deeper f = rw (goes, legal, f)

  -- ---- a try at any depth

  module _ (visiting : ℕ → Bool) (r v : ℕ) (L : List Edit) (n : ℕ) where
    pub try_stops : (d : ℕ) → stops q (n + 1) ≡ true → try_row B h q d visiting r v L n ≡ miss (n + 1)
    unfolding try_row
    try_stops zero t = enter-stops r v L n _ t
    try_stops (suc d) t = enter-stops r v L n _ t

    module _ (goes : stops q (n + 1) ≡ false) where
      pub try_illegal : (d : ℕ) → B.legal r v ≡ false → try_row B h q d visiting r v L n ≡ miss (n + 1)
      unfolding try_row
      try_illegal zero f = enter_illegal r v L n _ goes f
      try_illegal (suc d) f = enter_illegal r v L n _ goes f

      module _ (plain : Plain B) (w : Lifted B q.displace L) (legal : B.legal r v ≡ true) where
        abbrev made : List Edit
        made = displaced B q.displace h r v L

        pub made-lifted : Lifted B q.displace made
        made-lifted = lifted-more B q.displace h L w plain r v legal

        free_is : is_free B (after h made) r v ≡ is_free B (bare B q.displace h) r v
        free_is = free_down B q.displace h L w plain r v legal

        pub try_free : (d : ℕ) → is_free B (bare B q.displace h) r v ≡ true → try_row B h q d visiting r v L n ≡ hit (n + 1) (made ++ (edit r v ∷ []))
        unfolding try_row
        try_free zero t = enter_free r v L n _ goes legal (free_is ∙ t)
        try_free (suc d) t = enter_free r v L n _ goes legal (free_is ∙ t)

        module _ (blocked : is_free B (bare B q.displace h) r v ≡ false) where
          pub try_flat : try_row B h q 0 visiting r v L n ≡ miss (n + 1)
          unfolding try_row
          try_flat = enter_deeper r v L n _ goes legal (free_is ∙ blocked)

          deep : (d : ℕ) → try_row B h q (suc d) visiting r v L n ≡ descend B h q (try_row B h q d (within r visiting)) visiting r v (n + 1) made
          unfolding try_row
          deep d = enter_deeper r v L n _ goes legal (free_is ∙ blocked)

          pub try_visited : (d : ℕ) → visiting r ≡ true → try_row B h q (suc d) visiting r v L n ≡ miss (n + 1)
          unfolding descend make_way
          try_visited d t = deep d ∙ rw t

          pub try_alone : (d : ℕ) → first_required B (bare B q.displace h) r v ≡ None → try_row B h q d visiting r v L n ≡ miss (n + 1)
          unfolding descend make_way
          try_alone zero e = try_flat
          try_alone (suc d) e = deep d ∙ rw (required_down B q.displace h L w plain r v legal ∙ e) (same (visiting r))
            where
              same : (b : Bool) → cond b (miss (n + 1)) (miss (n + 1)) ≡ miss (n + 1)
              same true = refl
              same false = refl

          pub try_walks : (d b : ℕ) → visiting r ≡ false → first_required B (bare B q.displace h) r v ≡ Some b
              → try_row B h q (suc d) visiting r v L n
              ≡ walk q (h b) (λ (a m : ℕ). closed B h r v (try_row B h q d (within r visiting) b a made m)) (offers B q b) (n + 1)
          unfolding descend make_way
          try_walks d b f e =
              deep d ∙ rw (f, required_down B q.displace h L w plain r v legal ∙ e)
              (ap (λ (x : ℕ). walk q x (λ (a m : ℕ). closed B h r v (try_row B h q d (within r visiting) b a made m)) (offers B q b) (n + 1)) (required_kept B q.displace h made made-lifted b (first_required_lem (bare B q.displace h) r v b e)))

  -- ---- a walk

  module _ (held : ℕ) (try : ℕ → ℕ → Reply) (a : ℕ) (more : List ℕ) (n : ℕ) where
    pub walk-stops : stops q (n + 1) ≡ true → walk q held try (a ∷ more) n ≡ miss (n + 1)
    unfolding walk
    walk-stops t = rw t

    module _ (goes : stops q (n + 1) ≡ false) where
      pub walk_skips : eqb a held ≡ true → walk q held try (a ∷ more) n ≡ walk q held try more (n + 1)
      unfolding walk
      walk_skips t = rw (goes, t)

      module _ (other : eqb a held ≡ false) where
        pub walk_finds : (L : List Edit) → (try a (n + 1)).found ≡ Some L → walk q held try (a ∷ more) n ≡ hit (try a (n + 1)).asks L
        unfolding walk or_else
        walk_finds L e = rw (goes, other, e)

        pub walk_goes_on : (try a (n + 1)).found ≡ None → walk q held try (a ∷ more) n ≡ walk q held try more (try a (n + 1)).asks
        unfolding walk or_else
        walk_goes_on e = rw (goes, other, e)
