-- The test of a place by the rows right below and right above it. Assumes nothing.
use Prim.Native.Nat.{ℕ, ◌<◌}
use mathlib.Core.Path.{◌≡◌, refl, sym, ◌∙◌}
use mathlib.Core.Logic.{◌↔◌, ⊎_elim}
use mathlib.Core.Bool.{Bool, true, false, not, cond, ◌&&◌}
use mathlib.Core.List.{List}
use Rattle.std.specs.Prelude.{Option, None, Some}
use lib.Dec.{eqb}
use borrow.Author.Tests.{eqb-true, eqb-false}
use Rattle.basics.proofs.Bools.{either, same_test, and_left, and_right, and_join, or_left, or_right, or_cases, implies}
use Rattle.basics.proofs.Below.{all_below_at, all_below_of}
use Rattle.rules.specs.Board.{Board}
use Rattle.rules.specs.Roster.{Roster, stands}
use Rattle.rules.specs.Neighbours.{below, above}
use Rattle.rules.specs.FinalTest.{place_passes}
use Rattle.rules.proofs.Sequences.{follows-another, below_iff, above_iff}
use Rattle.rules.proofs.Edges.{stands_iff, one_stand}
use Rattle.rules.proofs.Around.{SmallSequences, Between, place_around}
use Rattle.assignment_tables.specs.declared.Shape.{Shape}
use Rattle.assignment_tables.specs.Tables.{sequence_at, edge_at, board}
use Rattle.overlay_pairs.specs.Pairs.{has_place, all_at, pair_passes, beside_all, between_all, if_any}
use Rattle.overlay_pairs.proofs.InTurn.{and_stops, and_goes}
use Rattle.overlay_pairs.proofs.Sides.{any_iff, any_and_at, any_and_none}

module _ (S : Shape) (m k : List ℕ) (g : Roster) where
  abbrev B : Board
  B = board S m k

  abbrev placed : ℕ → ℕ → ℕ → Bool
  placed v s r = has_place (sequence_at S m k) v s r (g r)

  place_is : (v s r : ℕ) → stands B g v s r ≡ placed v s r
  unfolding stands has_place
  place_is v s r = refl

  -- a row and every other row at a place
  pub beside-all_iff : (right : Bool) (v s row : ℕ) → beside_all S m k g right v s row ≡ true
      ↔ ((o : ℕ) → o < S.rows → stands B g v s o ≡ true → (row ≡ o → ⊥) → cond right (edge_at S m row o) (edge_at S m o row) ≡ true)
  unfolding beside_all all_at pair_passes
  beside-all_iff right v s row = (
    λ t o l x n. ⊎_elim (λ y. absurd (n (eqb-true row o y))) (λ z. z)
        (or_cases (eqb row o) _ ((implies (placed v s o) _).0 (all_below_at _ S.rows t o l) (sym (place_is v s o) ∙ x))),
    λ f. all_below_of _ S.rows (λ o l. (implies (placed v s o) _).1
        (λ x. either (eqb row o) (λ y. or_left _ _ y) (λ n. or_right (eqb row o) _ (f o l (place_is v s o ∙ x) (eqb-false row o n))))),
  )

  -- no row stands at two sequences
  between_iff : (v a b : ℕ) → ((r : ℕ) → stands B g v b r ≡ true → a ≡ b → ⊥) → between_all S m k g v a b ≡ true ↔ Between B g v a b
  unfolding between_all all_at
  between_iff v a b two = (
    λ t l r hl hr x y.
        (beside-all_iff true v b l).0 ((implies (placed v a l) _).0 (all_below_at _ S.rows t l hl) (sym (place_is v a l) ∙ x)) r hr y
        (λ e. two r y (one_stand B g v v a b r (rw e at x) y).1),
    λ f. all_below_of _ S.rows (λ l hl. (implies (placed v a l) _).1
        (λ x. (beside-all_iff true v b l).1 (λ r hr y n. f l r hl hr (place_is v a l ∙ x) y))),
  )

  module _ (small : SmallSequences B) (v s : ℕ) where
    abbrev low : Bool
    low = if_any (below B s) (λ (a : ℕ). between_all S m k g v a s)

    abbrev high : Bool
    high = if_any (above B s) (between_all S m k g v s)

    low_iff : (a : ℕ) → below B s ≡ Some a → between_all S m k g v a s ≡ true ↔ Between B g v a s
    low_iff a e = between_iff v a s (λ r y z. follows-another B a s ((below_iff B s a).1 e) z)

    high_iff : (b : ℕ) → above B s ≡ Some b → between_all S m k g v s b ≡ true ↔ Between B g v s b
    high_iff b e = between_iff v s b (λ r y z. follows-another B s b ((above_iff B s b (small r _ b ((stands_iff B g v b r).0 y).1)).1 e) z)

    place_test : low && high ≡ place_passes B g v (Some s)
    place_test =
        same_test _ _
        (λ t. (place_around B g small v s).1 (
          λ a e. (low_iff a e).0 ((any_iff (below B s) _).0 (and_left low _ t) a e),
          λ b e. (high_iff b e).0 ((any_iff (above B s) _).0 (and_right low _ t) b e),
        ))
        (λ t. let (f, h) = (place_around B g small v s).0 t in
        and_join ((any_iff (below B s) _).1 (λ a e. (low_iff a e).1 (f a e))) ((any_iff (above B s) _).1 (λ b e. (high_iff b e).1 (h b e))))

    pub place-judged : (r : ℕ) → sequence_at S m k r v ≡ Some s → (b : Bool) → b ≡ low && high → b ≡ place_passes B g v (sequence_at S m k r v)
    place-judged r at b f = rw (at, ← place_test) f

  pub no_place : (r v : ℕ) → sequence_at S m k r v ≡ None → true ≡ place_passes B g v (sequence_at S m k r v)
  unfolding place_passes
  no_place r v e = rw e

-- the two sides of a place, one after the other
module _ (S : Shape) (m k : List ℕ) (g : Roster) (v s : ℕ) (B : Board) where
  abbrev upper : Bool
  upper = if_any (above B s) (between_all S m k g v s)

  pub sides_stop : (a : ℕ) (b : Bool) → b ≡ between_all S m k g v a s → not b ≡ true → false ≡ between_all S m k g v a s && upper
  sides_stop a b e t = and_stops b (between_all S m k g v a s) upper e t

  pub sides_go : (a : ℕ) (b d : Bool) → b ≡ between_all S m k g v a s → not b ≡ false → d ≡ upper → d ≡ between_all S m k g v a s && upper
  sides_go a b d e t f = and_goes b d (between_all S m k g v a s) upper e t f

  pub sides_at : (x : Option ℕ) → x ≡ below B s → (a : ℕ) → x ≡ Some a → (b : Bool) → b ≡ between_all S m k g v a s && upper
      → b ≡ if_any (below B s) (λ (a : ℕ). between_all S m k g v a s) && upper
  sides_at x e a f b h = any_and_at (below B s) (λ (a : ℕ). between_all S m k g v a s) x e upper a f b h

  pub sides_above : (x : Option ℕ) → x ≡ below B s → x ≡ None → (b : Bool) → b ≡ upper → b ≡ if_any (below B s) (λ (a : ℕ). between_all S m k g v a s) && upper
  sides_above x e f b h = any_and_none (below B s) (λ (a : ℕ). between_all S m k g v a s) x e upper f b h
