-- Soundness in other words: no key has two holders, rows at sequences n and n + 1 are allowed (below and above say the same), and what is
-- held is legal. Assumes nothing.
use Prim.Native.Nat.{ℕ, ◌+◌, ◌≤◌, ◌<◌}
use mathlib.Core.Path.{◌≡◌, refl}
use mathlib.Core.Logic.{◌↔◌}
use mathlib.Core.Bool.{true}
use Rattle.std.specs.Prelude.{Some}
use Rattle.basics.proofs.Below.{count_below_one}
use Rattle.rules.specs.Board.{Board, empty, places}
use Rattle.rules.specs.Roster.{Roster, held_capacity, holds, holders}
use Rattle.rules.specs.Neighbours.{follows, below, above, neighbours}
use Rattle.rules.specs.Sound.{Sound}
use Rattle.rules.proofs.Places.{one_place}
use Rattle.rules.proofs.Sequences.{follows_next, below_iff, above_iff}
use Rattle.rules.proofs.Holders.{holds_iff}
use Rattle.rules.proofs.Edges.{stands_iff, neighbours_iff}
use Rattle.rules.proofs.Around.{SmallSequences, Between}

module _ (B : Board) (h : Roster) where
  -- what soundness asks under the edge rule
  abbrev pub NeighboursAllowed : Type 0
  NeighboursAllowed = (l r : ℕ) → l < B.rows → r < B.rows → neighbours B h l r ≡ true → B.edge l r ≡ true

  -- it may be asked of any two sequences that are next to each other, in whatever words
  in_words : (next : ℕ → ℕ → Type 0) → ((r v s t : ℕ) → B.sequence r v ≡ Some t → follows B s t ≡ true ↔ next s t)
      → NeighboursAllowed ↔ ((v s t : ℕ) → next s t → Between B h v s t)
  in_words next means = (
    λ f v s t n l r hl hr x y. f l r hl hr ((neighbours_iff B h l r).1 (v, s, t, x, y, (means r (h r) s t ((stands_iff B h v t r).0 y).1).1 n)),
    λ f l r hl hr a.
        let (v, s, t, x, y, n) = (neighbours_iff B h l r).0 a in
        f v s t ((means r (h r) s t ((stands_iff B h v t r).0 y).1).0 n) l r hl hr x y,
  )

  pub at_next : NeighboursAllowed ↔ ((v n : ℕ) → Between B h v n (n + 1))
  at_next =
      let words = in_words (λ s t. t ≡ s + 1) (λ r v s t _. follows_next B s t) in
      (λ f v n. words.0 f v n (n + 1) refl, λ f. words.1 (λ v s t e. rw e (f v s)))

  pub at_below : NeighboursAllowed ↔ ((v s t : ℕ) → below B t ≡ Some s → Between B h v s t)
  at_below = in_words (λ s t. below B t ≡ Some s) (λ r v s t _. below_iff B t s)

  pub at_above : SmallSequences B → NeighboursAllowed ↔ ((v s t : ℕ) → above B s ≡ Some t → Between B h v s t)
  at_above small = in_words (λ s t. above B s ≡ Some t) (λ r v s t e. above_iff B s t (small r v t e))

  -- a key has places enough where no two rows hold it
  pub one_holder : (k : ℕ) → holders B h k ≤ places B k
      ↔ ((i j : ℕ) → i < B.rows → j < B.rows → held_capacity B h i ≡ Some k → held_capacity B h j ≡ Some k → i ≡ j)
  unfolding holders
  one_holder k =
      let few = count_below_one (holds B h k) B.rows in
      rw one_place (
        λ c i j hi hj p q. few.0 c i j hi hj ((holds_iff B h k i).1 p) ((holds_iff B h k j).1 q),
        λ f. few.1 (λ i j hi hj p q. f i j hi hj ((holds_iff B h k i).0 p) ((holds_iff B h k j).0 q)),
      )

  pub sound_words : Sound B h
      ↔ (((k i j : ℕ) → i < B.rows → j < B.rows → held_capacity B h i ≡ Some k → held_capacity B h j ≡ Some k → i ≡ j)
      × (B.rule ≡ true → (v n : ℕ) → Between B h v n (n + 1))
      × ((r : ℕ) → r < B.rows → (h r ≡ empty → ⊥) → B.legal r (h r) ≡ true))
  sound_words = (
    λ sound. (λ k. (one_holder k).0 (sound.clear.keys k), λ on. at_next.0 (sound.clear.edges on), sound.holdings),
    λ (f, g, w). record { clear = record { keys = λ k. (one_holder k).1 (f k); edges = λ on. at_next.1 (g on) }; holdings = w },
  )
