-- A place's test by the places right below and right above it. Assumes nothing.
use Prim.Native.Nat.{ℕ, ◌<◌, ◌^◌}
use mathlib.Core.Path.{◌≡◌, refl}
use mathlib.Core.Logic.{◌↔◌, inl, inr, ⊎_elim}
use mathlib.Core.Bool.{true}
use Rattle.std.specs.Prelude.{Some}
use Rattle.std.proofs.lemmas.Option.{same_Some}
use Rattle.rules.specs.Board.{Board}
use Rattle.rules.specs.Roster.{Roster, stands}
use Rattle.rules.specs.Neighbours.{follows, below, above}
use Rattle.rules.specs.FinalTest.{place_passes}
use Rattle.rules.proofs.Sequences.{below_iff, above_iff}
use Rattle.rules.proofs.Edges.{stands_iff, one_stand, neighbours_iff, AllowedAround, place-passes_iff}

-- the sequences are numbers of the machine
abbrev pub SmallSequences : Board → Type 0
SmallSequences B = (r v s : ℕ) → B.sequence r v ≡ Some s → s < 2 ^ 64

module _ (B : Board) (h : Roster) where
  -- every row at the sequence s of v and every row at t are an allowed pair
  abbrev pub Between : ℕ → ℕ → ℕ → Type 0
  Between v s t = (l r : ℕ) → l < B.rows → r < B.rows → stands B h v s l ≡ true → stands B h v t r ≡ true → B.edge l r ≡ true

  around_iff : (v s : ℕ) → AllowedAround B h v s
      ↔ (((p : ℕ) → follows B p s ≡ true → Between v p s) × ((t : ℕ) → follows B s t ≡ true → Between v s t))
  around_iff v s = (
    λ f. (
      λ p n l r hl hr x y. f l r hl hr (inr y) ((neighbours_iff B h l r).1 (v, p, s, x, y, n)),
      λ t n l r hl hr x y. f l r hl hr (inl x) ((neighbours_iff B h l r).1 (v, s, t, x, y, n)),
    ),
    λ (f, g) l r hl hr one a.
        let (u, p, t, x, y, n) = (neighbours_iff B h l r).0 a in
        ⊎_elim
        (λ here. let (e, q) = one_stand B h v u s p l here x in g t (rw q n) l r hl hr here (rw e y))
        (λ here. let (e, q) = one_stand B h v u s t r here y in f p (rw q n) l r hl hr (rw e x) here)
        one,
  )

  pub place_around : SmallSequences B → (v s : ℕ) → place_passes B h v (Some s) ≡ true
      ↔ (((p : ℕ) → below B s ≡ Some p → Between v p s) × ((t : ℕ) → above B s ≡ Some t → Between v s t))
  place_around small v s = (
    λ a. let (f, g) = (around_iff v s).0 ((place-passes_iff B h v (Some s)).0 a s refl) in (
      λ p e. f p ((below_iff B s p).1 e),
      λ t e l r hl hr x y. g t ((above_iff B s t (small r _ t ((stands_iff B h v t r).0 y).1)).1 e) l r hl hr x y,
    ),
    λ (f, g). (place-passes_iff B h v (Some s)).1 (λ n e. rw (← same_Some s n e) ((around_iff v s).1 (
      λ p n. f p ((below_iff B s p).0 n),
      λ t n l r hl hr x y. g t ((above_iff B s t (small r _ t ((stands_iff B h v t r).0 y).1)).0 n) l r hl hr x y,
    ))),
  )
