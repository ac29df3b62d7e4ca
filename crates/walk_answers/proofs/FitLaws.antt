-- Whether a move fits, case by case. Assumes nothing.
use Prim.Native.Nat.{ℕ, ◌-◌, ◌≤◌, ◌<◌}
use mathlib.Core.Path.{◌≡◌, sym, ◌∙◌}
use mathlib.Core.Logic.{◌⊎◌, inl, inr}
use mathlib.Core.Bool.{Bool, true, false, not, ◌&&◌}
use lib.Dec.{eqb, leb}
use borrow.Author.Tests.{eq-eqb, ne_eqb, eqb-true, eqb-false, leb-true, leb-false, not-true, not-false}
use Rattle.basics.proofs.Bools.{either, and_left, and_right}
use Rattle.walk_answers.specs.Answers.{move_fits}

module _ (most moves room edits count : ℕ) where
  pub all_made : moves ≡ most → false ≡ move_fits most moves room edits count
  unfolding move_fits
  all_made e = rw (eq-eqb moves most e)

  pub so_many : (moves ≡ most → ⊥) → leb count (room - edits) ≡ move_fits most moves room edits count
  unfolding move_fits
  so_many n = rw (ne_eqb moves most n)

  module _ (b : Bool) (e : b ≡ move_fits most moves room edits count) where
    module _ (h : not b ≡ false) where
      fits : move_fits most moves room edits count ≡ true
      fits = sym e ∙ not-false b h

      pub fits_moves : moves ≡ most → ⊥
      unfolding move_fits
      fits_moves = eqb-false moves most (not-true _ (and_left (not (eqb moves most)) _ fits))

      pub fits-room : count ≤ room - edits
      unfolding move_fits
      fits-room = leb-true _ _ (and_right (not (eqb moves most)) _ fits)

    pub not_fitting : not b ≡ true → (moves ≡ most) ⊎ (room - edits < count)
    unfolding move_fits
    not_fitting h =
        let f : not (eqb moves most) && leb count (room - edits) ≡ false = sym e ∙ not-true b h in
        either (eqb moves most)
        (λ t. inl (eqb-true moves most t))
        (λ u. inr (leb-false _ _ (rw u at f)))
