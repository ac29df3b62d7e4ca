-- Once the blockers that may be displaced are emptied, those that are left are the ones that there would be if no optional row held anything:
-- whatever was displaced before. So on the way down a row's verdict depends on the tables and the roster alone. Assumes nothing.
use Prim.Native.Nat.{ℕ, ◌<◌}
use mathlib.Core.Path.{◌≡◌, refl, sym, ap, ap₂, ◌∙◌}
use mathlib.Core.Logic.{⊎_elim}
use mathlib.Core.Bool.{Bool, true, false, not, ◌&&◌, ◌||◌}
use Rattle.std.specs.Prelude.{Option, None, Some}
use lib.Dec.{eqb}
use borrow.Author.Tests.{ne_eqb, not-true}
use Rattle.basics.specs.Tests.{all_below, is}
use Rattle.basics.proofs.Bools.{either, clash, same_test, and_left, and_right, and_join, and_false, or_left, or_right, or_cases, or_none, or_neither}
use Rattle.basics.proofs.Below.{all_below_at, all_below_of, all_below_fails, all_below-same}
use Rattle.rules.specs.Board.{Board, empty}
use Rattle.rules.specs.Roster.{Roster}
use Rattle.rules.specs.Neighbours.{beside, beside_allowed}
use Rattle.rules.specs.Reinsertion.{beside_passes}
use Rattle.rules.proofs.Edges.{beside_iff}
use Rattle.search_rules.specs.Blockers.{shares, at_side, fits, rule_refuses, blocks, displaceable}
use Rattle.search_rules.specs.Lifted.{without}

pub shares_none : (o : Option ℕ) → shares o None ≡ false
unfolding shares is
shares_none None = refl
shares_none (Some k) = refl

pub without-chosen : (D : ℕ → Bool) (h : Roster) (o : ℕ) → D o ≡ true → without D h o ≡ empty
unfolding without
without-chosen D h o t = rw t

pub without_other : (D : ℕ → Bool) (h : Roster) (o : ℕ) → D o ≡ false → without D h o ≡ h o
unfolding without
without_other D h o f = rw f

module _ (B : Board) (r v : ℕ) where
  not_beside : (l u s w : ℕ) → (u ≡ w → ⊥) → beside B l u s w ≡ false
  not_beside l u s w n = either (beside B l u s w) (λ t. absurd (n ((beside_iff B l u s w).0 t).one)) (λ f. f)

  allowed_apart : (l u s w : ℕ) → beside B l u s w ≡ false → beside_allowed B l u s w ≡ true
  unfolding beside_allowed
  allowed_apart l u s w f = rw f

  refused-beside : (l u s w : ℕ) → beside_allowed B l u s w ≡ false → beside B l u s w ≡ true
  refused-beside l u s w f = either (beside B l u s w) (λ t. t) (λ n. absurd (clash (allowed_apart l u s w n) f))

  -- a refused pair is one at a side
  pub refused-side : (o w : ℕ) → fits B r v o w ≡ false → at_side B r v o w ≡ true
  unfolding at_side fits
  refused-side o w f =
      either (beside_allowed B o w r v)
      (λ t. or_right (beside B o w r v) _ (refused-beside r v o w (rw t at f)))
      (λ n. or_left _ _ (refused-beside o w r v n))

  -- and one at a side is another row
  pub side-other : (o w : ℕ) → at_side B r v o w ≡ true → eqb o r ≡ false
  unfolding at_side
  side-other o w t =
      ⊎_elim
      (λ b. ne_eqb o r ((beside_iff B o w r v).0 b).apart)
      (λ b. ne_eqb o r (λ e. ((beside_iff B r v o w).0 b).apart (sym e)))
      (or_cases (beside B o w r v) _ t)

  module _ (real : v ≡ empty → ⊥) where
    pub side-empty : (o : ℕ) → at_side B r v o empty ≡ false
    unfolding at_side
    side-empty o = or_neither (not_beside o empty r v (λ e. real (sym e))) (not_beside r v o empty real)

    fits-empty : (o : ℕ) → fits B r v o empty ≡ true
    unfolding fits
    fits-empty o =
        and_join (allowed_apart o empty r v (not_beside o empty r v (λ e. real (sym e)))) (allowed_apart r v o empty (not_beside r v o empty real))

    module _ (no_key : (o : ℕ) → B.capacity o empty ≡ None) (h : Roster) where
      -- the edge rule allows r at v, those of D being empty
      abbrev allowed : (ℕ → Bool) → Bool
      allowed D = all_below B.rows (λ (o : ℕ). D o || fits B r v o (h o))

      allowed-without : (D : ℕ → Bool) → beside_passes B (without D h) r v ≡ allowed D
      unfolding beside_passes fits
      allowed-without D =
          all_below-same _ _ B.rows (λ o l. either (D o)
          (λ t. ap (fits B r v o) (without-chosen D h o t) ∙ fits-empty o ∙ sym (or_left (D o) _ t))
          (λ f. ap (fits B r v o) (without_other D h o f) ∙ ap (λ (b : Bool). b || fits B r v o (h o)) (sym f)))

      abbrev blocked : Bool → ℕ → Bool
      blocked refused o = not (eqb o r) && (shares (B.capacity r v) (B.capacity o (h o)) || (refused && at_side B r v o (h o)))

      -- who blocks where those of D are empty: none of them, and the others as the rest of the roster has it
      pub blocks-without : (D : ℕ → Bool) (o : ℕ) → blocks B (without D h) r v o ≡ not (D o) && blocked (B.rule && not (allowed D)) o
      unfolding blocks rule_refuses
      blocks-without D o =
          rw (allowed-without D)
          (either (D o)
          (λ t. rw (t, without-chosen D h o t, no_key o, shares_none (B.capacity r v), side-empty o, and_false (B.rule && not (allowed D)), and_false (not (eqb o r))))
          (λ f. rw (f, without_other D h o f)))

      -- the rows of D are optional; then the optional blockers that are left are emptied too
      module _ (D : ℕ → Bool) (optional : (o : ℕ) → D o ≡ true → displaceable B o ≡ true) where
        abbrev pub widened : ℕ → Bool
        widened o = D o || (displaceable B o && blocks B (without D h) r v o)

        wide_optional : (o : ℕ) → widened o ≡ true → displaceable B o ≡ true
        wide_optional o t = ⊎_elim (optional o) (and_left (displaceable B o) _) (or_cases (D o) _ t)

        -- an optional row that was refused is among the emptied
        refused-widened : B.rule ≡ true → (o : ℕ) → o < B.rows → displaceable B o ≡ true → fits B r v o (h o) ≡ false → widened o ≡ true
        refused-widened rule o l d f =
            either (D o) (λ t. or_left _ _ t) (λ n.
            let side = refused-side o (h o) f in
            let no = all_below_fails (λ (i : ℕ). D i || fits B r v i (h i)) B.rows o l (or_neither n f) in
            or_right (D o) _ (and_join d (blocks-without D o ∙ and_join (ap not n) (and_join (ap not (side-other o (h o) side)) (or_right (shares (B.capacity r v) (B.capacity o (h o))) _ (and_join (and_join rule (ap not no)) side))))))

        allowed_settled : B.rule ≡ true → allowed widened ≡ allowed (displaceable B)
        allowed_settled rule =
            same_test _ _
            (λ t. all_below_of _ B.rows (λ o l. ⊎_elim (λ w. or_left _ _ (wide_optional o w)) (or_right (displaceable B o) _) (or_cases (widened o) _ (all_below_at _ B.rows t o l))))
            (λ t. all_below_of _ B.rows (λ o l.
            either (fits B r v o (h o))
            (or_right (widened o) _)
            (λ f. or_left _ _ (refused-widened rule o l (⊎_elim (λ d. d) (λ y. absurd (clash y f)) (or_cases (displaceable B o) _ (all_below_at _ B.rows t o l))) f))))

        refusal_settled : B.rule && not (allowed widened) ≡ B.rule && not (allowed (displaceable B))
        refusal_settled =
            either B.rule
            (λ t. ap (λ (b : Bool). B.rule && not b) (allowed_settled t))
            (λ f. ap (λ (b : Bool). b && not (allowed widened)) f ∙ sym (ap (λ (b : Bool). b && not (allowed (displaceable B))) f))

        -- where more is emptied, less is refused
        refusal_falls : B.rule && not (allowed widened) ≡ true → B.rule && not (allowed D) ≡ true
        refusal_falls t =
            and_join (and_left B.rule _ t)
            (either (allowed D)
            (λ a. absurd (clash (all_below_of _ B.rows (λ o l. ⊎_elim (λ d. or_left _ _ (or_left _ _ d)) (or_right (widened o) _) (or_cases (D o) _ (all_below_at _ B.rows a o l)))) (not-true _ (and_right B.rule _ t))))
            (λ n. ap not n))

        -- an optional row that is not emptied is no blocker
        left_free : (o : ℕ) → displaceable B o ≡ true → widened o ≡ false → blocked (B.rule && not (allowed widened)) o ≡ false
        left_free o d f =
            let (a, b) = or_none (D o) _ f in
            let neither = sym (blocks-without D o) ∙ rw d at b in
            either (blocked (B.rule && not (allowed widened)) o)
            (λ t. absurd (clash (and_join (and_left (not (eqb o r)) _ t) (⊎_elim (or_left _ _)
            (λ s. or_right (shares (B.capacity r v) (B.capacity o (h o))) _ (and_join (refusal_falls (and_left (B.rule && not (allowed widened)) _ s)) (and_right (B.rule && not (allowed widened)) _ s)))
            (or_cases (shares (B.capacity r v) (B.capacity o (h o))) _ (and_right (not (eqb o r)) _ t)))) (rw a at neither)))
            (λ n. n)

        -- the law: whatever D was
        pub settled : (o : ℕ) → blocks B (without widened h) r v o ≡ blocks B (without (displaceable B) h) r v o
        settled o = blocks-without widened o ∙ either (displaceable B o) gone stays ∙ sym (blocks-without (displaceable B) o)
          where
            x : Bool
            x = B.rule && not (allowed widened)

            y : Bool
            y = B.rule && not (allowed (displaceable B))

            gone : displaceable B o ≡ true → not (widened o) && blocked x o ≡ not (displaceable B o) && blocked y o
            gone d =
                either (widened o)
                (λ t. ap (λ (b : Bool). not b && blocked x o) t)
                (λ f. ap₂ (λ (b c : Bool). not b && c) f (left_free o d f))
                ∙ sym (ap (λ (b : Bool). not b && blocked y o) d)

            stays : displaceable B o ≡ false → not (widened o) && blocked x o ≡ not (displaceable B o) && blocked y o
            stays n =
                let kept = either (widened o) (λ t. absurd (clash (wide_optional o t) n)) (λ f. f) in
                ap₂ (λ (b c : Bool). not b && blocked c o) (kept ∙ sym n) refusal_settled
