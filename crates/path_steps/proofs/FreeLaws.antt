-- A row is free where every other row is clear of it, and what that comes to after a list. Assumes nothing.
use Prim.Native.Nat.{ℕ, ◌≤◌, ◌<◌}
use mathlib.Core.Path.{◌≡◌, sym, ap, ap₂, ◌∙◌}
use mathlib.Core.Logic.{⊎_elim}
use mathlib.Core.Bool.{Bool, true, false, not, ◌&&◌, ◌||◌}
use mathlib.Core.List.{List}
use Rattle.std.proofs.lemmas.Option.{none-some}
use lib.ListN.{length, get_or}
use lib.Dec.{eqb}
use borrow.Author.Tests.{not-true}
use Rattle.basics.specs.Tests.{all_below, among}
use Rattle.basics.specs.Edits.{edits}
use Rattle.basics.proofs.Bools.{either, clash, same_test, and_left, and_right, and_join, or_left, or_right, or_cases, or_swap, not_not}
use Rattle.basics.proofs.Below.{all_below_at, all_below_of, all_below_fails, all_below-same}
use Rattle.rules.specs.Board.{Board}
use Rattle.rules.specs.Roster.{Roster, after}
use Rattle.rules.specs.Neighbours.{beside, beside_allowed}
use Rattle.rules.specs.Reinsertion.{beside_passes}
use Rattle.rules.proofs.Edges.{beside_iff}
use Rattle.assignment_tables.specs.declared.Shape.{Shape}
use Rattle.assignment_tables.specs.Tables.{board, required_at, capacity_at}
use Rattle.search_rules.specs.Blockers.{shares, fits, rule_refuses, blocks, is_free}
use Rattle.search_rules.proofs.Displacing.{shares_none, refused-side, side-other}
use Rattle.path_blockers.specs.Seeking.{Least, unlisted, is_sought, seen_allowed, blocks_seen}
use Rattle.path_blockers.proofs.LeastLaws.{least-all, least_some}
use Rattle.path_clearance.specs.Clearance.{clear_of, arrival_clear}
use Rattle.path_steps.proofs.AfterLaws.{overruled, after_split}
use Rattle.path_steps.proofs.PlainLaws.{row_outside}

-- ---- who is clear

module _ (B : Board) (r v : ℕ) where
  -- the row itself, or one that is clear of it
  abbrev pub harmless : ℕ → ℕ → Bool
  harmless o w = eqb o r || clear_of B r v o w

  -- among the rows that are seen, none blocks exactly where each is harmless
  module _ (g : Roster) (t : ℕ → Bool) where
    free_forth : all_below B.rows (λ (o : ℕ). not (blocks_seen B g t t r v o)) ≡ true → all_below B.rows (λ (o : ℕ). not (t o) || harmless o (g o)) ≡ true
    unfolding blocks_seen clear_of seen_allowed
    free_forth a =
        all_below_of _ B.rows (λ o l.
        either (t o)
        (λ y. or_right (not (t o)) _ (either (eqb o r) (or_left _ _) (λ n. or_right (eqb o r) _ (and_join
        (either (shares (B.capacity r v) (B.capacity o (g o)))
        (λ s. absurd (clash (and_join y (and_join (ap not n) (or_left _ _ s))) (not-true _ (all_below_at _ B.rows a o l))))
        (λ s. ap not s))
        (either B.rule
        (λ c. or_right (not B.rule) _ (either (fits B r v o (g o)) (λ f. f)
        (λ f. absurd (clash (and_join y (and_join (ap not n) (or_right (shares (B.capacity r v) (B.capacity o (g o))) _
        (and_join (and_join c (ap not (all_below_fails (λ (i : ℕ). not (t i) || fits B r v i (g i)) B.rows o l (ap₂ (λ (x z : Bool). not x || z) y f)))) (refused-side B r v o (g o) f)))))
        (not-true _ (all_below_at _ B.rows a o l))))))
        (λ c. or_left _ _ (ap not c)))))))
        (λ n. or_left _ _ (ap not n)))

    free_back : all_below B.rows (λ (o : ℕ). not (t o) || harmless o (g o)) ≡ true → all_below B.rows (λ (o : ℕ). not (blocks_seen B g t t r v o)) ≡ true
    unfolding blocks_seen clear_of seen_allowed
    free_back a = all_below_of _ B.rows (λ o l. either (blocks_seen B g t t r v o) (λ b. absurd (none o l b)) (λ n. ap not n))
      where
        -- who is seen and another row is clear
        clear : (o : ℕ) → o < B.rows → t o ≡ true → eqb o r ≡ false → clear_of B r v o (g o) ≡ true
        clear o l y n =
            ⊎_elim (λ z. absurd (clash y (not-true _ z))) (λ z. ⊎_elim (λ e. absurd (clash e n)) (λ c. c) (or_cases (eqb o r) _ z)) (or_cases (not (t o)) _ (all_below_at _ B.rows a o l))

        all_fit : B.rule ≡ true → seen_allowed B g t r v ≡ true
        all_fit c =
            all_below_of _ B.rows (λ i k. either (t i)
            (λ y. or_right (not (t i)) _ (either (fits B r v i (g i)) (λ f. f)
            (λ f. let n = side-other B r v i (g i) (refused-side B r v i (g i) f) in
            ⊎_elim (λ z. absurd (clash c (not-true _ z))) (λ z. z) (or_cases (not B.rule) _ (and_right (not (shares (B.capacity r v) (B.capacity i (g i)))) _ (clear i k y n))))))
            (λ n. or_left _ _ (ap not n)))

        none : (o : ℕ) → o < B.rows → blocks_seen B g t t r v o ≡ true → ⊥
        none o l b =
            let y = and_left (t o) _ b in
            let rest = and_right (t o) _ b in
            let n = not-true _ (and_left (not (eqb o r)) _ rest) in
            ⊎_elim
            (λ s. clash s (not-true _ (and_left (not (shares (B.capacity r v) (B.capacity o (g o)))) _ (clear o l y n))))
            (λ s. let refused = and_left (B.rule && not (seen_allowed B g t r v)) _ s in
            clash (all_fit (and_left B.rule _ refused)) (not-true _ (and_right B.rule _ refused)))
            (or_cases (shares (B.capacity r v) (B.capacity o (g o))) _ (and_right (not (eqb o r)) _ rest))

    pub none_blocks : all_below B.rows (λ (o : ℕ). not (blocks_seen B g t t r v o)) ≡ all_below B.rows (λ (o : ℕ). not (t o) || harmless o (g o))
    none_blocks = same_test _ _ free_forth free_back

  -- of all rows
  pub free_is : (g : Roster) → is_free B g r v ≡ all_below B.rows (λ (o : ℕ). harmless o (g o))
  unfolding is_free blocks rule_refuses beside_passes blocks_seen seen_allowed fits
  free_is g = none_blocks g (λ (o : ℕ). true)

-- ---- after a list

module _ (S : Shape) (m k : List ℕ) (r v : ℕ) where
  abbrev B' : Board
  B' = board S m k

  -- a row out of range has no key and no sequence
  outside : (o w : ℕ) → S.rows ≤ o → harmless B' r v o w ≡ true
  unfolding clear_of fits beside_allowed
  outside o w l =
      or_right (eqb o r) _
      (and_join (ap not (ap (shares (capacity_at S m k r v)) (row_outside S.rows S.values _ _ m k o w l) ∙ shares_none (capacity_at S m k r v)))
      (or_right (not B'.rule) _ (and_join (or_left _ _ (ap not (left_out l))) (or_left _ _ (ap not (right_out l))))))
    where
      left_out : S.rows ≤ o → beside B' o w r v ≡ false
      left_out l = either (beside B' o w r v)
          (λ t. absurd (none-some _ (sym (row_outside S.rows S.values _ _ m k o w l) ∙ ((beside_iff B' o w r v).0 t).at_left))) (λ f. f)

      right_out : S.rows ≤ o → beside B' r v o w ≡ false
      right_out l = either (beside B' r v o w)
          (λ t. absurd (none-some _ (sym (row_outside S.rows S.values _ _ m k o w l) ∙ ((beside_iff B' r v o w).0 t).at_right))) (λ f. f)

  module _ (h : Roster) (rs vs : List ℕ) (e : length rs ≡ length vs) where
    -- whom the search looks for then: all rows that the list does not name
    abbrev stayer : ℕ → Bool
    stayer = is_sought (required_at S m) rs false

    abbrev stayers_free : Bool
    stayers_free = all_below S.rows (λ (o : ℕ). not (blocks_seen B' h (unlisted rs) stayer r v o))

    arrivals_are : all_below (length rs) (arrival_clear B' rs vs r v) ≡ all_below (length rs) (λ (i : ℕ). overruled rs i || harmless B' r v (get_or rs i 0) (get_or vs i 0))
    unfolding arrival_clear
    arrivals_are = all_below-same _ _ (length rs) (λ i l. or_swap (eqb (get_or rs i 0) r) (overruled rs i) (clear_of B' r v (get_or rs i 0) (get_or vs i 0)))

    stayers_are : stayers_free ≡ all_below S.rows (λ (o : ℕ). among o rs || harmless B' r v o (h o))
    unfolding is_sought
    stayers_are = none_blocks B' r v h (unlisted rs) ∙ all_below-same _ _ S.rows (λ o l. ap (λ (b : Bool). b || harmless B' r v o (h o)) (not_not (among o rs)))

    pub free_after-is : stayers_free && all_below (length rs) (arrival_clear B' rs vs r v) ≡ is_free B' (after h (edits rs vs)) r v
    free_after-is =
        ap₂ ◌&&◌ stayers_are arrivals_are
        ∙ after_split S.rows (harmless B' r v) outside h rs vs e
        ∙ sym (free_is B' r v (after h (edits rs vs)))

    module _ (x : ℕ) (a : Least (blocks_seen B' h (unlisted rs) stayer r v) 0 S.rows x) where
      pub stayer-blocks : x < S.rows → false ≡ is_free B' (after h (edits rs vs)) r v
      stayer-blocks l = sym (ap (λ (b : Bool). b && all_below (length rs) (arrival_clear B' rs vs r v)) (least_some _ S.rows x a l)) ∙ free_after-is

      pub arrivals_decide : S.rows ≤ x → (b : Bool) → b ≡ all_below (length rs) (arrival_clear B' rs vs r v) → b ≡ is_free B' (after h (edits rs vs)) r v
      arrivals_decide l b f = f ∙ sym (ap (λ (c : Bool). c && all_below (length rs) (arrival_clear B' rs vs r v)) (least-all _ S.rows x a l)) ∙ free_after-is
