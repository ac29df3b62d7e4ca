-- The list on the way down: what the roster is after it, how displacing adds to it, and who blocks then. Assumes nothing.
use Prim.Native.Nat.{ℕ, zero, suc, ◌+◌, ◌≤◌, ◌<◌}
use mathlib.Core.Path.{◌≡◌, refl, sym, ap, ap₂, ◌∙◌, fun_ext}
use mathlib.Core.Logic.{◌⊎◌, inl, inr, ⊎_elim}
use mathlib.Core.Bool.{Bool, true, false, not, cond, ◌&&◌, ◌||◌}
use mathlib.Core.List.Memᴰ
use mathlib.Core.List.{List, [], ◌∷◌, ◌++◌, map}
use Rattle.std.specs.Prelude.{Option, Some}
use native.Mathlib.Omega.{arith}
use lib.ListN.{length}
use lib.Dec.{eqb}
use borrow.Author.Tests.{lt-ltb, eq-eqb, not-true}
use Rattle.basics.specs.Tests.{among, distinct, first_from}
use Rattle.basics.specs.Edits.{Edit, rows_of}
use Rattle.basics.proofs.Bools.{either, clash, same_test, and_left, and_right, and_join, or_left, or_none}
use Rattle.basics.proofs.Lists.{◌∈◌, all_of, among_at, among_of, among_not, among-append}
use Rattle.basics.proofs.Edits.{rows_append, length_rows}
use Rattle.basics.proofs.Below.{all_below-same, all_of_below_iff, all_of_below-distinct, pigeon}
use Rattle.rules.specs.Board.{Board, empty}
use Rattle.rules.specs.Roster.{Roster, after}
use Rattle.rules.specs.Reinsertion.{beside_passes}
use Rattle.rules.proofs.Rosters.{untouched, touched}
use Rattle.search_rules.specs.Blockers.{rule_refuses, blocks, is_free, displaceable, displaceable_blockers, first_required}
use Rattle.search_rules.specs.Search.{edit, displaced}
use Rattle.search_rules.specs.Lifted.{without, bare, Lifted, Plain}
use Rattle.search_rules.proofs.Displacing.{without-chosen, without_other, blocks-without, widened, settled}

-- ---- blockers are a matter of the rows in range

module _ (B : Board) (g g' : Roster) (r v : ℕ) (e : (i : ℕ) → i < B.rows → g i ≡ g' i) where
  beside_alike : beside_passes B g r v ≡ beside_passes B g' r v
  unfolding beside_passes
  beside_alike = all_below-same _ _ B.rows (λ i k. rw (e i k))

  pub blocks_alike : (o : ℕ) → o < B.rows → blocks B g r v o ≡ blocks B g' r v o
  unfolding blocks rule_refuses
  blocks_alike o l = rw (e o l, beside_alike)

-- tests that agree below a bound have the same first number
pub first-same : (p q : ℕ → Bool) (i k : ℕ) → ((j : ℕ) → i ≤ j → j < i + k → p j ≡ q j) → first_from p i k ≡ first_from q i k
unfolding first_from
first-same p q i zero f = refl
first-same p q i (suc k) f =
    ap₂ (λ (b : Bool) (o : Option ℕ). cond b (Some i) o) (f i (omega arith) (omega arith)) (first-same p q (suc i) k (λ j l m. f j (omega arith) (omega arith)))

pub free_same : (B : Board) (g g' : Roster) (r v : ℕ) → ((o : ℕ) → o < B.rows → blocks B g r v o ≡ blocks B g' r v o) → is_free B g r v ≡ is_free B g' r v
unfolding is_free
free_same B g g' r v f = all_below-same _ _ B.rows (λ o l. ap not (f o l))

pub required_same : (B : Board) (g g' : Roster) (r v : ℕ) → ((o : ℕ) → o < B.rows → blocks B g r v o ≡ blocks B g' r v o) → first_required B g r v ≡ first_required B g' r v
unfolding first_required
required_same B g g' r v f = first-same _ _ 0 B.rows (λ o z l. ap (λ (b : Bool). B.required o && b) (f o (omega arith)))

-- ---- lists of emptied rows

abbrev emptying : ℕ → Edit
emptying o = edit o empty

rows_emptying : (xs : List ℕ) → rows_of (map emptying xs) ≡ xs
unfolding rows_of
rows_emptying [] = refl
rows_emptying (x ∷ xs) = ap (λ (l : List ℕ). x ∷ l) (rows_emptying xs)

-- two lists without repeats that share nothing
distinct_append : (xs ys : List ℕ) → distinct xs ≡ true → distinct ys ≡ true → ((y : ℕ) → y ∈ ys → among y xs ≡ false) → distinct (xs ++ ys) ≡ true
unfolding distinct among
distinct_append [] ys a b f = b
distinct_append (x ∷ xs) ys a b f =
    and_join
    (ap not ((among_not x (xs ++ ys)).1 (λ m. ⊎_elim
    (λ k. clash (among_of k) (not-true _ (and_left (not (among x xs)) _ a)))
    (λ k. clash (or_left (eqb x x) (among x xs) (eq-eqb x x refl)) (f x k))
    (Memᴰ.append_cases xs m))))
    (distinct_append xs ys (and_right (not (among x xs)) _ a) b (λ y k. (or_none (eqb y x) (among y xs) (f y k)).1))

pub lifted_none : (B : Board) (on : Bool) → Lifted B on []
unfolding distinct rows_of
lifted_none B on = record {
  emptied = λ e m. absurd (Memᴰ.not-nil m);
  optional = λ e m. absurd (Memᴰ.not-nil m);
  within = λ e m. absurd (Memᴰ.not-nil m);
  apart = refl;
  only = λ f. refl;
}

module _ (B : Board) (on : Bool) (h : Roster) (L : List Edit) (w : Lifted B on L) where
  abbrev D : ℕ → Bool
  D o = among o (rows_of L)

  pub lifted_at : (o : ℕ) → D o ≡ true → (e : Edit) × (e ∈ L) × (e.row ≡ o) × (after h L o ≡ empty)
  lifted_at o t = let (e, m, p, q) = touched h L o t in (e, m, p, q ∙ w.emptied e m)

  pub lifted_optional : (o : ℕ) → D o ≡ true → displaceable B o ≡ true
  lifted_optional o t = let (e, m, p, q) = lifted_at o t in ap (displaceable B) (sym p) ∙ w.optional e m

  pub after-lifted : after h L ≡ without D h
  after-lifted =
      fun_ext (λ o. either (D o)
      (λ t. (lifted_at o t).3 ∙ sym (without-chosen D h o t))
      (λ f. untouched h L f ∙ sym (without_other D h o f)))

  -- a required row still has what it had
  pub required_kept : (b : ℕ) → B.required b ≡ true → after h L b ≡ h b
  required_kept b t =
      untouched h L (either (D b) (λ y. absurd (clash (lifted_optional b y) (ap not t))) (λ n. n))

  pub lifted_few : length L ≤ B.rows
  lifted_few =
      rw (sym (length_rows L))
      (pigeon B.rows (rows_of L) w.apart (all_of _ (rows_of L) (λ o m. let (e, k, p, q) = touched h L o (among_of m) in lt-ltb o B.rows (omega (arith, p, w.within e k)))))

  -- ---- what displacing adds

  module _ (plain : Plain B) (r v : ℕ) (legal : B.legal r v ≡ true) where
    real : v ≡ empty → ⊥
    real = plain.no_value r v legal

    abbrev more : List ℕ
    more = displaceable_blockers B (after h L) r v

    abbrev made : List Edit
    made = displaced B on h r v L

    more_iff_1 : (o : ℕ) → o ∈ more → (o < B.rows) × (displaceable B o ≡ true) × (D o ≡ false)
    unfolding displaceable_blockers
    more_iff_1 o m =
        let (l, t) = (all_of_below_iff (λ (i : ℕ). displaceable B i && blocks B (after h L) r v i) B.rows o).0 m in
        (l, and_left (displaceable B o) _ t, free (and_right (displaceable B o) _ t))
      where
        free : blocks B (after h L) r v o ≡ true → D o ≡ false
        free t =
            let b = sym (ap (λ (g : Roster). blocks B g r v o) after-lifted ∙ blocks-without B r v real plain.no_key h D o) ∙ t in
            not-true (D o) (and_left (not (D o)) _ b)

    more_apart : distinct more ≡ true
    unfolding displaceable_blockers
    more_apart = all_of_below-distinct (λ (i : ℕ). displaceable B i && blocks B (after h L) r v i) B.rows

    on_case : on ≡ true → made ≡ L ++ map emptying more
    unfolding displaced
    on_case t = rw t

    off_case : on ≡ false → made ≡ L
    unfolding displaced
    off_case f = rw f

    made_rows : on ≡ true → rows_of made ≡ rows_of L ++ more
    made_rows t = ap rows_of (on_case t) ∙ rows_append L (map emptying more) ∙ ap (λ (l : List ℕ). rows_of L ++ l) (rows_emptying more)

    made-cases : (e : Edit) → e ∈ made → (e ∈ L) ⊎ ((e.row ∈ more) × (e.value ≡ empty))
    made-cases e m =
        either on
        (λ t. ⊎_elim inl (λ k. let (o, i, q) = Memᴰ.of_map emptying more k in inr (rw (← q) i, rw (← q))) (Memᴰ.append_cases L (rw (on_case t) at m)))
        (λ f. inl (rw (off_case f) at m))

    pub lifted-more : Lifted B on made
    lifted-more = record {
      emptied = λ e m. ⊎_elim (w.emptied e) (λ (k, q). q) (made-cases e m);
      optional = λ e m. ⊎_elim (w.optional e) (λ (k, q). (more_iff_1 e.row k).1) (made-cases e m);
      within = λ e m. ⊎_elim (w.within e) (λ (k, q). (more_iff_1 e.row k).0) (made-cases e m);
      apart = either on (λ t. rw (made_rows t) (distinct_append (rows_of L) more w.apart more_apart (λ o m. (more_iff_1 o m).2))) (λ f. rw (off_case f) w.apart);
      only = λ f. off_case f ∙ w.only f;
    }

    abbrev wide : ℕ → Bool
    wide = widened B r v real plain.no_key h D lifted_optional

    made-among : on ≡ true → (i : ℕ) → i < B.rows → among i (rows_of made) ≡ wide i
    unfolding displaceable_blockers
    made-among t i l =
        ap (among i) (made_rows t) ∙ among-append i (rows_of L) more
        ∙ ap (λ (b : Bool). D i || b)
        (same_test (among i more) _
        (λ m. rw (← after-lifted) ((all_of_below_iff _ B.rows i).0 (among_at i more m)).1)
        (λ b. among_of ((all_of_below_iff _ B.rows i).1 (l, rw (← after-lifted) at b))))

-- ---- who blocks then: those that would if displacement, where it is on, had emptied all it may

module _ (B : Board) (on : Bool) (h : Roster) (L : List Edit) (w : Lifted B on L) (plain : Plain B) (r v : ℕ) (legal : B.legal r v ≡ true) where
  pub way_down : (o : ℕ) → o < B.rows → blocks B (after h (displaced B on h r v L)) r v o ≡ blocks B (bare B on h) r v o
  unfolding without after
  way_down o l = either on yes-case no_case
    where
      made' : List Edit
      made' = displaced B on h r v L

      yes-case : on ≡ true → blocks B (after h made') r v o ≡ blocks B (bare B on h) r v o
      yes-case t =
          blocks_alike B (after h made') (without (wide B on h L w plain r v legal) h) r v
          (λ i k. ap (λ (g : Roster). g i) (after-lifted B on h made' (lifted-more B on h L w plain r v legal))
          ∙ ap (λ (b : Bool). cond b empty (h i)) (made-among B on h L w plain r v legal t i k)) o l
          ∙ settled B r v (plain.no_value r v legal) plain.no_key h (λ (i : ℕ). among i (rows_of L)) (lifted_optional B on h L w) o
          ∙ ap (λ (b : Bool). blocks B (without (λ (i : ℕ). b && displaceable B i) h) r v o) (sym t)

      no_case : on ≡ false → blocks B (after h made') r v o ≡ blocks B (bare B on h) r v o
      no_case f =
          blocks_alike B (after h made') (bare B on h) r v
          (λ i k. ap (λ (l : List Edit). after h l i) (off_case B on h L w plain r v legal f ∙ w.only f)
          ∙ sym (ap (λ (b : Bool). cond (b && displaceable B i) empty (h i)) f)) o l

  pub free_down : is_free B (after h (displaced B on h r v L)) r v ≡ is_free B (bare B on h) r v
  free_down = free_same B _ _ r v way_down

  pub required_down : first_required B (after h (displaced B on h r v L)) r v ≡ first_required B (bare B on h) r v
  required_down = required_same B _ _ r v way_down
