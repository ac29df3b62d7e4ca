-- When two rows are neighbours, and what the edge rule's tests say of them. No other law opens `beside` or `followed`. Assumes nothing.
use Prim.Native.Nat.{ℕ, ◌<◌}
use mathlib.Core.Path.{◌≡◌, refl, sym, ap, ◌∙◌}
use mathlib.Core.Logic.{◌↔◌, ◌⊎◌, inl, inr, ⊎_elim}
use mathlib.Core.Bool.{true, not, ◌&&◌, ◌||◌}
use Rattle.std.specs.Prelude.{Option, None, Some}
use Rattle.std.proofs.lemmas.Option.{none-some, same_Some}
use lib.Dec.{eqb}
use borrow.Author.Tests.{eqb-true, eqb-false, eq-eqb, ne_eqb, not-true}
use Rattle.basics.specs.Tests.{is}
use Rattle.basics.proofs.Bools.{clash, and_left, and_right, and_join, or_left, or_right, or_cases, implies}
use Rattle.basics.proofs.Lists.{is_iff}
use Rattle.basics.proofs.Below.{all_below_at, all_below_of}
use Rattle.rules.specs.Board.{Board}
use Rattle.rules.specs.Roster.{Roster, held_sequence, stands}
use Rattle.rules.specs.Neighbours.{follows, followed, beside, beside_allowed, neighbours}
use Rattle.rules.specs.FinalTest.{place_passes, place_at}
use Rattle.rules.proofs.Sequences.{follows-another}

-- the row l with the value u stands right before the row r with the value w
pub record Beside (B : Board) (l u r w : ℕ) : Type 0 where
  pub one : u ≡ w
  pub apart : l ≡ r → ⊥
  pub left : ℕ
  pub right : ℕ
  pub at_left : B.sequence l u ≡ Some left
  pub at_right : B.sequence r w ≡ Some right
  pub next : follows B left right ≡ true

module _ (B : Board) where
  followed_of : (o u : Option ℕ) → followed B o u ≡ true → (s t : ℕ) × (o ≡ Some s) × (u ≡ Some t) × (follows B s t ≡ true)
  unfolding followed
  followed_of None u h = absurd (clash h refl)
  followed_of (Some s) None h = absurd (clash h refl)
  followed_of (Some s) (Some t) h = (s, t, refl, refl, h)

  followed_at : (s t : ℕ) → followed B (Some s) (Some t) ≡ follows B s t
  unfolding followed
  followed_at s t = refl

  pub beside_iff : (l u r w : ℕ) → beside B l u r w ≡ true ↔ Beside B l u r w
  unfolding beside
  beside_iff l u r w = (
    λ h.
        let rest = and_right (eqb u w) _ h in
        let (s, t, p, q, n) = followed_of (B.sequence l u) (B.sequence r w) (and_right (not (eqb l r)) _ rest) in
        record {
          one = eqb-true u w (and_left (eqb u w) _ h);
          apart = eqb-false l r (not-true _ (and_left (not (eqb l r)) _ rest));
          left = s;
          right = t;
          at_left = p;
          at_right = q;
          next = n;
        },
    λ b. and_join (eq-eqb u w b.one)
        (and_join (ap not (ne_eqb l r b.apart)) (rw (b.at_left, b.at_right, followed_at b.left b.right) b.next)),
  )

  -- `pair_allowed` is this at the values that a roster has the rows hold
  pub beside-allowed_iff : (l u r w : ℕ) → beside_allowed B l u r w ≡ true ↔ (beside B l u r w ≡ true → B.edge l r ≡ true)
  unfolding beside_allowed
  beside-allowed_iff l u r w = implies (beside B l u r w) (B.edge l r)

  -- only the row's own value counts
  pub stands_alike : (g h : Roster) (v s r : ℕ) → g r ≡ h r → stands B g v s r ≡ stands B h v s r
  unfolding stands
  stands_alike g h v s r e = ap (λ (w : ℕ). eqb w v && is s (B.sequence r w)) e

  module _ (h : Roster) where
    pub stands_iff : (v s r : ℕ) → stands B h v s r ≡ true ↔ ((h r ≡ v) × (held_sequence B h r ≡ Some s))
    unfolding stands
    stands_iff v s r = (
      λ t. (eqb-true (h r) v (and_left (eqb (h r) v) _ t), (is_iff s _).0 (and_right (eqb (h r) v) _ t)),
      λ (p, q). and_join (eq-eqb (h r) v p) ((is_iff s _).1 q),
    )

    -- a row stands at one place
    pub one_stand : (v u s t r : ℕ) → stands B h v s r ≡ true → stands B h u t r ≡ true → (v ≡ u) × (s ≡ t)
    one_stand v u s t r a b =
        let (p, i) = (stands_iff v s r).0 a in
        let (q, j) = (stands_iff u t r).0 b in
        (sym p ∙ q, same_Some s t (sym i ∙ j))

    -- two rows are neighbours where they stand at places of one value of which one follows the other
    pub neighbours_iff : (l r : ℕ) → neighbours B h l r ≡ true
        ↔ ((v s t : ℕ) × (stands B h v s l ≡ true) × (stands B h v t r ≡ true) × (follows B s t ≡ true))
    neighbours_iff l r = (
      λ a. let b = (beside_iff l (h l) r (h r)).0 a in
          (h l, b.left, b.right, (stands_iff (h l) b.left l).1 (refl, b.at_left), (stands_iff (h l) b.right r).1 (sym b.one, b.at_right), b.next),
      λ (v, s, t, x, y, n).
          let (p, i) = (stands_iff v s l).0 x in
          let (q, j) = (stands_iff v t r).0 y in
          (beside_iff l (h l) r (h r)).1 (record {
            one = p ∙ sym q;
            apart = λ e. follows-another B s t n (one_stand v v s t r (rw e at x) y).1;
            left = s;
            right = t;
            at_left = i;
            at_right = j;
            next = n;
          }),
    )

    -- every two neighbours of which one stands at the place are an allowed pair
    abbrev pub AllowedAround : ℕ → ℕ → Type 0
    AllowedAround v s =
        (l r : ℕ) → l < B.rows → r < B.rows → (stands B h v s l ≡ true) ⊎ (stands B h v s r ≡ true) → neighbours B h l r ≡ true → B.edge l r ≡ true

    pub place-passes_iff : (v : ℕ) (o : Option ℕ) → place_passes B h v o ≡ true ↔ ((s : ℕ) → o ≡ Some s → AllowedAround v s)
    unfolding place_passes
    place-passes_iff v None = (λ t s e. absurd (none-some s e), λ f. refl)
    place-passes_iff v (Some n) = (
      λ t s e l r hl hr w.
          let same : n ≡ s = same_Some n s e in
          let one = stands B h v n l || stands B h v n r in
          let here : one ≡ true = rw same (⊎_elim (or_left _ _) (or_right (stands B h v s l) _) w) in
          (beside-allowed_iff l (h l) r (h r)).0 ((implies one _).0 (all_below_at _ B.rows (all_below_at _ B.rows t l hl) r hr) here),
      λ f. all_below_of _ B.rows (λ l hl. all_below_of _ B.rows (λ r hr. (implies (stands B h v n l || stands B h v n r) _).1
          (λ w. (beside-allowed_iff l (h l) r (h r)).1 (f n refl l r hl hr (or_cases (stands B h v n l) _ w))))),
    )

    pub place_at_iff : (r v : ℕ) → place_at B h r v ≡ true ↔ (B.rule ≡ true → (s : ℕ) → B.sequence r v ≡ Some s → AllowedAround v s)
    unfolding place_at
    place_at_iff r v = (
      λ t on. (place-passes_iff v (B.sequence r v)).0 ((implies B.rule _).0 t on),
      λ f. (implies B.rule _).1 (λ on. (place-passes_iff v (B.sequence r v)).1 (f on)),
    )

    -- where the place of a row passes, the row and its neighbours are allowed pairs
    module _ (on : B.rule ≡ true) {l r : ℕ} (hl : l < B.rows) (hr : r < B.rows) (a : neighbours B h l r ≡ true) where
      pub allowed-left : place_at B h l (h l) ≡ true → B.edge l r ≡ true
      allowed-left t =
          let b = (beside_iff l (h l) r (h r)).0 a in
          (place_at_iff l (h l)).0 t on b.left b.at_left l r hl hr (inl ((stands_iff (h l) b.left l).1 (refl, b.at_left))) a

      pub allowed-right : place_at B h r (h r) ≡ true → B.edge l r ≡ true
      allowed-right t =
          let b = (beside_iff l (h l) r (h r)).0 a in
          (place_at_iff r (h r)).0 t on b.right b.at_right l r hl hr (inr ((stands_iff (h r) b.right r).1 (refl, b.at_right))) a
