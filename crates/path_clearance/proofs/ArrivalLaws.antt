-- Whether an edit of a list leaves its row clear of another one. Assumes nothing.
use Prim.Native.Nat.{ℕ, ◌+◌, ◌-◌}
use mathlib.Core.Path.{◌≡◌, sym, ap, ◌∙◌}
use mathlib.Core.Bool.{Bool, true, false, not, ◌&&◌, ◌||◌}
use mathlib.Core.List.{List}
use Rattle.std.specs.Prelude.{Option, None, Some}
use Rattle.std.proofs.lemmas.Option.{none-some, same_Some}
use native.Mathlib.Omega.{arith}
use lib.ListN.{length, get_or, take, drop, length-drop}
use lib.Seq.{take_all}
use lib.Dec.{eqb}
use borrow.Author.Tests.{not-true, not-false, eq-eqb, ne_eqb, eqb-true}
use Rattle.basics.specs.Tests.{among, is}
use Rattle.basics.proofs.Bools.{either, same_test, and_left, and_right, and_join, or_left, or_right}
use Rattle.basics.proofs.Lists.{is_iff}
use Rattle.rules.specs.Board.{Board}
use Rattle.rules.specs.Neighbours.{follows, above, beside, beside_allowed}
use Rattle.rules.proofs.Edges.{beside_iff}
use Rattle.rules.proofs.Sequences.{above_iff}
use Rattle.rules.proofs.Around.{SmallSequences}
use Rattle.search_rules.specs.Blockers.{shares, fits}
use Rattle.overlay_pairs.specs.Pairs.{has_place}
use Rattle.path_clearance.specs.Clearance.{clear_of, arrival_clear}

-- ---- one edit

-- what is left of a list, as a part of it
pub rest-is : (xs : List ℕ) (i : ℕ) → take (length xs - i) (drop i xs) ≡ drop i xs
rest-is xs i = take_all (length xs - i) (drop i xs) (omega (arith, length-drop i xs))

module _ (B : Board) (rs vs : List ℕ) (r v i : ℕ) where
  pub arrival_itself : get_or rs i 0 ≡ r → true ≡ arrival_clear B rs vs r v i
  unfolding arrival_clear
  arrival_itself e = sym (or_left _ _ (eq-eqb (get_or rs i 0) r e))

  pub arrival-overruled : (b : Bool) → b ≡ among (get_or rs i 0) (drop (i + 1) rs) → b ≡ true → true ≡ arrival_clear B rs vs r v i
  unfolding arrival_clear
  arrival-overruled b e t = sym (or_right (eqb (get_or rs i 0) r) _ (or_left _ _ (sym e ∙ t)))

  pub arrival-judged : (get_or rs i 0 ≡ r → ⊥) → (b : Bool) → b ≡ among (get_or rs i 0) (drop (i + 1) rs) → b ≡ false → (c : Bool) → c ≡ clear_of B r v (get_or rs i 0) (get_or vs i 0) → c ≡ arrival_clear B rs vs r v i
  unfolding arrival_clear
  arrival-judged n b e f c g = g ∙ rw (ne_eqb (get_or rs i 0) r n, sym e ∙ f)

-- ---- two holdings

both_sides : (x y a c : Bool) → x ≡ false → y ≡ true → not x && (not y || (a && c)) ≡ a && c
both_sides x y a c p q = rw (p, q)

module _ (B : Board) (r v o w : ℕ) where
  module _ (a : Bool) (e : a ≡ shares (B.capacity r v) (B.capacity o w)) where
    pub key_shared : a ≡ true → false ≡ clear_of B r v o w
    unfolding clear_of
    key_shared t = rw (sym e ∙ t)

    module _ (n : a ≡ false) (b : Bool) (f : b ≡ B.rule) where
      pub rule_absent : not b ≡ true → true ≡ clear_of B r v o w
      unfolding clear_of
      rule_absent t = rw (sym e ∙ n, sym f ∙ not-true b t)

      module _ (y : not b ≡ false) (c : Bool) (g : c ≡ beside_allowed B o w r v) where
        pub before-refused : not c ≡ true → false ≡ clear_of B r v o w
        unfolding clear_of fits
        before-refused t = sym (both_sides (shares (B.capacity r v) (B.capacity o w)) B.rule (beside_allowed B o w r v) (beside_allowed B r v o w) (sym e ∙ n) (sym f ∙ not-false b y) ∙ ap (λ (x : Bool). x && beside_allowed B r v o w) (sym g ∙ not-true c t))

        pub behind_decides : not c ≡ false → (d : Bool) → d ≡ beside_allowed B r v o w → d ≡ clear_of B r v o w
        unfolding clear_of fits
        behind_decides t d z = z ∙ sym (both_sides (shares (B.capacity r v) (B.capacity o w)) B.rule (beside_allowed B o w r v) (beside_allowed B r v o w) (sym e ∙ n) (sym f ∙ not-false b y) ∙ ap (λ (x : Bool). x && beside_allowed B r v o w) (sym g ∙ not-false c t))

module _ (B : Board) (l u s w : ℕ) (b : Bool) (e : b ≡ beside B l u s w) where
  pub edge_decides : b ≡ true → (d : Bool) → d ≡ B.edge l s → d ≡ beside_allowed B l u s w
  unfolding beside_allowed
  edge_decides t d z = z ∙ rw (sym e ∙ t)

  pub apart_allowed : b ≡ false → true ≡ beside_allowed B l u s w
  unfolding beside_allowed
  apart_allowed f = rw (sym e ∙ f)

pub shares_at : (x : Option ℕ) (k : ℕ) (y : Option ℕ) → x ≡ Some k → (b : Bool) → b ≡ is k y → b ≡ shares x y
unfolding shares
shares_at x k y e b f = rw e f

pub shares-nothing : (x y : Option ℕ) → x ≡ None → false ≡ shares x y
unfolding shares
shares-nothing x y e = rw e

-- ---- who stands right before whom

module _ (B : Board) (l u r w : ℕ) where
  pub not_before_itself : l ≡ r → false ≡ beside B l u r w
  not_before_itself e = either (beside B l u r w) (λ t. absurd (((beside_iff B l u r w).0 t).apart e)) (λ f. sym f)

  pub not_before : B.sequence l u ≡ None → false ≡ beside B l u r w
  not_before e = either (beside B l u r w) (λ t. absurd (none-some _ (sym e ∙ ((beside_iff B l u r w).0 t).at_left))) (λ f. sym f)

  module _ (small : SmallSequences B) (s : ℕ) (at : B.sequence l u ≡ Some s) where
    pub nothing-behind : above B s ≡ None → false ≡ beside B l u r w
    nothing-behind e =
        either (beside B l u r w)
        (λ t. let b = (beside_iff B l u r w).0 t in
        let q : b.left ≡ s = same_Some b.left s (sym b.at_left ∙ at) in
        absurd (none-some _ (sym e ∙ (above_iff B s b.right (small r w b.right b.at_right)).0 (ap (λ (x : ℕ). follows B x b.right) (sym q) ∙ b.next))))
        (λ f. sym f)

    pub place_decides : (l ≡ r → ⊥) → (t : ℕ) → above B s ≡ Some t → (b : Bool) → b ≡ has_place B.sequence u t r w → b ≡ beside B l u r w
    unfolding has_place
    place_decides n t e b f =
        f ∙ same_test _ _
        (λ z. let q = (is_iff t (B.sequence r w)).0 (and_right (eqb w u) _ z) in
        (beside_iff B l u r w).1 (record { one = sym (eqb-true w u (and_left (eqb w u) _ z)); apart = n; left = s; right = t; at_left = at; at_right = q; next = (above_iff B s t (small r w t q)).1 e }))
        (λ z. let b = (beside_iff B l u r w).0 z in
        let q : b.left ≡ s = same_Some b.left s (sym b.at_left ∙ at) in
        let c = (above_iff B s b.right (small r w b.right b.at_right)).0 (ap (λ (x : ℕ). follows B x b.right) (sym q) ∙ b.next) in
        and_join (eq-eqb w u (sym b.one)) ((is_iff t (B.sequence r w)).1 (b.at_right ∙ sym c ∙ e)))
