-- From what is found in the parts of the index to the first blocker. Assumes nothing.
use Prim.Native.Nat.{ℕ, ◌≤◌, ◌<◌, min}
use mathlib.Core.Path.{◌≡◌, refl, sym, ap, ap₂, ◌∙◌}
use mathlib.Core.Bool.{Bool, true, false, not, cond, ◌&&◌, ◌||◌}
use mathlib.Core.List.{List}
use lib.Dec.{eqb}
use borrow.Author.Tests.{not-true, not-false, eq-eqb, ne_eqb}
use Rattle.basics.specs.Tests.{all, all_below, all_of_below, among}
use Rattle.basics.proofs.Bools.{either, same_test, and_join, and_false, or_left, implies}
use Rattle.basics.proofs.Lists.{all_at_lem, all_of, among_at, among_of}
use Rattle.basics.proofs.Below.{all_below_at, all_below_of, all_below-same, all_below_and, all_of_below_iff}
use Rattle.rules.specs.Board.{Board}
use Rattle.rules.specs.Roster.{Roster}
use Rattle.rules.specs.Neighbours.{beside, beside_allowed}
use Rattle.assignment_tables.specs.declared.Shape.{Shape}
use Rattle.assignment_tables.specs.Tables.{board, edge_at, rule_of}
use Rattle.assignment_index.specs.Index.{roster_in}
use Rattle.search_rules.specs.Blockers.{at_side, fits}
use Rattle.path_blockers.specs.Seeking.{Least, nearer, unlisted, is_sought, seen_allowed, blocks_seen, sides_allow, side_listed, blocks_listed, Around}
use Rattle.path_blockers.proofs.LeastLaws.{least-same, least_or, not_sought, is_better}

-- ---- who is looked for

module _ (required : ℕ → Bool) (rs : List ℕ) (optional : Bool) (o : ℕ) (b : Bool) where
  pub any_sought : not optional ≡ true → b ≡ unlisted rs o → b ≡ is_sought required rs optional o
  unfolding is_sought
  any_sought t e = e ∙ rw (not-true optional t)

  module _ (t : not optional ≡ false) (c : Bool) (f : c ≡ required o) where
    pub not_optional : c ≡ true → false ≡ is_sought required rs optional o
    unfolding is_sought
    not_optional y = rw (not-false optional t, sym f ∙ y)

    pub optional_sought : c ≡ false → b ≡ unlisted rs o → b ≡ is_sought required rs optional o
    unfolding is_sought
    optional_sought n e = e ∙ rw (not-false optional t, sym f ∙ n)

-- ---- tests of a list of the numbers that pass

pub listed_same : (p : ℕ → Bool) (n o : ℕ) → o < n → among o (all_of_below n p) ≡ p o
listed_same p n o l = same_test _ _ (λ t. ((all_of_below_iff p n o).0 (among_at o (all_of_below n p) t)).1) (λ t. among_of ((all_of_below_iff p n o).1 (l, t)))

all_listed : (p q : ℕ → Bool) (n : ℕ) → all q (all_of_below n p) ≡ all_below n (λ (o : ℕ). not (p o) || q o)
all_listed p q n =
    same_test _ _
    (λ t. all_below_of _ n (λ o l. (implies (p o) (q o)).1 (λ y. all_at_lem q t ((all_of_below_iff p n o).1 (l, y)))))
    (λ t. all_of q (all_of_below n p) (λ o i. let (l, y) = (all_of_below_iff p n o).0 i in (implies (p o) (q o)).0 (all_below_at _ n t o l) y))

-- ---- the pairs at both sides

module _ (B : Board) (h : Roster) (seen : ℕ → Bool) (r v : ℕ) where
  abbrev left : ℕ → Bool
  left o = beside B o (h o) r v

  abbrev right : ℕ → Bool
  right o = beside B r v o (h o)

  both : (a b x e f : Bool) → (not a || (x || e)) && (not b || (x || f)) ≡ x || ((not a || e) && (not b || f))
  both true true true e f = refl
  both true true false e f = refl
  both true false true e f = refl
  both true false false e f = refl
  both false true true e f = refl
  both false true false e f = refl
  both false false true e f = refl
  both false false false e f = refl

  sides : (below above : List ℕ) → below ≡ all_of_below B.rows left → above ≡ all_of_below B.rows right
      → all (λ (o : ℕ). not (seen o) || B.edge o r) below && all (λ (o : ℕ). not (seen o) || B.edge r o) above ≡ seen_allowed B h seen r v
  unfolding seen_allowed fits beside_allowed
  sides below above p q =
      rw (p, q, all_listed left (λ (o : ℕ). not (seen o) || B.edge o r) B.rows, all_listed right (λ (o : ℕ). not (seen o) || B.edge r o) B.rows)
      (sym (all_below_and (λ (o : ℕ). not (left o) || (not (seen o) || B.edge o r)) (λ (o : ℕ). not (right o) || (not (seen o) || B.edge r o)) B.rows)
      ∙ all_below-same _ _ B.rows (λ o l. both (left o) (right o) (not (seen o)) (B.edge o r) (B.edge r o)))

-- ---- the pairs with lists of rows

module _ (S : Shape) (m : List ℕ) (seen : ℕ → Bool) (r : ℕ) (below above : List ℕ) (b : Bool) (e : b ≡ all (λ (o : ℕ). not (seen o) || edge_at S m o r) below) where
  pub below_refuses : not b ≡ true → false ≡ sides_allow S m seen r below above
  unfolding sides_allow
  below_refuses t = rw (sym e ∙ not-true b t)

  pub both_allow : not b ≡ false → (d : Bool) → d ≡ all (λ (o : ℕ). not (seen o) || edge_at S m r o) above → d ≡ sides_allow S m seen r below above
  unfolding sides_allow
  both_allow t d g = g ∙ sym (ap (λ (x : Bool). x && all (λ (o : ℕ). not (seen o) || edge_at S m r o) above) (sym e ∙ not-false b t))

-- ---- the least of them

pub spread : (a b w : Bool) → (a && w) || (b && w) ≡ (a || b) && w
spread true true true = refl
spread true true false = refl
spread true false true = refl
spread true false false = refl
spread false b w = refl

module _ (S : Shape) (m : List ℕ) (seen pick : ℕ → Bool) (r i : ℕ) (holders below above : List ℕ) where
  abbrev wanted : ℕ → Bool
  wanted o = pick o && not (eqb o r)

  abbrev side : ℕ → Bool
  side o = among o below || among o above

  pub first-side : (x y : ℕ) → Least (λ (o : ℕ). among o below && wanted o) i S.rows x → Least (λ (o : ℕ). among o above && wanted o) i S.rows y
      → (z : ℕ) → z ≡ min x y → Least (side_listed pick r below above) i S.rows z
  first-side x y a b z e =
      rw e (least-same _ i S.rows _ (λ o l. spread (among o below) (among o above) (wanted o)) (min x y) (least_or _ i S.rows _ x y a b))

  holder_only : (a k w s : Bool) (c : Bool) → c ≡ false → a && (k && w) ≡ k && (w && (a || (c && s)))
  holder_only true true true s c e = refl
  holder_only true true false s c e = refl
  holder_only true false w s c e = refl
  holder_only false true true s c e = rw e
  holder_only false true false s c e = refl
  holder_only false false w s c e = refl

  either_way : (a k w s : Bool) (c : Bool) → c ≡ true → (a && (k && w)) || (s && (k && w)) ≡ k && (w && (a || (c && s)))
  either_way true true true s c e = refl
  either_way true true false true c e = refl
  either_way true true false false c e = refl
  either_way true false w true c e = refl
  either_way true false w false c e = refl
  either_way false true true true c e = rw e
  either_way false true true false c e = rw e
  either_way false true false true c e = refl
  either_way false true false false c e = refl
  either_way false false w true c e = refl
  either_way false false w false c e = refl

  module _ (x : ℕ) (a : Least (λ (o : ℕ). among o holders && wanted o) i S.rows x) where
    only : rule_of S && not (sides_allow S m seen r below above) ≡ false → Least (blocks_listed S m seen pick r holders below above) i S.rows x
    unfolding blocks_listed
    only f = least-same _ i S.rows _ (λ o l. holder_only (among o holders) (pick o) (not (eqb o r)) (side o) _ f) x a

    pub no_rule : (b : Bool) → b ≡ rule_of S → not b ≡ true → Least (blocks_listed S m seen pick r holders below above) i S.rows x
    no_rule b e t = only (ap (λ (c : Bool). c && not (sides_allow S m seen r below above)) (sym e ∙ not-true b t))

    pub rule_allows : (d : Bool) → d ≡ sides_allow S m seen r below above → d ≡ true → Least (blocks_listed S m seen pick r holders below above) i S.rows x
    rule_allows d e t = only (ap (λ (c : Bool). rule_of S && not c) (sym e ∙ t) ∙ and_false (rule_of S))

    pub rule_refuses : (b : Bool) → b ≡ rule_of S → not b ≡ false → (d : Bool) → d ≡ sides_allow S m seen r below above → d ≡ false
        → (y : ℕ) → Least (side_listed pick r below above) i S.rows y → (z : ℕ) → z ≡ min x y → Least (blocks_listed S m seen pick r holders below above) i S.rows z
    unfolding blocks_listed
    rule_refuses b e t d f g y s z q =
        let refused : rule_of S && not (sides_allow S m seen r below above) ≡ true = and_join (sym e ∙ not-false b t) (ap not (sym f ∙ g)) in
        rw q (least-same _ i S.rows _ (λ o l. either_way (among o holders) (pick o) (not (eqb o r)) (side o) _ refused) (min x y)
        (least_or _ i S.rows _ x y a s))

-- ---- the lists of a row and a value in the index

module _ (S : Shape) (m k R : List ℕ) (seen pick : ℕ → Bool) (r v : ℕ) (holders below above : List ℕ) (w : Around S m k R r v holders below above) where
  abbrev B : Board
  B = board S m k

  abbrev h : Roster
  h = roster_in S.rows R

  ruled : (o : ℕ) → o < S.rows → rule_of S ≡ true
      → (rule_of S && not (sides_allow S m seen r below above)) && (among o below || among o above) ≡ (rule_of S && not (seen_allowed B h seen r v)) && at_side B r v o (h o)
  unfolding sides_allow at_side
  ruled o l t =
      ap₂ (λ (x y : Bool). (rule_of S && not x) && y)
      (sides B h seen r v below above (w.before t) (w.behind t))
      (ap₂ (λ (x y : Bool). x || y)
      (ap (among o) (w.before t) ∙ listed_same (left B h seen r v) S.rows o l)
      (ap (among o) (w.behind t) ∙ listed_same (right B h seen r v) S.rows o l))

  pub blocks-same : (o : ℕ) → o < S.rows → blocks_listed S m seen pick r holders below above o ≡ blocks_seen B h seen pick r v o
  unfolding blocks_listed blocks_seen
  blocks-same o l =
      ap₂ (λ (x y : Bool). pick o && (not (eqb o r) && (x || y)))
      (ap (among o) w.holding ∙ listed_same _ S.rows o l)
      (either (rule_of S) (ruled o l)
      (λ f. ap (λ (c : Bool). (c && not (sides_allow S m seen r below above)) && (among o below || among o above)) f
      ∙ sym (ap (λ (c : Bool). (c && not (seen_allowed B h seen r v)) && at_side B r v o (h o)) f)))

  -- the first blocker among the lists is the first blocker
  pub around_least : (i x : ℕ) → Least (blocks_listed S m seen pick r holders below above) i S.rows x → Least (blocks_seen B h seen pick r v) i S.rows x
  around_least i x a = least-same _ i S.rows _ blocks-same x a

-- ---- one row

module _ (pick : ℕ → Bool) (r i o best : ℕ) where
  abbrev chosen : ℕ → Bool
  chosen x = pick x && not (eqb x r)

  pub itself : o ≡ r → best ≡ nearer chosen i o best
  itself e = not_sought chosen i o best (ap (λ (b : Bool). pick o && not b) (eq-eqb o r e) ∙ and_false (pick o))

  pub not_looked_for : (b : Bool) → b ≡ pick o → b ≡ false → best ≡ nearer chosen i o best
  not_looked_for b e f = not_sought chosen i o best (ap (λ (c : Bool). c && not (eqb o r)) (sym e ∙ f))

  pub found_better : i ≤ o → o < best → (o ≡ r → ⊥) → (b : Bool) → b ≡ pick o → b ≡ true → o ≡ nearer chosen i o best
  found_better a l n b e t = is_better chosen i o best a l (and_join (sym e ∙ t) (ap not (ne_eqb o r n)))

module _ (x right : Bool) (e f : Bool) where
  pub unseen : (b : Bool) → b ≡ x → not b ≡ true → true ≡ not x || cond right e f
  unseen b p t = sym (or_left (not x) _ (ap not (sym p) ∙ t))

  pub pair_right : (b : Bool) → b ≡ x → not b ≡ false → right ≡ true → (c : Bool) → c ≡ e → c ≡ not x || cond right e f
  pair_right b p t q c z = z ∙ rw (ap not (sym p) ∙ t, q)

  pub pair_left : (b : Bool) → b ≡ x → not b ≡ false → right ≡ false → (c : Bool) → c ≡ f → c ≡ not x || cond right e f
  pair_left b p t q c z = z ∙ rw (ap not (sym p) ∙ t, q)
