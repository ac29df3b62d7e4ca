-- What the parts of the index list, in the words of the search: the holders of a key, and the rows at a side. Assumes nothing.
use Prim.Native.Nat.{ℕ, zero, suc, ◌+◌}
use mathlib.Core.Path.{◌≡◌, refl, sym, ap, ◌∙◌}
use mathlib.Core.Logic.{◌↔◌}
use mathlib.Core.Bool.{Bool, true, false}
use mathlib.Core.List.{List, []}
use Rattle.std.specs.Prelude.{Option, None, Some}
use Rattle.std.proofs.lemmas.Option.{none-some, same_Some}
use lib.ListN.{length}
use lib.Dec.{eqb, lit<}
use borrow.Author.Tests.{eqb-true, eq-eqb}
use Rattle.basics.specs.Tests.{all_of_below}
use Rattle.basics.proofs.Bools.{either, same_test, and_left, and_right, and_join, clash}
use Rattle.basics.proofs.Lists.{is_iff}
use Rattle.basics.proofs.Below.{all_of_below-same, all_of_below_none, all_of_below_no}
use Rattle.rules.specs.Board.{Board}
use Rattle.rules.specs.Roster.{Roster}
use Rattle.rules.specs.Neighbours.{follows, below, above, beside}
use Rattle.rules.proofs.Sequences.{follows-another, below_iff, above_iff}
use Rattle.rules.proofs.Edges.{beside_iff}
use Rattle.rules.proofs.Around.{SmallSequences}
use Rattle.membership.specs.Canonical.{key_rows}
use Rattle.assignment_tables.specs.declared.Shape.{Shape}
use Rattle.assignment_tables.specs.Tables.{capacity_at, sequence_at, board}
use Rattle.assignment_index.specs.declared.columns.Part.{Part}
use Rattle.assignment_index.specs.Columns.{column, records_length, members_length, Named}
use Rattle.assignment_index.specs.Index.{roster_in, Indexed, part_of, by_capacity, by_sequence}
use Rattle.assignment_index.proofs.Changes.{part-named, records_long, members_long, part-now}
use Rattle.assignment_index.proofs.Found.{capacity_rows, place_rows}
use Rattle.search_rules.specs.Blockers.{shares}
use Rattle.path_blockers.specs.Seeking.{standing_at}

-- a test that no number passes lists none
none_listed : (p : ℕ → Bool) (n : ℕ) → ((o : ℕ) → p o ≡ false) → [] ≡ all_of_below n p
none_listed p zero f = sym (all_of_below_none p)
none_listed p (suc n) f = none_listed p n f ∙ sym (all_of_below_no p n (f n))

module _ (S : Shape) (m k R M : List ℕ) (w : Indexed S m k R M) where
  abbrev h : Roster
  h = roster_in S.rows R

  abbrev listed : Part → ℕ → ℕ → List ℕ
  listed P high low = key_rows P.absent (column S.rows P.flags R) (column S.rows P.high R) (column S.rows P.low R) high low S.rows

  -- what reading a part asks
  abbrev Asked : Part → Type 0
  Asked P = Named S.rows P × (((length R ≡ records_length S.rows) × (length M ≡ members_length S.rows)) × (column (S.rows + 1) P.column M ≡ part_of S.rows P R))

  pub capacity_asked : (P : Part) → P ≡ by_capacity → Asked P
  capacity_asked P e = rw e (part-named S.rows 0 w.marked.small.few_rows, ((records_long S m k R M w, members_long S m k R M w), part-now S m k R M w 0 (lit< tt)))

  pub sequence_asked : (P : Part) → P ≡ by_sequence → Asked P
  sequence_asked P e = rw e (part-named S.rows 2 w.marked.small.few_rows, ((records_long S m k R M w, members_long S m k R M w), part-now S m k R M w 2 (lit< tt)))

  -- ---- the holders of a key

  module _ (row value : ℕ) (x : Option ℕ) (e : x ≡ capacity_at S m k row value) where
    abbrev sharing : ℕ → Bool
    sharing o = shares (capacity_at S m k row value) (capacity_at S m k o (h o))

    pub holders_at : (n : ℕ) → x ≡ Some n → (P : Part) → P ≡ by_capacity → (rows : List ℕ) → rows ≡ listed P n n → rows ≡ all_of_below S.rows sharing
    unfolding shares
    holders_at n f P q rows g =
        g ∙ rw q (capacity_rows S.rows (capacity_at S m k) (sequence_at S m k) h R w.records_right n
        ∙ ap (λ (o : Option ℕ). all_of_below S.rows (λ (i : ℕ). shares o (capacity_at S m k i (h i)))) (sym (sym e ∙ f)))

    pub holders_none : x ≡ None → [] ≡ all_of_below S.rows sharing
    unfolding shares
    holders_none f = none_listed sharing S.rows (λ o. ap (λ (z : Option ℕ). shares z (capacity_at S m k o (h o))) (sym e ∙ f))

  -- ---- the rows at a place

  pub standing_some : (value : ℕ) (x : Option ℕ) (s : ℕ) → x ≡ Some s → (P : Part) → P ≡ by_sequence → (rows : List ℕ) → rows ≡ listed P value s
      → rows ≡ all_of_below S.rows (standing_at S m k R value x)
  unfolding standing_at
  standing_some value x s f P q rows g = g ∙ rw (q, f) (place_rows S.rows (capacity_at S m k) (sequence_at S m k) h R w.records_right value s)

  pub standing_none : (value : ℕ) (x : Option ℕ) → x ≡ None → [] ≡ all_of_below S.rows (standing_at S m k R value x)
  unfolding standing_at
  standing_none value x f = none_listed _ S.rows (λ o. rw f)

  -- ---- the rows at the two sides

  module _ (row value : ℕ) where
    abbrev B : Board
    B = board S m k

    standing_iff : (u : Option ℕ) (o : ℕ) → standing_at S m k R value u o ≡ true ↔ ((t : ℕ) × (u ≡ Some t) × (h o ≡ value) × (sequence_at S m k o (h o) ≡ Some t))
    unfolding standing_at
    standing_iff None o = (λ z. absurd (clash z refl), λ (t, e, a, b). absurd (none-some t e))
    standing_iff (Some s) o = (
      λ z. (s, refl, eqb-true (h o) value (and_left (eqb (h o) value) _ z), (is_iff s _).0 (and_right (eqb (h o) value) _ z)),
      λ (t, e, a, b). and_join (eq-eqb (h o) value a) ((is_iff s _).1 (b ∙ sym e)),
    )

    -- without a sequence the row has no sides
    pub no_below : sequence_at S m k row value ≡ None → [] ≡ all_of_below S.rows (λ (o : ℕ). beside B o (h o) row value)
    no_below e = none_listed _ S.rows (λ o. either (beside B o (h o) row value) (λ z. absurd (none-some _ (sym e ∙ ((beside_iff B o (h o) row value).0 z).at_right))) (λ f. f))

    pub no_above : sequence_at S m k row value ≡ None → [] ≡ all_of_below S.rows (λ (o : ℕ). beside B row value o (h o))
    no_above e = none_listed _ S.rows (λ o. either (beside B row value o (h o)) (λ z. absurd (none-some _ (sym e ∙ ((beside_iff B row value o (h o)).0 z).at_left))) (λ f. f))

    module _ (s : ℕ) (at : sequence_at S m k row value ≡ Some s) where
      -- a row at a neighbouring sequence is another row
      another : (o t : ℕ) → (t ≡ s → ⊥) → h o ≡ value → sequence_at S m k o (h o) ≡ Some t → o ≡ row → ⊥
      another o t n a b e = n (same_Some t s (sym b ∙ ap (sequence_at S m k o) a ∙ ap (λ (i : ℕ). sequence_at S m k i value) e ∙ at))

      below-same : (o : ℕ) → standing_at S m k R value (below B s) o ≡ beside B o (h o) row value
      below-same o =
          same_test _ _
          (λ z. let (t, e, a, b) = (standing_iff (below B s) o).0 z in
          let n = (below_iff B s t).1 e in
          (beside_iff B o (h o) row value).1 (record { one = a; apart = another o t (follows-another B t s n) a b; left = t; right = s; at_left = b; at_right = at; next = n }))
          (λ z. let b = (beside_iff B o (h o) row value).0 z in
          let e : b.right ≡ s = same_Some b.right s (sym b.at_right ∙ at) in
          (standing_iff (below B s) o).1 (b.left, (below_iff B s b.left).0 (ap (follows B b.left) (sym e) ∙ b.next), b.one, b.at_left))

      above_same : SmallSequences B → (o : ℕ) → standing_at S m k R value (above B s) o ≡ beside B row value o (h o)
      above_same small o =
          same_test _ _
          (λ z. let (t, e, a, b) = (standing_iff (above B s) o).0 z in
          let n = (above_iff B s t (small o (h o) t b)).1 e in
          (beside_iff B row value o (h o)).1 (record { one = sym a; apart = λ q. another o t (λ q. follows-another B s t n (sym q)) a b (sym q); left = s; right = t; at_left = at; at_right = b; next = n }))
          (λ z. let b = (beside_iff B row value o (h o)).0 z in
          let e : b.left ≡ s = same_Some b.left s (sym b.at_left ∙ at) in
          (standing_iff (above B s) o).1 (b.right, (above_iff B s b.right (small o (h o) b.right b.at_right)).0 (ap (λ (x : ℕ). follows B x b.right) (sym e) ∙ b.next), sym b.one, b.at_right))

      pub below-listed : (x : Option ℕ) → x ≡ below B s → (rows : List ℕ) → rows ≡ all_of_below S.rows (standing_at S m k R value x)
          → rows ≡ all_of_below S.rows (λ (o : ℕ). beside B o (h o) row value)
      below-listed x e rows g =
          g ∙ ap (λ (u : Option ℕ). all_of_below S.rows (standing_at S m k R value u)) (e)
          ∙ all_of_below-same _ _ S.rows (λ o l. below-same o)

      pub above_listed : SmallSequences B → (x : Option ℕ) → x ≡ above B s → (rows : List ℕ) → rows ≡ all_of_below S.rows (standing_at S m k R value x)
          → rows ≡ all_of_below S.rows (λ (o : ℕ). beside B row value o (h o))
      above_listed small x e rows g =
          g ∙ ap (λ (u : Option ℕ). all_of_below S.rows (standing_at S m k R value u)) (e)
          ∙ all_of_below-same _ _ S.rows (λ o l. above_same small o)
