-- From the rows that the index has around a row and a value to what these come to. Assumes nothing.
use Prim.Native.Nat.{ℕ, zero, suc}
use mathlib.Core.Path.{◌≡◌, refl, ap, ap₂, ◌∙◌}
use mathlib.Core.Bool.{Bool, true, false, not, cond, ◌&&◌}
use mathlib.Core.List.{List, [], ◌++◌}
use Rattle.std.specs.Prelude.{Option, None, Some}
use lib.Dec.{lit<}
use Rattle.basics.specs.Tests.{all, all_of_below}
use Rattle.basics.proofs.Bools.{either, clash, and_false}
use Rattle.rules.specs.Board.{Board}
use Rattle.rules.specs.Neighbours.{below, above}
use Rattle.rules.proofs.Around.{SmallSequences}
use Rattle.assignment_tables.specs.declared.Shape.{Shape}
use Rattle.assignment_tables.specs.Tables.{board, required_at, legal_at, capacity_at, sequence_at, rule_of}
use Rattle.assignment_index.specs.Index.{roster_in, Indexed, by_sequence}
use Rattle.assignment_index.proofs.Changes.{records_long, members_long, part-now}
use Rattle.search_rules.specs.Blockers.{shares}
use Rattle.path_blockers.specs.Seeking.{sides_allow, standing_at, Around}
use Rattle.path_blockers.proofs.RowLaws.{standing_some, standing_none, no_below, no_above, below-listed, above_listed}
use Rattle.path_steps.specs.declared.Prospect.{Prospect}
use Rattle.path_clearance.specs.Clearance.{stays}
use Rattle.path_steps.specs.Prospects.{prospect_of}
use Rattle.path_steps.specs.Judging.{prospect_among, may_block, rows_if, Sequenced}
use Rattle.path_steps.proofs.JudgeLaws.{around_prospect}

nobody_refuses : (S : Shape) (m : List ℕ) (on : Bool) (r : ℕ) → rule_of S && not (sides_allow S m (stays (required_at S m) on) r [] []) ≡ false
unfolding sides_allow all
nobody_refuses S m on r = and_false (rule_of S)

-- the sides of a sequence do not depend on the board
below_one : (B D : Board) (s : ℕ) → below B s ≡ below D s
unfolding below
below_one B D zero = refl
below_one B D (suc s) = refl

above_one : (B D : Board) (s : ℕ) → above B s ≡ above D s
unfolding above
above_one B D s = refl

module _ (S : Shape) (m k R M : List ℕ) (w : Indexed S m k R M) where
  pub index_sequenced : Sequenced S.rows R M
  index_sequenced = record {
    few = w.marked.small.few_rows;
    records_long = records_long S m k R M w;
    members_long = members_long S m k R M w;
    part_right = part-now S m k R M w 2 (lit< tt);
  }

  rows_standing : (v : ℕ) (u : Option ℕ) → rows_if S R v u ≡ all_of_below S.rows (standing_at S m k R v u)
  unfolding rows_if
  rows_standing v None = standing_none S m k R M w v None refl
  rows_standing v (Some s) = standing_some S m k R M w v (Some s) s refl by_sequence refl _ refl

  module _ (on : Bool) (r v : ℕ) (legal : legal_at S m r v ≡ true) (H : List ℕ)
      (holding : H ≡ all_of_below S.rows (λ (o : ℕ). shares (capacity_at S m k r v) (capacity_at S m k o (roster_in S.rows R o)))) (z : Prospect) where
    abbrev answer : Prospect
    answer = prospect_of (board S m k) on (roster_in S.rows R) r v

    -- without the edge rule, only the holders of the key
    pub without_rule : rule_of S ≡ false → z ≡ prospect_among S m on r H → z ≡ answer
    without_rule f e =
        e ∙ around_prospect S m k R on r v H [] [] (record {
          holding = holding;
          before = λ t. absurd (clash t f);
          behind = λ t. absurd (clash t f);
        }) w.marked legal false (ap (λ (b : Bool). b && not (sides_allow S m (stays (required_at S m) on) r [] [])) f)

    -- without a place, too
    pub without-place : sequence_at S m k r v ≡ None → z ≡ prospect_among S m on r H → z ≡ answer
    without-place f e =
        e ∙ around_prospect S m k R on r v H [] [] (record {
          holding = holding;
          before = λ t. no_below S m k R M w r v f;
          behind = λ t. no_above S m k R M w r v f;
        }) w.marked legal false (nobody_refuses S m on r)

    -- under it, the rows at both sides
    module _ (rule : rule_of S ≡ true) (s : ℕ) (at : sequence_at S m k r v ≡ Some s) (small : SmallSequences (board S m k)) where
      abbrev B : List ℕ
      B = rows_if S R v (below (board S m k) s)

      abbrev A : List ℕ
      A = rows_if S R v (above (board S m k) s)

      around : Around S m k R r v H B A
      around = record {
        holding = holding;
        before = λ t. below-listed S m k R M w r v s at _ refl B (rows_standing v (below (board S m k) s));
        behind = λ t. above_listed S m k R M w r v s at small _ refl A (rows_standing v (above (board S m k) s));
      }

      pub at_place : z ≡ prospect_among S m on r (may_block S m on r H B A) → z ≡ answer
      unfolding may_block
      at_place e =
          e ∙ either (sides_allow S m (stays (required_at S m) on) r B A)
          (λ t. rw t (judged false (ap₂ (λ (a b : Bool). a && not b) rule t)))
          (λ f. rw f (judged true (ap₂ (λ (a b : Bool). a && not b) rule f)))
        where
          judged : (c : Bool) → rule_of S && not (sides_allow S m (stays (required_at S m) on) r B A) ≡ c → prospect_among S m on r (cond c (H ++ (B ++ A)) H) ≡ answer
          judged c g = around_prospect S m k R on r v H B A around w.marked legal c g
