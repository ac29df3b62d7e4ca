-- From who is found to block on the way down to what a row and a value come to. Assumes nothing.
use Prim.Native.Nat.{ℕ}
use mathlib.Core.Path.{◌≡◌, refl, sym, ap, ap₂, ◌∙◌}
use mathlib.Core.Bool.{Bool, true, false, not, cond, ◌&&◌, ◌||◌}
use Rattle.std.specs.Prelude.{Option}
use lib.Dec.{eqb}
use Rattle.basics.specs.Tests.{all_below, first_from}
use Rattle.basics.proofs.Bools.{either, and_false}
use Rattle.basics.proofs.Below.{all_below-same}
use Rattle.rules.specs.Board.{Board}
use Rattle.rules.specs.Roster.{Roster}
use Rattle.search_rules.specs.Blockers.{shares, at_side, fits, blocks, is_free, displaceable, first_required}
use Rattle.search_rules.specs.Lifted.{bare, Plain}
use Rattle.search_rules.proofs.Displacing.{blocks-without}
use Rattle.search_rules.proofs.Lifting.{first-same}
use Rattle.path_blockers.specs.Seeking.{seen_allowed, blocks_seen}
use Rattle.path_steps.specs.declared.Prospect.TheVariants as prospect
use Rattle.path_clearance.specs.Clearance.{stays}
use Rattle.path_steps.specs.Prospects.{blocked_by, prospect_of}

pub twice : (b : Bool) → b ≡ not (not b)
twice true = refl
twice false = refl

module _ (B : Board) (on : Bool) (h : Roster) (r v : ℕ) where
  pub illegal : B.legal r v ≡ false → prospect.Fails ≡ prospect_of B on h r v
  unfolding prospect_of
  illegal f = rw f

  module _ (plain : Plain B) (legal : B.legal r v ≡ true) where
    -- those that are empty on the way down
    abbrev D : ℕ → Bool
    D o = on && displaceable B o

    abbrev blocked : Bool → ℕ → Bool
    blocked refused o = not (eqb o r) && (shares (B.capacity r v) (B.capacity o (h o)) || (refused && at_side B r v o (h o)))

    abbrev refusal : Bool
    refusal = B.rule && not (all_below B.rows (λ (o : ℕ). D o || fits B r v o (h o)))

    bare-blocks : (o : ℕ) → blocks B (bare B on h) r v o ≡ not (D o) && blocked refusal o
    bare-blocks o = blocks-without B r v (plain.no_value r v legal) plain.no_key h D o

    abbrev seen : ℕ → Bool
    seen = stays B.required on

    seen-is : (b : Bool) (o : ℕ) → not (stays B.required b o) ≡ b && displaceable B o
    unfolding stays
    seen-is true o = refl
    seen-is false o = refl

    refusal_is : B.rule && not (seen_allowed B h seen r v) ≡ refusal
    unfolding seen_allowed
    refusal_is = ap (λ (b : Bool). B.rule && not b) (all_below-same _ _ B.rows (λ o l. ap (λ (b : Bool). b || fits B r v o (h o)) (seen-is on o)))

    required_blocks : (o : ℕ) → blocks_seen B h seen B.required r v o ≡ B.required o && blocks B (bare B on h) r v o
    unfolding blocks_seen
    required_blocks o =
        ap (λ (b : Bool). B.required o && blocked b o) refusal_is
        ∙ either (B.required o)
        (λ t. ap (λ (b : Bool). B.required o && (not b && blocked refusal o)) (sym (ap (λ (b : Bool). on && not b) t ∙ and_false on)))
        (λ f. ap (λ (b : Bool). b && blocked refusal o) f ∙ sym (ap (λ (b : Bool). b && (not (D o) && blocked refusal o)) f))
        ∙ ap (λ (b : Bool). B.required o && b) (sym (bare-blocks o))

    seen-blocks : (o : ℕ) → blocks_seen B h seen seen r v o ≡ blocks B (bare B on h) r v o
    unfolding blocks_seen
    seen-blocks o =
        ap₂ (λ (a b : Bool). a && blocked b o) (twice (seen o) ∙ ap not (seen-is on o)) refusal_is ∙ sym (bare-blocks o)

    -- nobody who is there blocks, or the first required one does
    pub seen_prospect : cond (all_below B.rows (λ (o : ℕ). not (blocks_seen B h seen seen r v o))) prospect.Free (blocked_by (first_from (blocks_seen B h seen B.required r v) 0 B.rows))
        ≡ prospect_of B on h r v
    unfolding prospect_of is_free first_required
    seen_prospect =
        rw legal (ap₂ (λ (b : Bool) (u : Option ℕ). cond b prospect.Free (blocked_by u))
        (all_below-same _ _ B.rows (λ o l. ap not (seen-blocks o)))
        (first-same _ _ 0 B.rows (λ o l k. required_blocks o)))
