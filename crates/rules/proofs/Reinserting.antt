-- What it says that a list lets a row take a value: the law of the reinsertion test. Assumes nothing.
use Prim.Native.Nat.{ℕ, ◌<◌}
use mathlib.Core.Path.{◌≡◌}
use mathlib.Core.Logic.{◌↔◌}
use mathlib.Core.Bool.{true}
use mathlib.Core.List.{List}
use Rattle.basics.specs.Edits.{Edit}
use Rattle.basics.proofs.Bools.{and_left, and_right, and_join, implies}
use Rattle.basics.proofs.Below.{all_below_at, all_below_of}
use Rattle.rules.specs.Board.{Board}
use Rattle.rules.specs.Roster.{Roster, after}
use Rattle.rules.specs.Neighbours.{beside, beside_allowed}
use Rattle.rules.specs.FinalTest.{reads, key_at}
use Rattle.rules.specs.Reinsertion.{beside_passes, reinserts, Reinsertable}
use Rattle.rules.proofs.Reading.{reads_iff}
use Rattle.rules.proofs.Holders.{key_at_iff}
use Rattle.rules.proofs.Edges.{beside-allowed_iff}

-- 5.3: both sides of the named row
pub beside-passes_iff : (B : Board) (h : Roster) (r v : ℕ) → beside_passes B h r v ≡ true
    ↔ ((o : ℕ) → o < B.rows → (beside B o (h o) r v ≡ true → B.edge o r ≡ true) × (beside B r v o (h o) ≡ true → B.edge r o ≡ true))
unfolding beside_passes
beside-passes_iff B h r v = (
  λ t o l.
      let both = all_below_at _ B.rows t o l in (
        (beside-allowed_iff B o (h o) r v).0 (and_left (beside_allowed B o (h o) r v) _ both),
        (beside-allowed_iff B r v o (h o)).0 (and_right (beside_allowed B o (h o) r v) _ both),
      ),
  λ f. all_below_of _ B.rows (λ o l. and_join ((beside-allowed_iff B o (h o) r v).1 (f o l).0) ((beside-allowed_iff B r v o (h o)).1 (f o l).1)),
)

pub reinserts_iff : (B : Board) (h : Roster) (L : List Edit) (r v : ℕ) → reinserts B h L r v ≡ true ↔ Reinsertable B h L r v
unfolding reinserts
reinserts_iff B h L r v = (
  λ t.
      let read = (reads_iff B L).0 (and_left (reads B L) _ t) in
      let judged = and_right (reads B L) _ t in
      let edges = (implies B.rule (beside_passes B (after h L) r v)).0 (and_right (key_at B (after h L) r v) _ judged) in
      record {
        apart = read.0;
        each = read.1;
        key = (key_at_iff B (after h L) r v).0 (and_left (key_at B (after h L) r v) _ judged);
        before = λ on o l. ((beside-passes_iff B (after h L) r v).0 (edges on) o l).0;
        behind = λ on o l. ((beside-passes_iff B (after h L) r v).0 (edges on) o l).1;
      },
  λ w.
      and_join ((reads_iff B L).1 (w.apart, w.each))
      (and_join ((key_at_iff B (after h L) r v).1 w.key)
      ((implies B.rule (beside_passes B (after h L) r v)).1
      (λ on. (beside-passes_iff B (after h L) r v).1 (λ o l. (w.before on o l, w.behind on o l))))),
)
