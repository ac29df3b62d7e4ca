-- `engine::ejections::turepawon_next_ejection_reinsert` meets its contract. Assumes nothing.
use Rattle.std.specs.Prelude.{ℕ, Option}
use Rattle.engine.proofs.CodeLaws.{limited-step-told}
use Rattle.window_kinds.specs.Kinds.{cursor}
use Rattle.ejection_cycle.specs.Reinserting.{reinsert_stepping}
use Rattle.engine.specs.Asked.{shaped}
use Rattle.engine.proofs.ejections.turepawon_next_ejection_reinsert.Goals as goal

pub returns : goal.returns
returns c = limited-step-told _ _ _ (λ (l : Option ℕ). reinsert_stepping (shaped c.args.rows c.args.values c.args.edge_rule) c.args.marks.now c.args.keys.now c.args.ranks.now c.args.records.now c.args.members.now c.args.order.now l (cursor c.args.start.now c.args.length.now c.args.variant.now c.args.longest.now) c.args.out_rows.now c.args.out_values.now) _ _ _ _ _ _ _ c.limited-offered.ensures c.next_ejection_reinsert-step.ensures c.list_told.ensures.0 c.list_told.ensures.1.0 c.list_told.ensures.1.1
