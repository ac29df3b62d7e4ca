-- `engine::windows::turepawon_ejection_reinsert_edits` meets its contract. Assumes nothing.
use Rattle.std.specs.Prelude.{ℕ, Option}
use Rattle.engine.proofs.CodeLaws.{ejection-told}
use Rattle.assignment_ejection.specs.Ejected.{ejecting}
use Rattle.engine.specs.Asked.{shaped}
use Rattle.engine.proofs.windows.turepawon_ejection_reinsert_edits.Goals as goal

pub returns : goal.returns
returns c = ejection-told _ _ _ (λ (l : Option ℕ). ejecting (shaped c.args.rows c.args.values c.args.edge_rule) c.args.marks.now c.args.keys.now c.args.ranks.now c.args.records.now c.args.members.now c.args.window.now c.args.attempt l c.args.out_rows.now c.args.out_values.now) _ _ _ _ _ _ _ c.limited-offered.ensures c.ejection_reinsert_edits-ejection.ensures c.list_told.ensures.0 c.list_told.ensures.1.0 c.list_told.ensures.1.1
