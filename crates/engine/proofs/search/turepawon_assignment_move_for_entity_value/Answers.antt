-- `engine::search::turepawon_assignment_move_for_entity_value` meets its contract. Assumes nothing.
use Rattle.std.specs.Prelude.{ℕ, Option}
use mathlib.Core.Bool.{Bool}
use Rattle.engine.proofs.CodeLaws.{search-told}
use Rattle.assignment_path.specs.Searching.{searching}
use Rattle.engine.specs.Asked.{shaped}
use Rattle.engine.proofs.search.turepawon_assignment_move_for_entity_value.Goals as goal

pub returns : goal.returns
returns c = search-told _ _ _ (λ (d : Bool) (l : Option ℕ). searching (shaped c.args.rows c.args.values c.args.edge_rule) c.args.marks.now c.args.keys.now c.args.ranks.now c.args.records.now c.args.members.now c.args.row c.args.value c.args.depth d l c.args.budget c.args.out_rows.now c.args.out_values.now) _ _ _ _ _ _ _ _ _ _ _ c.displaces-displacing.ensures c.limited-offered.ensures c.assignment_move_for_entity_value-search.ensures c.code.ensures c.search_flag.ensures c.search_asks.ensures c.search_count.ensures
