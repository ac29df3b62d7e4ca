-- `edit_records::gathered_feasible` meets its contract: the fronts of two local arrays go to the covered entry. Assumes nothing.
use Rattle.edit_records.proofs.GatherLaws.{room_for, as_many}
use borrow.Author.Rules.{rules}
use Rattle.edit_records.proofs.gathered_feasible.Goals as goal

pub slice_bounds-rows-end : goal.slice_bounds-rows-end
slice_bounds-rows-end c = room_for _ c.args.lists.rows c.requires (search rules)

pub slice_bounds-assignment_feasible_after_edits-end : goal.slice_bounds-assignment_feasible_after_edits-end
slice_bounds-assignment_feasible_after_edits-end c = as_many _ c.args.lists.rows c.requires (search rules)

pub slice_bounds-values-end : goal.slice_bounds-values-end
slice_bounds-values-end c = room_for _ c.args.lists.values c.requires (search rules)

pub slice_bounds-assignment_feasible_after_edits-end-2 : goal.slice_bounds-assignment_feasible_after_edits-end-2
slice_bounds-assignment_feasible_after_edits-end-2 c = as_many _ c.args.lists.values c.requires (search rules)
