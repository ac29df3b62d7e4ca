-- `edit_records::assignment_feasible_after_edit_records` meets its contract: what is gathered has the verdict of all records. Assumes nothing.
use Rattle.std.proofs.Common.{ap, ◌∙◌, take}
use Rattle.assignment_overlay.specs.Verdicts.{final_verdict}
use Rattle.edit_records.specs.declared.Gathered.{Gathered}
use Rattle.edit_records.proofs.GatherLaws.{few_gathered}
use Rattle.edit_records.proofs.LongLists.{same_verdict}
use Rattle.edit_records.proofs.assignment_feasible_after_edit_records.Goals as goal

pub gathered_feasible-requires : goal.gathered_feasible-requires
gathered_feasible-requires c = few_gathered c.args.edits.now c.gather-lists.result c.gather-lists.ensures

pub returns : goal.returns
returns c =
    c.gathered_feasible.ensures
    ∙ ap (λ (g : Gathered). final_verdict c.args.tables.now.shape c.args.tables.now.marks.now c.args.tables.now.keys.now c.args.tables.now.ranks.now c.args.index.now.records.now c.args.index.now.members.now (take g.count g.rows) (take g.count g.values)) c.gather-lists.ensures
    ∙ same_verdict c.args.tables.now.shape c.args.tables.now.marks.now c.args.tables.now.keys.now c.args.tables.now.ranks.now c.args.index.now.records.now c.args.index.now.members.now c.args.edits.now
