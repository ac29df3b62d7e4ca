-- `lent_cursor::next_augmenting_rematch_at` meets its contract: the step by value decides, and three numbers of the lent cursor become those that it leads to. Assumes nothing.
use Rattle.lent_cursor.proofs.LentLaws.{lent_step}
use Rattle.lent_cursor.proofs.next_augmenting_rematch_at.Goals as goal

pub returns : goal.returns
returns c = lent_step c.args.tables.now.shape c.args.tables.now.marks.now c.args.tables.now.keys.now c.args.tables.now.ranks.now c.args.index.now.records.now c.args.index.now.members.now c.args.order.now c.args.cursor.now c.args.out_rows.now c.args.out_values.now c.step_from-step.result _ _ c.step_from-step.ensures
