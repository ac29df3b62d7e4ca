-- `changed_edits::write_changed` meets its contract: rows and values are kept by the same test. Assumes nothing.
use Rattle.changed_edits.proofs.KeptLaws.{both-written}
use Rattle.changed_edits.proofs.write_changed.Goals as goal

pub returns : goal.returns
returns c = both-written _ _ _ c.args.out_rows.now c.args.out_values.now c.requires.list_rows_len.0 _ _ _ _ c.keep_changed-count.ensures c.keep_changed.ensures
