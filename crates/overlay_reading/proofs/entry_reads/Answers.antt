-- `overlay_reading::entry_reads` meets its contract. Assumes nothing.
use Rattle.overlay_reading.proofs.ReadLaws.{unfit, named-once}
use borrow.Author.Rules.{rules}
use Rattle.overlay_reading.proofs.entry_reads.Goals as goal

pub returns-then-not-edit_fits : goal.returns-then-not-edit_fits
returns-then-not-edit_fits c = search (rules, unfit)

pub returns : goal.returns
returns c = search (rules, named-once)
