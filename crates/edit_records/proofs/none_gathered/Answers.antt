-- `edit_records::none_gathered` meets its contract. Assumes nothing.
use borrow.Author.Rules.{rules}
use Rattle.edit_records.specs.Records.{none_gathered}
use Rattle.edit_records.proofs.none_gathered.Goals as goal

pub returns : goal.returns
unfolding none_gathered
returns c = search rules
