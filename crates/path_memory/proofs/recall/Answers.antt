-- `path_memory::recall` meets its contract: what is remembered is what would be judged. Assumes nothing.
use Rattle.assignment_tables.specs.Tables.{the_board}
use Rattle.assignment_index.specs.Index.{the_roster}
use Rattle.path_memory.proofs.MemoryLaws.{recalled, number_small, noted}
use Rattle.path_memory.proofs.recall.Goals as goal

pub returns-then-number-ne0 : goal.returns-then-number-ne0
returns-then-number-ne0 c = record { value = recalled c.args.tables.now.shape c.args.tables.now.marks.now c.args.tables.now.keys.now c.args.displace (the_roster c.args.tables.now c.args.index.now) c.args.memo.now c.requires.recalls c.args.row c.args.value _ c.number_at-number.ensures c.if-number-ne0.true _ c.prospect_of.ensures; recalls_2 = c.requires.recalls }

pub remember-requires : goal.remember-requires
remember-requires c = record { small = c.requires.indexed.marked.small; prospect_bound = number_small (the_board c.args.tables.now) c.args.displace (the_roster c.args.tables.now c.args.index.now) c.args.row c.args.value c.requires.indexed.marked.small.few_rows _ c.prospect-prospect.ensures }

pub returns : goal.returns
returns c = record { value = c.prospect-prospect.ensures; recalls_2 = noted c.args.tables.now.shape c.args.tables.now.marks.now c.args.tables.now.keys.now c.args.displace (the_roster c.args.tables.now c.args.index.now) c.args.memo.now c.requires.recalls c.args.row c.args.value _ c.prospect-prospect.ensures _ c.remember.ensures }
