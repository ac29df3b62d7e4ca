-- `path_memory::hopeless` meets its contract: what the memory has is what would be judged, and what is judged goes into it. Assumes nothing.
use mathlib.Core.Path.{◌∙◌}
use Rattle.assignment_tables.specs.Tables.{the_board}
use Rattle.assignment_index.specs.Index.{the_roster}
use Rattle.path_memory.proofs.MemoryLaws.{number_small, noted, fails_at_once, goes_deeper, told_flat, judged_flat, fails_not_free, free_is_free, blocked_not_free}
use Rattle.path_memory.proofs.hopeless.Goals as goal

pub returns-then-number-eq1 : goal.returns-then-number-eq1
returns-then-number-eq1 c = record { value = fails_at_once c.args.tables.now.shape c.args.tables.now.marks.now c.args.tables.now.keys.now c.args.displace (the_roster c.args.tables.now c.args.index.now) c.args.memo.now c.requires.recalls c.args.row c.args.value c.args.depth _ c.number_at-number.ensures c.if-number-eq1.true; recalls_2 = c.requires.recalls }

pub returns-then-depth-ne0 : goal.returns-then-depth-ne0
returns-then-depth-ne0 c = record { value = goes_deeper c.args.tables.now.shape c.args.tables.now.marks.now c.args.tables.now.keys.now c.args.displace (the_roster c.args.tables.now c.args.index.now) c.args.memo.now c.requires.recalls c.args.row c.args.value c.args.depth _ c.number_at-number.ensures c.if-number-eq1.false c.if-depth-ne0.true; recalls_2 = c.requires.recalls }

pub returns-then-number-ne0 : goal.returns-then-number-ne0
returns-then-number-ne0 c = record { value = told_flat c.args.tables.now.shape c.args.tables.now.marks.now c.args.tables.now.keys.now c.args.displace (the_roster c.args.tables.now c.args.index.now) c.args.memo.now c.requires.recalls c.args.row c.args.value c.args.depth _ c.number_at-number.ensures c.if-number-eq1.false c.if-depth-ne0.false c.if-number-ne0.true; recalls_2 = c.requires.recalls }

pub remember-requires : goal.remember-requires
remember-requires c = record { small = c.requires.indexed.marked.small; prospect_bound = number_small (the_board c.args.tables.now) c.args.displace (the_roster c.args.tables.now c.args.index.now) c.args.row c.args.value c.requires.indexed.marked.small.few_rows _ c.prospect-prospect.ensures }

pub returns-in-Fails : goal.returns-in-Fails
returns-in-Fails c = record { value = fails_not_free ∙ judged_flat c.args.tables.now.shape c.args.tables.now.marks.now c.args.tables.now.keys.now c.args.displace (the_roster c.args.tables.now c.args.index.now) c.args.memo.now c.requires.recalls c.args.row c.args.value c.args.depth c.if-depth-ne0.false _ _ c.prospect-prospect.ensures c.in-Fails.is; recalls_2 = noted c.args.tables.now.shape c.args.tables.now.marks.now c.args.tables.now.keys.now c.args.displace (the_roster c.args.tables.now c.args.index.now) c.args.memo.now c.requires.recalls c.args.row c.args.value _ c.prospect-prospect.ensures _ c.remember.ensures }

pub returns-in-Free : goal.returns-in-Free
returns-in-Free c = record { value = free_is_free ∙ judged_flat c.args.tables.now.shape c.args.tables.now.marks.now c.args.tables.now.keys.now c.args.displace (the_roster c.args.tables.now c.args.index.now) c.args.memo.now c.requires.recalls c.args.row c.args.value c.args.depth c.if-depth-ne0.false _ _ c.prospect-prospect.ensures c.in-Free.is; recalls_2 = noted c.args.tables.now.shape c.args.tables.now.marks.now c.args.tables.now.keys.now c.args.displace (the_roster c.args.tables.now c.args.index.now) c.args.memo.now c.requires.recalls c.args.row c.args.value _ c.prospect-prospect.ensures _ c.remember.ensures }

pub returns-in-Blocked : goal.returns-in-Blocked
returns-in-Blocked c = record { value = blocked_not_free _ ∙ judged_flat c.args.tables.now.shape c.args.tables.now.marks.now c.args.tables.now.keys.now c.args.displace (the_roster c.args.tables.now c.args.index.now) c.args.memo.now c.requires.recalls c.args.row c.args.value c.args.depth c.if-depth-ne0.false _ _ c.prospect-prospect.ensures c.in-Blocked.is; recalls_2 = noted c.args.tables.now.shape c.args.tables.now.marks.now c.args.tables.now.keys.now c.args.displace (the_roster c.args.tables.now c.args.index.now) c.args.memo.now c.requires.recalls c.args.row c.args.value _ c.prospect-prospect.ensures _ c.remember.ensures }
