-- `path_memory::prospect_of` meets its contract. Assumes nothing.
use mathlib.Core.Path.{sym, ◌∙◌}
use Rattle.path_memory.proofs.MemoryLaws.{fails_number, free_number, blocked_number, three_more}
use Rattle.path_memory.proofs.prospect_of.Goals as goal

pub returns-then-number-eq1 : goal.returns-then-number-eq1
returns-then-number-eq1 c = sym fails_number ∙ sym c.if-number-eq1.true

pub returns-then-number-eq2 : goal.returns-then-number-eq2
returns-then-number-eq2 c = sym free_number ∙ sym c.if-number-eq2.true

pub returns : goal.returns
returns c = blocked_number _ ∙ three_more _ c.requires c.if-number-eq1.false c.if-number-eq2.false
