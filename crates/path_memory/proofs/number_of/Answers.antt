-- `path_memory::number_of` meets its contract. Assumes nothing.
use mathlib.Core.Path.{sym, ap, ◌∙◌}
use Rattle.path_memory.specs.Memory.{prospect_number}
use Rattle.path_memory.proofs.MemoryLaws.{fails_number, free_number, blocked_number, blocker_fits}
use borrow.Author.Rules.{rules}
use Rattle.path_memory.proofs.number_of.Goals as goal

pub overflow_add-result : goal.overflow_add-result
overflow_add-result c = let l = blocker_fits _ _ c.in-Blocked.is c.requires in search rules

pub overflow_cast-result : goal.overflow_cast-result
overflow_cast-result c = let l = blocker_fits _ _ c.in-Blocked.is c.requires in search rules

pub returns-in-Fails : goal.returns-in-Fails
returns-in-Fails c = fails_number ∙ ap prospect_number (sym c.in-Fails.is)

pub returns-in-Free : goal.returns-in-Free
returns-in-Free c = free_number ∙ ap prospect_number (sym c.in-Free.is)

pub returns-in-Blocked : goal.returns-in-Blocked
returns-in-Blocked c = sym (blocked_number _) ∙ ap prospect_number (sym c.in-Blocked.is)
