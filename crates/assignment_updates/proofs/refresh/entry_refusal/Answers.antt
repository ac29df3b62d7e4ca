-- `assignment_updates::refresh::entry_refusal` meets its contract. Assumes nothing.
use Rattle.assignment_updates.proofs.RefreshLaws.{out_of_range, named-before, entry-fits, not_holdable}
use borrow.Author.Rules.{rules}
use Rattle.assignment_updates.proofs.refresh.entry_refusal.Goals as goal

pub returns-then-list_rows-i : goal.returns-then-list_rows-i
returns-then-list_rows-i c = search (rules, out_of_range)

pub returns-then-not-first_named : goal.returns-then-not-first_named
returns-then-not-first_named c = search (rules, named-before)

pub returns-then-is_holdable : goal.returns-then-is_holdable
returns-then-is_holdable c = search (rules, entry-fits)

pub returns : goal.returns
returns c = search (rules, not_holdable)
