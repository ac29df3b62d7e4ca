-- `overlay_pairs::pairs::pair_allowed` meets its contract. Assumes nothing.
use mathlib.Core.Path.{ap, sym, ◌∙◌}
use mathlib.Core.Bool.{not}
use Rattle.overlay_pairs.proofs.MemoryLaws.{recalled_pair, recalled_more}
use Rattle.overlay_pairs.proofs.pairs.pair_allowed.Goals as goal

pub returns-then-is_judged : goal.returns-then-is_judged
returns-then-is_judged c = (recalled_pair _ _ _ c.requires.recalled c.if-judged-ne256.false _ _ c.if-left-ge128.false c.if-right-ge128.false _ c.is_judged.ensures c.if-is_judged.true, c.requires.recalled)

pub returns-then-not-assignment_edge_allowed : goal.returns-then-not-assignment_edge_allowed
returns-then-not-assignment_edge_allowed c = (sym (c.if-not-assignment_edge_allowed.true) ∙ c.assignment_edge_allowed-2.ensures, c.requires.recalled)

pub remember-requires : goal.remember-requires
remember-requires c = (c.if-judged-ne256.false, c.if-left-ge128.false, c.if-right-ge128.false, sym c.is_judged.ensures ∙ c.if-is_judged.false)

pub returns : goal.returns
returns c = (sym (c.if-not-assignment_edge_allowed.false) ∙ c.assignment_edge_allowed-2.ensures, recalled_more _ _ _ c.requires.recalled c.if-judged-ne256.false _ _ c.if-left-ge128.false c.if-right-ge128.false _ c.is_judged.ensures c.if-is_judged.false _ c.assignment_edge_allowed-2.ensures (ap not c.if-not-assignment_edge_allowed.false) _ c.remember.ensures)
