-- `path_steps::judge::prospect` meets its contract: without the edge rule or a place only the holders count, else those at the sides too. Assumes nothing.
use mathlib.Core.Path.{sym, ◌∙◌}
use Rattle.assignment_tables.specs.Tables.{the_board}
use Rattle.assignment_index.specs.Index.{the_roster}
use Rattle.overlay_pairs.proofs.Sides.{small-sequences}
use Rattle.path_steps.proofs.ProspectLaws.{illegal}
use Rattle.path_steps.proofs.AroundLaws.{index_sequenced, without_rule, without-place, at_place}
use Rattle.path_steps.proofs.judge.prospect.Goals as goal

pub returns-then-not-is_legal : goal.returns-then-not-is_legal
returns-then-not-is_legal c = illegal (the_board c.args.tables.now) _ (the_roster c.args.tables.now c.args.index.now) _ _ (sym c.is_legal.ensures ∙ c.if-not-is_legal.true)

pub returns-then-not-has_assignment_rule : goal.returns-then-not-has_assignment_rule
returns-then-not-has_assignment_rule c = let legal = sym c.is_legal.ensures ∙ c.if-not-is_legal.false in
    without_rule c.args.tables.now.shape c.args.tables.now.marks.now c.args.tables.now.keys.now c.args.index.now.records.now c.args.index.now.members.now c.requires _ _ _ legal _ c.holders_of-holders.ensures _ (sym c.has_assignment_rule.ensures ∙ c.if-not-has_assignment_rule.true) c.by_holders.ensures

pub by_rule-requires : goal.by_rule-requires
by_rule-requires c = record { marked = c.requires.marked; sequenced = index_sequenced c.args.tables.now.shape c.args.tables.now.marks.now c.args.tables.now.keys.now c.args.index.now.records.now c.args.index.now.members.now c.requires }

pub returns : goal.returns
returns c = let legal = sym c.is_legal.ensures ∙ c.if-not-is_legal.false in
    let rule = sym c.has_assignment_rule.ensures ∙ c.if-not-has_assignment_rule.false in
    at_place c.args.tables.now.shape c.args.tables.now.marks.now c.args.tables.now.keys.now c.args.index.now.records.now c.args.index.now.members.now c.requires _ _ _ legal _ c.holders_of-holders.ensures _ rule _ (sym c.sequence_key.ensures ∙ c.in-Some.is)
    (small-sequences c.args.tables.now.shape _ _ c.args.tables.now.keys_fit)
    (c.by_rule.ensures (the_board c.args.tables.now))

pub returns-in_default : goal.returns-in_default
returns-in_default c = let legal = sym c.is_legal.ensures ∙ c.if-not-is_legal.false in
    without-place c.args.tables.now.shape c.args.tables.now.marks.now c.args.tables.now.keys.now c.args.index.now.records.now c.args.index.now.members.now c.requires _ _ _ legal _ c.holders_of-holders.ensures _ (sym c.sequence_key.ensures ∙ c.in_default.is) c.by_holders-in_default.ensures
