use mathlib.Core.Path.{sym, ◌∙◌}
use Rattle.calendar_format.specs.Format.{closing}
use Rattle.std.proofs.lemmas.Option.{MatchOption-at_none, MatchOption-at_some}
use Rattle.basics.proofs.Options.{none_so}
use Rattle.calendar_reading.proofs.EventLaws.{begins, row_turn, rows_done, no_closing, more-behind, all_read}
use native.Mathlib.Omega.{arith}
use Rattle.calendar_reading.proofs.events.read_events.Goals as goal

pub loop-row-init : goal.loop-row-init
loop-row-init c = begins _ _ _ _ _ c.requires.0 c.requires.2 c.requires.3

pub try_row-reached-requires : goal.try_row-reached-requires
try_row-reached-requires c = let l = c.loop-row in record { place_in_bounds = (l.invariant.within, c.requires.1, c.loop-row-test.true); count_in_bounds = (omega (arith, l.invariant.few, l.invariant.rows_long, c.loop-row-test.true), l.invariant.rows_long ∙ sym l.invariant.days_long) }

pub loop-row-preserved : goal.loop-row-preserved
loop-row-preserved c = let l = c.loop-row in row_turn _ _ _ _ _ _ _ c.loop-row-test.true l.invariant _ _ _ c.try_row-reached.ensures

pub after_text-requires : goal.after_text-requires
after_text-requires c = c.loop-row.invariant.within

pub returns-in_err-end : goal.returns-in_err-end
unfolding closing
returns-in_err-end c = let l = c.loop-row in none_so _ _ c.from_residual.ensures (no_closing _ _ _ _ _ _ _ (rows_done _ _ _ _ _ _ _ c.loop-row-test.false l.invariant) (MatchOption-at_none _ _ c.in_err-end.was c.after_text.ensures))

pub ended-requires : goal.ended-requires
ended-requires c = (MatchOption-at_some _ _ _ c.in_ok-end.was c.after_text.ensures).0

pub returns-then-not-ended : goal.returns-then-not-ended
unfolding closing
returns-then-not-ended c = let l = c.loop-row in more-behind _ _ _ _ _ _ _ (rows_done _ _ _ _ _ _ _ c.loop-row-test.false l.invariant) _ (MatchOption-at_some _ _ _ c.in_ok-end.was c.after_text.ensures).1 (sym c.ended.ensures ∙ c.if-not-ended.true)

pub returns : goal.returns
unfolding closing
returns c = let l = c.loop-row in all_read _ _ _ _ _ _ _ (rows_done _ _ _ _ _ _ _ c.loop-row-test.false l.invariant) _ (MatchOption-at_some _ _ _ c.in_ok-end.was c.after_text.ensures).1 (sym c.ended.ensures ∙ c.if-not-ended.false)
