use Rattle.basics.proofs.Edits.{row_at}
use Rattle.assignment_refresh.proofs.Listing.{taking_start, taking_turn, taking_end}
use Rattle.assignment_refresh.proofs.many.take_all.Goals as goal

pub loop-taken-init : goal.loop-taken-init
loop-taken-init c = taking_start _ _ _ _ _ _ c.requires.indexed

pub take_out-requires : goal.take_out-requires
take_out-requires c = let t = c.loop-taken.invariant in record { indexed = t.indexed; row_lt_rows = row_at _ _ _ c.requires.list_rows_value c.loop-taken-test.true }

pub loop-taken-preserved : goal.loop-taken-preserved
loop-taken-preserved c = taking_turn _ _ _ _ _ _ _ _ c.loop-taken.invariant c.requires.list_rows_value c.loop-taken-test.true _ _ c.take_out.ensures.records_value c.take_out.ensures.members_value

pub returns : goal.returns
returns c = let t = c.loop-taken.invariant in record { records_value = taking_end _ _ _ _ _ _ _ _ t c.loop-taken-test.false; members_value = t.indexed.members_right }
