use borrow.Author.Rules.{rules}
use Rattle.assignment_refresh.proofs.Listing.{putting_start, beside, putting_asks, putting_turn, putting_end}
use Rattle.assignment_refresh.proofs.many.put_all.Goals as goal

pub loop-i-init : goal.loop-i-init
loop-i-init c = putting_start _ _ _ _ _ _ _ c.requires.indexed c.requires.listed c.requires.list_rows_value

pub offset_bounds-list_values-i : goal.offset_bounds-list_values-i
offset_bounds-list_values-i c = let l = beside _ _ _ _ _ _ _ _ _ c.loop-i.invariant c.loop-i-test.true in
    search rules

pub bounds-list_values-i : goal.bounds-list_values-i
bounds-list_values-i c = beside _ _ _ _ _ _ _ _ _ c.loop-i.invariant c.loop-i-test.true

pub put_in-requires : goal.put_in-requires
put_in-requires c = let t = c.loop-i.invariant in record { indexed = t.indexed; row_lt_rows = putting_asks _ _ _ _ _ _ _ _ _ t c.loop-i-test.true }

pub loop-i-preserved : goal.loop-i-preserved
loop-i-preserved c = putting_turn _ _ _ _ _ _ _ _ _ c.loop-i.invariant c.loop-i-test.true _ _ c.put_in.ensures.records_value c.put_in.ensures.members_value

pub returns : goal.returns
returns c = let t = c.loop-i.invariant in record { records_value = putting_end _ _ _ _ _ _ _ _ _ t c.loop-i-test.false; members_value = t.indexed.members_right }
