-- `calendar_reading::calendar::read_calendar` meets its contract: 13 comes before too little room. Assumes nothing.
use native.Mathlib.Omega.{arith}
use Rattle.std.proofs.lemmas.Option.{MatchOption-at_none, MatchOption-at_some}
use Rattle.calendar_reading.proofs.EntryLaws.{no_calendar, short_of_rows, short_of_days, rows_there, days_there, rows_long, days_long, all-given}
use Rattle.calendar_reading.proofs.calendar.read_calendar.Goals as goal

pub returns-in_default : goal.returns-in_default
returns-in_default c = let w = c.read_object in no_calendar _ _ _ (MatchOption-at_none _ _ c.in_default.is w.ensures)

pub returns-then-out_rows-count : goal.returns-then-out_rows-count
returns-then-out_rows-count c = let w = c.read_object in let t = MatchOption-at_some _ _ _ c.in-Some.is w.ensures in short_of_rows _ c.args.out_rows.now c.args.out_days.now t.0 _ _ _ t.1 t.2 c.if-out_rows-count.true

pub returns-then-out_days-count : goal.returns-then-out_days-count
returns-then-out_days-count c = let w = c.read_object in let t = MatchOption-at_some _ _ _ c.in-Some.is w.ensures in short_of_days _ c.args.out_rows.now c.args.out_days.now t.0 _ _ _ t.1 t.2 (omega arith) c.if-out_days-count.true

pub slice_bounds-rows-end : goal.slice_bounds-rows-end
slice_bounds-rows-end c = let w = c.read_object in let t = MatchOption-at_some _ _ _ c.in-Some.is w.ensures in rows_there _ c.args.out_rows.now c.args.out_days.now t.0 _ _ _ t.1 t.2

pub slice_bounds-copy_front-end : goal.slice_bounds-copy_front-end
slice_bounds-copy_front-end c = let w = c.read_object in let t = MatchOption-at_some _ _ _ c.in-Some.is w.ensures in rows_long _ c.args.out_rows.now c.args.out_days.now t.0 _ _ _ t.1 t.2

pub copy_front-requires : goal.copy_front-requires
copy_front-requires c = let w = c.read_object in let t = MatchOption-at_some _ _ _ c.in-Some.is w.ensures in omega (arith, rows_long _ c.args.out_rows.now c.args.out_days.now t.0 _ _ _ t.1 t.2)

pub slice_bounds-days-end : goal.slice_bounds-days-end
slice_bounds-days-end c = let w = c.read_object in let t = MatchOption-at_some _ _ _ c.in-Some.is w.ensures in days_there _ c.args.out_rows.now c.args.out_days.now t.0 _ _ _ t.1 t.2

pub slice_bounds-copy_front-end-2 : goal.slice_bounds-copy_front-end-2
slice_bounds-copy_front-end-2 c = let w = c.read_object in let t = MatchOption-at_some _ _ _ c.in-Some.is w.ensures in days_long _ c.args.out_rows.now c.args.out_days.now t.0 _ _ _ t.1 t.2

pub copy_front-requires-2 : goal.copy_front-requires-2
copy_front-requires-2 c = let w = c.read_object in let t = MatchOption-at_some _ _ _ c.in-Some.is w.ensures in omega (arith, days_long _ c.args.out_rows.now c.args.out_days.now t.0 _ _ _ t.1 t.2)

pub returns : goal.returns
returns c = let w = c.read_object in let t = MatchOption-at_some _ _ _ c.in-Some.is w.ensures in all-given _ c.args.out_rows.now c.args.out_days.now t.0 _ _ _ t.1 t.2 (omega arith) (omega arith) _ _ c.copy_front.ensures c.copy_front-2.ensures
