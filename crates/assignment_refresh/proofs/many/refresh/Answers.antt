-- `assignment_refresh::many::refresh` meets its contract: what the listed rows held before does not matter to the roster after. Assumes nothing.
use Rattle.assignment_refresh.proofs.Vacated.{indexed_vacated, vacated-now, refreshed}
use Rattle.assignment_refresh.proofs.many.refresh.Goals as goal

pub put_all-requires : goal.put_all-requires
put_all-requires c = let e = c.take_all.ensures in record { indexed = indexed_vacated _ _ _ _ _ c.requires.indexed _ _ _ e.records_value e.members_value; listed = c.requires.listed; list_rows_value = vacated-now _ _ _ _ _ c.requires.indexed _ _ _ e.records_value e.members_value }

pub returns : goal.returns
returns c = let e = c.take_all.ensures in
    let f = c.put_all.ensures in record { records_value = refreshed _ _ _ _ _ c.requires.indexed _ _ _ e.records_value e.members_value _ _ c.requires.listed.as_many f.records_value; members_value = f.members_value }
