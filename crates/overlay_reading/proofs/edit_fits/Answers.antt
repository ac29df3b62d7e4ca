-- `overlay_reading::edit_fits` meets its contract. Assumes nothing.
use Rattle.overlay_reading.proofs.ReadLaws.{out_of_range, illegal, not_asked, keeps_a-value, emptied}
use Rattle.overlay_reading.proofs.edit_fits.Goals as goal

pub returns-then-row-tables : goal.returns-then-row-tables
returns-then-row-tables c = search out_of_range

pub returns-then-not-value_is_legal : goal.returns-then-not-value_is_legal
returns-then-not-value_is_legal c = search illegal

pub returns-then-not-last : goal.returns-then-not-last
returns-then-not-last c = search not_asked

pub returns-then-value-ne-EMPTY : goal.returns-then-value-ne-EMPTY
returns-then-value-ne-EMPTY c = search keeps_a-value

pub returns : goal.returns
returns c = search emptied
