-- `calendar_writing::dates::write_date` meets its contract: three numbers make the date. Assumes nothing.
use Rattle.written_text.proofs.WroteLaws.{joined, called_otherwise}
use Rattle.calendar_format.specs.Texts.{padded}
use Rattle.calendar_format.proofs.NumberLaws.{padded_long}
use Rattle.calendar_writing.proofs.PaddedLaws.{date_pieces}
use native.Mathlib.Omega.{arith}
use Rattle.calendar_writing.proofs.dates.write_date.Goals as goal

pub write_padded-days-requires : goal.write_padded-days-requires
write_padded-days-requires c = let d = c.date_of-date.result in omega (arith, padded_long 4 d.year, c.write_padded-month.ensures.place, c.write_padded-month.auto.out, c.requires.0)

pub write_padded-requires : goal.write_padded-requires
write_padded-requires c = let d = c.date_of-date.result in omega (arith, padded_long 4 d.year, padded_long 2 d.month, c.write_padded-month.ensures.place, c.write_padded-month.auto.out, c.write_padded-days.ensures.place, c.write_padded-days.auto.out, c.requires.0)

pub returns : goal.returns
returns c = let d = c.date_of-date.result in called_otherwise _ _ _ _ _ _ (date_pieces _ d c.date_of-date.ensures) (joined _ _ _ _ _ _ _ (padded 2 d.day) (joined _ _ _ _ _ _ (padded 4 d.year) (padded 2 d.month) c.write_padded-month.ensures c.write_padded-days.ensures) c.write_padded.ensures)
