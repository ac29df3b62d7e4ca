-- `listing_reading::cells::write_record` meets its contract. Assumes nothing.
use mathlib.Core.Path.{refl, ◌∙◌}
use Rattle.listing_reading.specs.Lines.{record_of}
use Rattle.listing_reading.specs.Cells.{cells_of}
use Rattle.listing_reading.proofs.CellLaws.{pasted}
use Rattle.listing_reading.proofs.cells.write_record.Goals as goal

pub returns : goal.returns
returns c =
    pasted c.args.cells.now c.args.place 7 (cells_of (record_of c.args.numbers)) _ refl c.requires
    (c.copy_from_slice.ensures.after ∙ rw (c.flag.ensures, c.unwrap_or.ensures, c.flag-2.ensures, c.unwrap_or-2.ensures))
