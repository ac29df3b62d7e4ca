-- `listing_reading::agreement::records_clash` meets its contract. Assumes nothing.
use Rattle.listing_reading.specs.Cells.{record_in}
use Rattle.listing_reading.proofs.AgreementLaws.{other_row, same-value, other-value}
use Rattle.listing_reading.proofs.agreement.records_clash.Goals as goal

pub returns-then-cells-first : goal.returns-then-cells-first
returns-then-cells-first c = other_row (record_in c.args.cells.now c.args.first) (record_in c.args.cells.now c.args.second) c.if-cells-first.true

pub returns-then-cells-first-2 : goal.returns-then-cells-first-2
returns-then-cells-first-2 c = same-value (record_in c.args.cells.now c.args.first) (record_in c.args.cells.now c.args.second) c.if-cells-first.false c.if-cells-first-2.true

pub returns : goal.returns
returns c = other-value (record_in c.args.cells.now c.args.first) (record_in c.args.cells.now c.args.second) c.if-cells-first.false c.if-cells-first-2.false
