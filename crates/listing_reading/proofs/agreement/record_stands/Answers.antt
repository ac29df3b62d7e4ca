-- `listing_reading::agreement::record_stands` meets its contract. Assumes nothing.
use Rattle.listing_reading.specs.Cells.{record_in}
use Rattle.listing_reading.proofs.AgreementLaws.{over_one, not_over}
use Rattle.listing_reading.proofs.agreement.record_stands.Goals as goal

pub returns-then-cells-place-gt1 : goal.returns-then-cells-place-gt1
returns-then-cells-place-gt1 c = over_one (record_in c.args.cells.now) _ c.if-cells-place-gt1.true

pub returns : goal.returns
returns c = not_over (record_in c.args.cells.now) _ c.if-cells-place-gt1.false _ c.apart_before.ensures
