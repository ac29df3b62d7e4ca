-- `listing_tables::fill::flag_in` meets its contract. Assumes nothing.
use Rattle.listing_tables.proofs.FillLaws.{flag_always, flag_no, flag-yes}
use Rattle.listing_tables.proofs.fill.flag_in.Goals as goal

pub returns-then-column-eq0 : goal.returns-then-column-eq0
returns-then-column-eq0 c = flag_always _ _ _ c.if-column-eq0.true

pub returns-then-cells-i-eq0 : goal.returns-then-cells-i-eq0
returns-then-cells-i-eq0 c = flag_no c.args.cells.now _ _ c.if-column-eq0.false c.if-cells-i-eq0.true

pub returns : goal.returns
returns c = flag-yes c.args.cells.now _ _ c.if-column-eq0.false c.if-cells-i-eq0.false
