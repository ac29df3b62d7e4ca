-- `listing_reading::cells::read_records` meets its contract. Assumes nothing.
use Rattle.std.proofs.lemmas.Option.{MatchOption-at_none, MatchOption-at_some}
use Rattle.basics.proofs.Options.{none_so}
use Rattle.listing_reading.proofs.CellLaws.{no_header, behind-header, records_so}
use Rattle.listing_reading.proofs.cells.read_records.Goals as goal

pub returns-in_err-from : goal.returns-in_err-from
returns-in_err-from c = none_so _ _ c.from_residual.ensures (no_header _ (MatchOption-at_none _ _ c.in_err-from.was c.after_header.ensures))

pub read_lines-requires : goal.read_lines-requires
read_lines-requires c = record { ready = c.requires; from_in_bounds = (MatchOption-at_some _ _ _ c.in_ok-from.was c.after_header.ensures).0 }

pub returns : goal.returns
returns c = records_so _ _ _ _ c.read_lines.result (behind-header _ _ (MatchOption-at_some _ _ _ c.in_ok-from.was c.after_header.ensures).1) c.read_lines.ensures
