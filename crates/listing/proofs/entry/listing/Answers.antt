-- `listing::entry::listing` meets its contract: what opening the roster refuses comes before too little room for the output. Assumes nothing.
use Rattle.refusals.proofs.AnswerLaws.{passed_on}
use Rattle.listing.proofs.EntryLaws.{not_filed, index-stands, bounded, too_short, written_so}
use Rattle.listing.proofs.entry.listing.Goals as goal

pub returns-then-output-lt-OUTPUT_ROOM : goal.returns-then-output-lt-OUTPUT_ROOM
returns-then-output-lt-OUTPUT_ROOM c = too_short _ c.args.output.now _ _ _ _ _ _ _ _ _ _ _ c.open_roster.ensures _ c.in_ok-shape.was c.open_roster.auto.cells c.if-output-lt-OUTPUT_ROOM.true

pub write_index-requires : goal.write_index-requires
write_index-requires c = record { stands = index-stands _ c.args.output.now _ _ _ _ _ _ _ _ _ _ _ c.open_roster.ensures _ c.in_ok-shape.was c.open_roster.auto.cells; bounded = bounded _ c.args.output.now _ _ _ _ _ _ _ _ _ _ _ c.open_roster.ensures _ c.in_ok-shape.was c.open_roster.auto.cells; in_bounds = c.if-output-lt-OUTPUT_ROOM.false }

pub returns-in_err-shape : goal.returns-in_err-shape
returns-in_err-shape c = rw (passed_on c.from_residual.result c.in_err-shape.field-0.0 c.from_residual.ensures) (not_filed _ c.args.output.now _ _ _ _ _ _ _ _ _ _ _ c.open_roster.ensures _ c.in_err-shape.was)

pub returns : goal.returns
returns c = written_so _ c.args.output.now _ _ _ _ _ _ _ _ _ _ _ c.open_roster.ensures _ c.in_ok-shape.was c.open_roster.auto.cells c.if-output-lt-OUTPUT_ROOM.false _ _ c.write_index.ensures
