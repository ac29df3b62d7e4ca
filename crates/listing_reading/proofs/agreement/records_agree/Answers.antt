use Rattle.basics.proofs.Loops.{turns}
use Rattle.listing_reading.proofs.agreement.records_agree.Goals as goal

pub loop-place-init : goal.loop-place-init
loop-place-init c = search turns

pub returns-then-not-record_stands : goal.returns-then-not-record_stands
returns-then-not-record_stands c = search turns

pub loop-place-preserved : goal.loop-place-preserved
loop-place-preserved c = search turns

pub returns : goal.returns
returns c = search turns
