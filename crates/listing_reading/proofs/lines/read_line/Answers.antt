-- `listing_reading::lines::read_line` meets its contract. Assumes nothing.
use Rattle.std.proofs.lemmas.Option.{MatchOption-at_none, MatchOption-at_some}
use Rattle.basics.proofs.Options.{none_so}
use Rattle.listing_reading.proofs.LineLaws.{no_row, no_value, no_now, no_capacity, no_sequence, whole}
use Rattle.listing_reading.proofs.lines.read_line.Goals as goal

pub returns-in_err-row : goal.returns-in_err-row
returns-in_err-row c = none_so _ _ c.from_residual.ensures (no_row _ (MatchOption-at_none _ _ c.in_err-row.was c.read_needed.ensures))

pub read_needed-requires-2 : goal.read_needed-requires-2
read_needed-requires-2 c = (MatchOption-at_some _ _ _ c.in_ok-row.was c.read_needed.ensures).0

pub returns-in_err-value : goal.returns-in_err-value
returns-in_err-value c =
    let row = MatchOption-at_some _ _ _ c.in_ok-row.was c.read_needed.ensures in
    none_so _ _ c.from_residual-in_err-value.ensures (no_value _ _ _ row.1 (MatchOption-at_none _ _ c.in_err-value.was c.read_needed-2.ensures))

pub read_needed-requires-3 : goal.read_needed-requires-3
read_needed-requires-3 c = (MatchOption-at_some _ _ _ c.in_ok-value.was c.read_needed-2.ensures).0

pub returns-in_err-now : goal.returns-in_err-now
returns-in_err-now c =
    let row = MatchOption-at_some _ _ _ c.in_ok-row.was c.read_needed.ensures in
    let value = MatchOption-at_some _ _ _ c.in_ok-value.was c.read_needed-2.ensures in
    none_so _ _ c.from_residual-in_err-now.ensures (no_now _ _ _ row.1 _ _ value.1 (MatchOption-at_none _ _ c.in_err-now.was c.read_needed-3.ensures))

pub read_field-requires : goal.read_field-requires
read_field-requires c = (MatchOption-at_some _ _ _ c.in_ok-now.was c.read_needed-3.ensures).0

pub returns-in_err-capacity : goal.returns-in_err-capacity
returns-in_err-capacity c =
    let row = MatchOption-at_some _ _ _ c.in_ok-row.was c.read_needed.ensures in
    let value = MatchOption-at_some _ _ _ c.in_ok-value.was c.read_needed-2.ensures in
    let now = MatchOption-at_some _ _ _ c.in_ok-now.was c.read_needed-3.ensures in
    none_so _ _ c.from_residual-in_err-capacity.ensures (no_capacity _ _ _ row.1 _ _ value.1 _ _ now.1 (MatchOption-at_none _ _ c.in_err-capacity.was c.read_field.ensures))

pub read_last-requires : goal.read_last-requires
read_last-requires c = (MatchOption-at_some _ _ _ c.in_ok-capacity.was c.read_field.ensures).0

pub returns-in_err-sequence : goal.returns-in_err-sequence
returns-in_err-sequence c =
    let row = MatchOption-at_some _ _ _ c.in_ok-row.was c.read_needed.ensures in
    let value = MatchOption-at_some _ _ _ c.in_ok-value.was c.read_needed-2.ensures in
    let now = MatchOption-at_some _ _ _ c.in_ok-now.was c.read_needed-3.ensures in
    let capacity = MatchOption-at_some _ _ _ c.in_ok-capacity.was c.read_field.ensures in
    none_so _ _ c.from_residual-in_err-sequence.ensures (no_sequence _ _ _ row.1 _ _ value.1 _ _ now.1 _ _ capacity.1 (MatchOption-at_none _ _ c.in_err-sequence.was c.read_last.ensures))

pub returns : goal.returns
returns c =
    let row = MatchOption-at_some _ _ _ c.in_ok-row.was c.read_needed.ensures in
    let value = MatchOption-at_some _ _ _ c.in_ok-value.was c.read_needed-2.ensures in
    let now = MatchOption-at_some _ _ _ c.in_ok-now.was c.read_needed-3.ensures in
    let capacity = MatchOption-at_some _ _ _ c.in_ok-capacity.was c.read_field.ensures in
    let sequence = MatchOption-at_some _ _ _ c.in_ok-sequence.was c.read_last.ensures in
    (sequence.0, whole _ _ _ row.1 _ _ value.1 _ _ now.1 _ _ capacity.1 _ _ sequence.1)
