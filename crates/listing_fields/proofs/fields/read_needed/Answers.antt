-- `listing_fields::fields::read_needed` meets its contract. Assumes nothing.
use Rattle.std.proofs.lemmas.Option.{MatchOption-at_none, MatchOption-at_some}
use Rattle.basics.proofs.Options.{none_so}
use Rattle.listing_fields.proofs.PlaceLaws.{needed_none, needed-blank, needed_number}
use Rattle.listing_fields.proofs.fields.read_needed.Goals as goal

pub returns-in_err-field : goal.returns-in_err-field
returns-in_err-field c = none_so _ _ c.from_residual.ensures (needed_none _ (MatchOption-at_none _ _ c.in_err-field.was c.read_field.ensures))

pub returns-in_err-number : goal.returns-in_err-number
returns-in_err-number c =
    let r = MatchOption-at_some _ _ _ c.in_ok-field.was c.read_field.ensures in
    none_so _ _ c.from_residual-in_err-number.ensures (needed-blank _ _ _ r.1 c.in_err-number.was)

pub returns : goal.returns
returns c =
    let r = MatchOption-at_some _ _ _ c.in_ok-field.was c.read_field.ensures in
    (r.0, needed_number _ _ _ r.1 _ c.in_ok-number.was)
