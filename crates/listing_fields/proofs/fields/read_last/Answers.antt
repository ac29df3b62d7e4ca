-- `listing_fields::fields::read_last` meets its contract. Assumes nothing.
use Rattle.basics.proofs.Options.{none_so}
use Rattle.listing_fields.proofs.PlaceLaws.{field_within, last_parts, unclosed, closed, place-within}
use Rattle.listing_fields.proofs.fields.read_last.Goals as goal

pub after_line-requires : goal.after_line-requires
after_line-requires c = (field_within _ _ _ c.field_end-end.ensures c.requires).1

pub returns-in_err-next : goal.returns-in_err-next
returns-in_err-next c = none_so _ _ c.from_residual.ensures (unclosed _ _ _ _ (last_parts _ _ _ c.field_end-end.ensures) _ c.after_line.ensures c.in_err-next.was)

pub field_content-requires : goal.field_content-requires
field_content-requires c = let w = field_within _ _ _ c.field_end-end.ensures c.requires in
    (w.0, w.1, place-within _ _ _ _ c.after_line.ensures c.in_ok-next.was)

pub returns : goal.returns
returns c = closed _ _ _ _ (last_parts _ _ _ c.field_end-end.ensures) _ _ c.after_line.ensures c.in_ok-next.was c.field_content.result c.field_content.ensures
