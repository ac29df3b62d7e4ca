-- `listing_text::moves::write_edit` meets its contract: four pieces make the line. Assumes nothing.
use mathlib.Core.List.{[], ◌∷◌, ◌++◌}
use lib.ListN.{length-append}
use Rattle.decimals.specs.Decimals.{digits}
use Rattle.listing_text.specs.Output.{reason}
use Rattle.written_text.proofs.WroteLaws.{joined, called_otherwise}
use Rattle.listing_text.proofs.TextLaws.{four_pieces, edit_long}
use native.Mathlib.Omega.{arith}
use Rattle.listing_text.proofs.moves.write_edit.Goals as goal

pub write_bytes-second-requires : goal.write_bytes-second-requires
write_bytes-second-requires c = let long = edit_long c.args.number c.args.row c.args.value in
    omega (arith, c.requires)

pub write_field-third-requires : goal.write_field-third-requires
write_field-third-requires c = let long = edit_long c.args.number c.args.row c.args.value in
    omega (arith, c.requires, c.write_bytes-second.ensures.place, c.write_bytes-second.auto.out)

pub write_field-fourth-requires : goal.write_field-fourth-requires
write_field-fourth-requires c = let long = edit_long c.args.number c.args.row c.args.value in
    omega (arith, c.requires, c.write_bytes-second.ensures.place, c.write_bytes-second.auto.out, c.write_field-third.ensures.place, c.write_field-third.auto.out, length-append (digits c.args.number) (44 ∷ []))

pub write_last-requires : goal.write_last-requires
write_last-requires c = let long = edit_long c.args.number c.args.row c.args.value in
    omega (arith, c.requires, c.write_bytes-second.ensures.place, c.write_bytes-second.auto.out, c.write_field-third.ensures.place, c.write_field-third.auto.out, c.write_field-fourth.ensures.place, c.write_field-fourth.auto.out, length-append (digits c.args.number) (44 ∷ []), length-append (digits c.args.row) (44 ∷ []))

pub returns : goal.returns
unfolding reason
returns c = called_otherwise _ _ _ _ _ _ (four_pieces c.args.number c.args.row c.args.value)
    (joined _ _ _ _ _ _ _ _ (joined _ _ _ _ _ _ _ _ (joined _ _ _ _ _ _ (reason ++ (44 ∷ [])) _ c.write_bytes-second.ensures c.write_field-third.ensures) c.write_field-fourth.ensures) c.write_last.ensures)
