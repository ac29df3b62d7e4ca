-- `duty_records::write_line` meets its contract: no number has over twenty digits. Assumes nothing.
use mathlib.Core.List.{[], ◌∷◌}
use native.Mathlib.Omega.{arith}
use lib.ListN.{length-append}
use Rattle.decimals.specs.Decimals.{digits}
use Rattle.written_text.proofs.WroteLaws.{joined, called_otherwise}
use Rattle.duty_records.proofs.LineLaws.{digits_twenty, line_pieces, line_long}
use borrow.Author.Rules.{rules}
use Rattle.duty_records.proofs.write_line.Goals as goal

pub write_field-next-requires : goal.write_field-next-requires
write_field-next-requires c = let few = digits_twenty c.args.row (search rules) in omega (arith, c.requires)

pub write_last-requires : goal.write_last-requires
write_last-requires c = let few = digits_twenty c.args.row (search rules) in let more = digits_twenty c.args.day (search rules) in omega (arith, c.requires, c.write_field-next.ensures.place, c.write_field-next.auto.out, length-append (digits c.args.row) (44 ∷ []))

pub returns : goal.returns
returns c = let w = called_otherwise _ _ _ _ _ _ (line_pieces c.args.row c.args.day) (joined _ _ _ _ _ _ _ _ c.write_field-next.ensures c.write_last.ensures) in let few = digits_twenty c.args.row (search rules) in let more = digits_twenty c.args.day (search rules) in record { wrote = w; upper_bound = omega (arith, w.place, line_long c.args.row c.args.day) }
