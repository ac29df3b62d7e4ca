-- `listing_shape::opening::open_file` meets its contract: 9 before 1. Assumes nothing.
use Rattle.listing_shape.proofs.OpenLaws.{few_records, not_a_file, read_so, too_large, opened_so}
use native.Mathlib.Omega.{arith}
use Rattle.listing_shape.proofs.opening.open_file.Goals as goal

pub returns-in_default : goal.returns-in_default
returns-in_default c = not_a_file _ _ _ _ c.read_roster.ensures c.in_default.is

pub file_shape-requires : goal.file_shape-requires
file_shape-requires c = let call = c.read_roster in
    (few_records _ _ _ _ (read_so _ _ _ _ call.ensures _ c.in-Some.is), omega (arith, call.auto.cells, c.requires))

pub returns-in_default-file_shape : goal.returns-in_default-file_shape
returns-in_default-file_shape c = too_large _ _ _ _ c.read_roster.ensures _ c.in-Some.is _ c.file_shape.ensures c.in_default-file_shape.is

pub returns : goal.returns
returns c = opened_so _ _ _ _ c.read_roster.ensures _ c.in-Some.is _ c.file_shape.ensures _ c.in-Some-file_shape.is
