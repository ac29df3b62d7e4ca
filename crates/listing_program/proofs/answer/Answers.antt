-- `listing_program::answer` meets its contract: what was written lies within the output. Assumes nothing.
use mathlib.Core.Path.{sym}
use lib.Seq.{length-take-le}
use Rattle.listing_program.proofs.ProgramLaws.{all-written}
use Rattle.listing_program.proofs.answer.Goals as goal

pub slice_bounds-write_all-end : goal.slice_bounds-write_all-end
slice_bounds-write_all-end g c = all-written _ _ _ _ _ _ c.listing.ensures c.in-Ok.is

pub slice_bounds-write_all-end-in-Ok : goal.slice_bounds-write_all-end-in-Ok
slice_bounds-write_all-end-in-Ok g c = sym (length-take-le _ _ (all-written _ _ _ _ _ _ c.listing.ensures c.in-Ok.is))
