-- `civil_dates::is_leap` meets its contract. Assumes nothing.
use mathlib.Core.Path.{refl}
use Rattle.civil_dates.specs.Dates.{leap}
use Rattle.civil_dates.proofs.is_leap.Goals as goal

pub returns : goal.returns
unfolding leap
returns c = refl
