-- `decimals::reading::ends_field` meets its contract. Assumes nothing.
use mathlib.Core.Path.{refl}
use Rattle.decimals.specs.Fields.{ends}
use Rattle.decimals.proofs.reading.ends_field.Goals as goal

pub returns : goal.returns
unfolding ends
returns c = refl
