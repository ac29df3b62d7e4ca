-- `judged_pairs::nothing_judged` meets its contract: 256 zeros. Assumes nothing.
use mathlib.Core.Path.{refl}
use Rattle.judged_pairs.specs.Judged.{none_judged}
use Rattle.judged_pairs.proofs.nothing_judged.Goals as goal

pub returns : goal.returns
unfolding none_judged
returns c = refl
