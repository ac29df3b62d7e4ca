-- `decimals::writing::write_decimal` meets its contract. Assumes nothing.
use Prim.Native.Nat.{ℕ, ◌+◌, ◌-◌}
use mathlib.Core.Path.{◌≡◌, ap, ◌∙◌}
use lib.ListN.{length}
use Rattle.decimals.specs.Decimals.{digits}
use native.Mathlib.Omega.{arith}
use Rattle.decimals.proofs.writing.write_decimal.Goals as goal

pub returns : goal.returns
returns c = let count = c.digit_count.ensures in
    let start : c.args.at + c.digit_count.result - length (digits c.args.number) ≡ c.args.at = omega arith in
    (ap (λ (k : ℕ). c.args.at + k) count, c.write_before.ensures ∙ rw start)
