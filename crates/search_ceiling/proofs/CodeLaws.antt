-- What is told of a ceiling, put together. Assumes nothing.
use Prim.Native.Nat.{ℕ}
use mathlib.Core.Path.{◌≡◌, ap, ◌∙◌}
use Rattle.std.specs.Result.{result_unwrap_or}
use Rattle.refusals.specs.Refusals.{Answered}
use Rattle.refusals.specs.Codes.{code}
use Rattle.search_ceiling.specs.Codes.{bounded, ceiling_told}

pub ceiling_told_lem : (a w : Answered ℕ) (before n most : ℕ)
    → a ≡ w
    → n ≡ code a
    → most ≡ result_unwrap_or a before
    → bounded n most ≡ ceiling_told w before
ceiling_told_lem a w before n most e c m =
    let same : bounded n most ≡ ceiling_told a before = λ i. bounded (c i) (m i) in
    same ∙ ap (λ (x : Answered ℕ). ceiling_told x before) e
