-- `search_ceiling::level_ceiling` meets its contract. Assumes nothing.
use Prim.Native.Nat.{ℕ, ◌+◌, ◌*◌}
use mathlib.Core.Path.{sym, ap, ◌∙◌}
use native.Mathlib.Omega.{arith}
use Rattle.search_rules.proofs.Ceilings.{ceiling_fits, ceiling_zero, ceiling_more}
use Rattle.search_ceiling.proofs.+level_ceiling.Goals as goal

pub returns-then-depth-eq0 : goal.returns-then-depth-eq0
returns-then-depth-eq0 t c = ceiling_zero _ _ c.if-depth-eq0.true

pub overflow_add-result : goal.overflow_add-result
overflow_add-result t c = let q = ap (λ (k : ℕ). c.args.candidates * k) c.level_ceiling-lower.ensures in record { fits = omega (arith, q, ceiling_more c.args.candidates c.args.depth c.if-depth-eq0.false, ceiling_fits c.args.candidates c.args.depth c.requires.0 c.requires.1) }

pub overflow_mul-result : goal.overflow_mul-result
overflow_mul-result t c = let q = ap (λ (k : ℕ). c.args.candidates * k) c.level_ceiling-lower.ensures in record { fits = omega (arith, q, ceiling_more c.args.candidates c.args.depth c.if-depth-eq0.false, ceiling_fits c.args.candidates c.args.depth c.requires.0 c.requires.1) }

pub overflow_add-result-2 : goal.overflow_add-result-2
overflow_add-result-2 t c = let q = ap (λ (k : ℕ). c.args.candidates * k) c.level_ceiling-lower.ensures in record { fits = omega (arith, q, ceiling_more c.args.candidates c.args.depth c.if-depth-eq0.false, ceiling_fits c.args.candidates c.args.depth c.requires.0 c.requires.1) }

pub returns : goal.returns
returns t c = ap (λ (k : ℕ). 1 + c.args.candidates + c.args.candidates * k) c.level_ceiling-lower.ensures ∙ sym (ceiling_more _ _ c.if-depth-eq0.false)
