-- The ceiling's answer, by whether it is refused. Assumes nothing.
use Prim.Native.Nat.{ℕ, ◌+◌, ◌≤◌, ◌<◌}
use mathlib.Core.Path.{◌≡◌}
use borrow.Author.Tests.{lt-ltb, le-ltb}
use Rattle.std.specs.Prelude.{Ok, Err}
use Rattle.refusals.specs.declared.Refusal.TheVariants as refusal
use Rattle.search_rules.specs.Ceiling.{try_ceiling, ask_ceiling}
use Rattle.search_ceiling.specs.Answer.{ceiling_answer}

pub many_candidates : (c d : ℕ) → 64 < c → Err refusal.Candidates ≡ ceiling_answer c d
unfolding ceiling_answer
many_candidates c d l = rw (lt-ltb 64 c l)

pub deep_ceiling : (c d : ℕ) → c ≤ 64 → 8 < d → Err refusal.Depth ≡ ceiling_answer c d
unfolding ceiling_answer
deep_ceiling c d a l = rw (le-ltb 64 c a, lt-ltb 8 d l)

pub ceiling_is : (c d n : ℕ) → c ≤ 64 → d ≤ 8 → n ≡ try_ceiling c d → Ok (2 + n) ≡ ceiling_answer c d
unfolding ceiling_answer ask_ceiling
ceiling_is c d n a l e = rw (le-ltb 64 c a, le-ltb 8 d l, e)
