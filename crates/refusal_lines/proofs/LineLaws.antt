-- A refusal's line is short. Assumes nothing.
use Prim.Native.Nat.{ℕ, ◌≤◌, ◌<◌}
use mathlib.Core.Path.{ap}
use mathlib.Core.List.{List}
use native.Mathlib.Omega.{arith}
use lib.ListN.{length, length-append}
use lib.Seq.{length-sets}
use Rattle.decimals.specs.Decimals.{digits}
use Rattle.decimals.proofs.DigitLaws.{digits_three}
use Rattle.listing_format.specs.Format.{line_end}
use Rattle.listing_text.specs.Output.{refused_word, refusal_text}
use Rattle.written_text.specs.Wrote.{Wrote}

-- the number of a refusal is a byte
pub refusal_short : (number : ℕ) → number < 256 → length (refusal_text number) ≤ 13
unfolding refusal_text refused_word
refusal_short number l = omega (arith, length-append (digits number) line_end, digits_three number (omega arith))

pub refusal-within : (number : ℕ) (s t : List ℕ) (n : ℕ) → number < 256 → 13 ≤ length s → Wrote s 0 (refusal_text number) t n → n ≤ length t
refusal-within number s t n l r w = omega (arith, w.place, refusal_short number l, ap length w.bytes, length-sets s 0 (refusal_text number))
