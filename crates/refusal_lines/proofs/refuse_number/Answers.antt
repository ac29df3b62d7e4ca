-- `refusal_lines::refuse_number` meets its contract: the line lies within its room. Assumes nothing.
use mathlib.Core.Path.{sym}
use native.Mathlib.Omega.{arith}
use lib.Seq.{length-take-le}
use Rattle.refusal_lines.proofs.LineLaws.{refusal_short, refusal-within}
use borrow.Author.Rules.{rules}
use Rattle.refusal_lines.proofs.refuse_number.Goals as goal

pub write_refusal-n-requires : goal.write_refusal-n-requires
write_refusal-n-requires g c = omega (arith, refusal_short c.args.number (search rules))

pub slice_bounds-line-end : goal.slice_bounds-line-end
slice_bounds-line-end g c = refusal-within c.args.number _ _ _ (search rules) (omega arith) c.write_refusal-n.ensures

pub slice_bounds-write_all-end : goal.slice_bounds-write_all-end
slice_bounds-write_all-end g c = sym (length-take-le _ _ (refusal-within c.args.number _ _ _ (search rules) (omega arith) c.write_refusal-n.ensures))
