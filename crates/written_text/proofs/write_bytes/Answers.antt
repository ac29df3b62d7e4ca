-- `written_text::write_bytes` meets its contract. Assumes nothing.
use mathlib.Core.Path.{◌≡◌}
use lib.ListN.{length}
use native.Mathlib.Omega.{arith}
use Rattle.outputs.proofs.Writing.{begins_at, turns_at, list_end}
use Rattle.written_text.proofs.WroteLaws.{written}
use Rattle.written_text.proofs.write_bytes.Goals as goal

pub loop-i-init : goal.loop-i-init
loop-i-init c = (omega arith, begins_at _ _ _)

pub overflow_add-out : goal.overflow_add-out
overflow_add-out c = let l = c.loop-i in
    omega (arith, l.invariant.1.long, c.requires)

pub bounds-out-at : goal.bounds-out-at
bounds-out-at c = let l = c.loop-i in
    omega (arith, l.invariant.1.long, c.requires)

pub loop-i-preserved : goal.loop-i-preserved
loop-i-preserved c = let l = c.loop-i in
    (omega arith, turns_at _ _ _ _ _ l.invariant.1 c.loop-i-test.true)

pub returns : goal.returns
returns c = let l = c.loop-i in
    let all : l.i ≡ length c.args.text.now = omega (arith, l.invariant.0, c.loop-i-test.false) in
    rw (← all) (written _ _ _ _ _ _ l.invariant.1 (list_end _ _ c.loop-i-test.false))
