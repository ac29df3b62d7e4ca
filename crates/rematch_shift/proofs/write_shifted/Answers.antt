use Prim.Native.Nat.{ℕ, ◌+◌}
use mathlib.Core.List.{◌∷◌, []}
use mathlib.Core.Path.{◌≡◌, refl, ap, ◌∙◌}
use native.Mathlib.Omega.{arith}
use lib.ListN.{length, get_or, drop}
use Rattle.rules.specs.Roster.{Roster}
use Rattle.outputs.proofs.Writing.{begun, turned, ended, sets_front}
use Rattle.rotation.specs.Rotation.{place_round}
use Rattle.assignment_index.specs.Index.{roster_in}
use Rattle.rematch_shift.specs.Shift.{shifted_values}
use Rattle.rematch_shift.proofs.ShiftLaws.{length_shifted, shifted_turn, shifted_end}
use Rattle.rematch_shift.proofs.write_shifted.Goals as goal

pub loop-i-init : goal.loop-i-init
loop-i-init c = begun _ _ _

pub offset_bounds-window-source : goal.offset_bounds-window-source
offset_bounds-window-source c = omega (arith, c.place_round-source.ensures.1)

pub bounds-window-source : goal.bounds-window-source
bounds-window-source c = omega (arith, c.place_round-source.ensures.1)

pub bounds-out-i : goal.bounds-out-i
bounds-out-i c = let l = c.loop-i in omega (arith, l.invariant.long)

pub loop-i-preserved : goal.loop-i-preserved
loop-i-preserved c =
    let h : Roster = roster_in c.args.rows c.args.records.now in
    let l = c.loop-i in
    let W = c.args.window.now in
    let d = c.args.shift in
    let x = h (get_or W (place_round d l.i (length W)) 0) in
    let e : c.value_of.result ≡ x = c.value_of.ensures ∙ ap (λ (j : ℕ). h (get_or W j 0)) c.place_round-source.ensures.0 in
    rw e (turned _ _ _ _ _ _ l.invariant (x ∷ []) (drop (l.i + 1) (shifted_values (h) W d)) (shifted_turn (h) W d l.i c.loop-i-test.true) _ _ (refl, refl))

pub returns : goal.returns
returns c =
    let h : Roster = roster_in c.args.rows c.args.records.now in
    let W = c.args.window.now in
    let d = c.args.shift in
    let l = c.loop-i in
    (ended _ _ _ _ _ _ l.invariant (shifted_end (h) W d l.i c.loop-i-test.false)).1
    ∙ sets_front (shifted_values (h) W d) c.args.out.now (rw (length_shifted (h) W d) c.requires.window_len_bound.1)
