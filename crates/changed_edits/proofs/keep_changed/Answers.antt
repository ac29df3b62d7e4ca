use Prim.Native.Nat.{ℕ, ◌≤◌, ◌+◌}
use mathlib.Core.Path.{◌∙◌}
use mathlib.Core.List.{List}
use lib.ListN.{length, get_or, drop}
use native.Mathlib.Omega.{arith}
use Rattle.rules.specs.Roster.{Roster}
use Rattle.outputs.proofs.Writing.{begun, room, turned, ended, sets_front}
use Rattle.assignment_index.specs.Index.{roster_in}
use Rattle.changed_edits.specs.Kept.{kept_one, kept_of}
use Rattle.changed_edits.proofs.KeptLaws.{kept_turn, kept_end, few_kept}
use Rattle.changed_edits.proofs.keep_changed.Goals as goal

pub loop-i-init : goal.loop-i-init
loop-i-init c = begun _ _ _

pub bounds-list_values-i : goal.bounds-list_values-i
bounds-list_values-i c = omega (arith, c.requires.list_rows_len.0)

pub bounds-numbers-i : goal.bounds-numbers-i
bounds-numbers-i c = omega (arith, c.requires.list_rows_len.1)

pub keep-at-requires : goal.keep-at-requires
keep-at-requires c = let h : Roster = roster_in c.args.rows c.args.records.now in
    let one : ℕ → List ℕ = λ i. kept_one (h) (get_or c.args.list_rows.now i 0) (get_or c.args.list_values.now i 0) (get_or c.args.numbers.now i 0) in
    let from : ℕ → List ℕ = λ i. kept_of (h) (drop i c.args.list_rows.now) (drop i c.args.list_values.now) (drop i c.args.numbers.now) in
    let few : length (kept_of (h) c.args.list_rows.now c.args.list_values.now c.args.numbers.now) ≤ length c.args.out.now = omega (arith, few_kept (h) c.args.list_rows.now c.args.list_values.now c.args.numbers.now, c.requires.list_rows_len.2) in
    let l = c.loop-i in
    let t = c.loop-i-test.true in record { rows_in_bounds = c.requires.rows_in_bounds; number_in_bounds = room _ _ _ _ _ _ l.invariant (one l.i) (from (l.i + 1)) (kept_turn (h) _ _ _ c.requires.list_rows_len.0 c.requires.list_rows_len.1 l.i t) (omega (arith, few)) }

pub loop-i-preserved : goal.loop-i-preserved
loop-i-preserved c =
    let h : Roster = roster_in c.args.rows c.args.records.now in
    let one : ℕ → List ℕ = λ i. kept_one (h) (get_or c.args.list_rows.now i 0) (get_or c.args.list_values.now i 0) (get_or c.args.numbers.now i 0) in
    let from : ℕ → List ℕ = λ i. kept_of (h) (drop i c.args.list_rows.now) (drop i c.args.list_values.now) (drop i c.args.numbers.now) in
    let l = c.loop-i in
    let t = c.loop-i-test.true in
    turned _ _ _ _ _ _ l.invariant (one l.i) (from (l.i + 1)) (kept_turn (h) _ _ _ c.requires.list_rows_len.0 c.requires.list_rows_len.1 l.i t) _ _ c.keep-at.ensures

pub returns : goal.returns
returns c =
    let h : Roster = roster_in c.args.rows c.args.records.now in
    let few : length (kept_of (h) c.args.list_rows.now c.args.list_values.now c.args.numbers.now) ≤ length c.args.out.now = omega (arith, few_kept (h) c.args.list_rows.now c.args.list_values.now c.args.numbers.now, c.requires.list_rows_len.2) in
    let l = c.loop-i in
    let e = ended _ _ _ _ _ _ l.invariant (kept_end (h) _ _ _ c.requires.list_rows_len.0 c.requires.list_rows_len.1 l.i c.loop-i-test.false) in
    (omega (arith, e.0), e.1 ∙ sets_front (kept_of (h) c.args.list_rows.now c.args.list_values.now c.args.numbers.now) c.args.out.now (few))
