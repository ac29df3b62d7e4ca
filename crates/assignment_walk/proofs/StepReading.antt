-- What a step leaves, read back: its move in the fronts of two slices, and the cursor behind it. Assumes nothing.
use Prim.Native.Nat.{ℕ, ◌≤◌}
use mathlib.Core.Path.{◌≡◌, refl, sym, ap, ◌∙◌}
use mathlib.Core.List.{List}
use Rattle.std.specs.Prelude.{Option, None, Some, Ok, Err}
use native.Mathlib.Omega.{arith}
use lib.ListN.{length, take, drop, length-append}
use Rattle.refusals.specs.declared.Refusal.{Refusal}
use Rattle.refusals.specs.Refusals.{Answered}
use Rattle.basics.specs.Edits.{Edit, edits, rows_of, values_of}
use Rattle.basics.proofs.Edits.{length_rows, length-values}
use Rattle.window_kinds.specs.declared.Step.{Step}
use Rattle.window_kinds.specs.Kinds.{Stepped}
use Rattle.outputs.specs.Giving.{rows_left, values_left}
use Rattle.window_kinds.specs.Stepping.{Stepping, leaves, answer_of, answering}
use Rattle.assignment_cycle.specs.Walk.{list_of}
use Rattle.assignment_cycle.proofs.Calls.{list_read}

pub record Given (s : Stepped) (O U : List ℕ) (k : ℕ) : Type 0 where
  pub move : s.move ≡ Some (edits (take k O) (take k U))
  pub rows : k ≤ length O
  pub values : k ≤ length U

given : (s : Stepped) (o : Option (List Edit)) (O U : List ℕ) (k : ℕ) → s.move ≡ o → answer_of o ≡ Ok (Some k) → Given s (rows_left o O) (values_left o U) k
given s None O U k e q = cc
given s (Some L) O U k e q =
    let n : length L ≡ k = cc in
    let back : list_of (Ok (Some k)) (rows_left (Some L) O) (values_left (Some L) U) ≡ Some L = ap (λ (a : Answered (Option ℕ)). list_of a (rows_left (Some L) O) (values_left (Some L) U)) (sym q) ∙ list_read (Some L) O U in
    record {
      move = e ∙ sym back;
      rows = omega (arith, length_rows L, length-append (rows_of L) (drop (length (rows_of L)) O));
      values = omega (arith, length-values L, length-append (values_of L) (drop (length (values_of L)) U));
    }

-- a record of three fields that are equal
parts : (x y : Stepping) → x ≡ y → (x.step.next ≡ y.step.next) × (x.step.answer ≡ y.step.answer) × (x.rows ≡ y.rows) × (x.values ≡ y.values)
parts x y e = (
  ap (λ (z : Stepping). z.step.next) e,
  ap (λ (z : Stepping). z.step.answer) e,
  ap (λ (z : Stepping). z.rows) e,
  ap (λ (z : Stepping). z.values) e,
)

module _ (s : Stepped) (r : Step) (O U O' U' : List ℕ) (e : leaves r O' U' ≡ answering s O U) where
  pub next_is : r.next ≡ s.next
  unfolding answering
  next_is = (parts _ _ e).0

  pub moved : (k : ℕ) → r.answer ≡ Ok (Some k) → Given s O' U' k
  unfolding answering
  moved k q =
      let (n, a, x, y) = parts _ _ e in
      rw (x, y) (given s s.move O U k refl (sym a ∙ q))

  pub finished : r.answer ≡ Ok None → s.move ≡ None
  unfolding answering
  finished q = go s.move refl (sym (parts _ _ e).1 ∙ q)
    where
      go : (o : Option (List Edit)) → s.move ≡ o → answer_of o ≡ Ok None → s.move ≡ None
      go None f w = f
      go (Some L) f w = cc

  pub unrefused : (n : Refusal) → r.answer ≡ Err n → ⊥
  unfolding answering
  unrefused n q = go s.move (sym (parts _ _ e).1 ∙ q)
    where
      go : (o : Option (List Edit)) → answer_of o ≡ Err n → ⊥
      go None w = cc
      go (Some L) w = cc
