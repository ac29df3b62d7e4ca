-- A run, a step at a time, and what is written behind what. Assumes nothing.
use Prim.Native.Nat.{ℕ, zero, suc, ◌+◌, ◌-◌, ◌≤◌, ◌<◌}
use mathlib.Core.Path.{◌≡◌, refl, ap, ap₂, ◌∙◌}
use mathlib.Core.List.{List, [], ◌∷◌, ◌++◌, map}
use Rattle.std.specs.Prelude.{None, Some}
use native.Mathlib.Nat.{add-zero}
use native.Mathlib.Omega.{arith}
use lib.ListN.{length, set, length-append}
use lib.Seq.{sets}
use borrow.Author.Tests.{le-leb, lt-leb}
use Rattle.refusals.specs.Refusals.{Answered}
use Rattle.basics.specs.Edits.{Edit, rows_of, values_of}
use Rattle.basics.proofs.Edits.{rows_append, length_rows, length-values}
use Rattle.basics.proofs.Maps.{sets_append}
use Rattle.window_kinds.specs.declared.CycleWindowCursor.{CycleWindowCursor}
use Rattle.window_kinds.specs.Kinds.{Stepped}
use Rattle.walk_answers.specs.declared.Progress.{Progress}
use Rattle.assignment_walk.specs.Runs.{Run, stopped, finished, with_move, run, joined, leaves, counted, resumed}

module _ (step : CycleWindowCursor → Stepped) (c : CycleWindowCursor) where
  pub run_done : (step c).move ≡ None → (b a : ℕ) → run step b a c ≡ finished (step c).next
  unfolding run
  run_done e zero a = rw e
  run_done e (suc b) a = rw e

  module _ (L : List Edit) (e : (step c).move ≡ Some L) where
    pub run_full : (b a : ℕ) → b ≡ 0 → run step b a c ≡ stopped c
    unfolding run
    run_full b a z = rw (z, e)

    pub run_long : (b a : ℕ) → a < length L → run step b a c ≡ stopped c
    unfolding run
    run_long zero a l = rw e
    run_long (suc b) a l = rw (e, lt-leb (length L) a l)

    pub run_more : (b a : ℕ) → length L ≤ a → run step (suc b) a c ≡ with_move L (run step b (a - length L) (step c).next)
    unfolding run
    run_more b a l = rw (e, le-leb (length L) a l)

pub values-append : (L M : List Edit) → values_of (L ++ M) ≡ values_of L ++ values_of M
values-append [] M = refl
values-append (e ∷ L) M = ap (λ (l : List ℕ). e.value ∷ l) (values-append L M)

pub joined-more : (L : List Edit) (moves : List (List Edit)) → joined (L ∷ moves) ≡ L ++ joined moves
unfolding joined
joined-more L moves = refl

-- four fields that are equal
same_left : {n n' : CycleWindowCursor} {a a' : Answered Progress} {O O' U U' N N' : List ℕ} → n ≡ n' → a ≡ a' → O ≡ O' → U ≡ U' → N ≡ N'
    → leaves (record { next = n; answer = a }) O U N ≡ leaves (record { next = n'; answer = a' }) O' U' N'
same_left p q x y z = rw (p, q, x, y, z)

module _ (i j : ℕ) (O U N : List ℕ) where
  -- nothing more is written
  pub resumed_none : (r : Run) → r.moves ≡ [] → resumed i j r O U N ≡ leaves (record { next = r.next; answer = counted r.done i j }) O U N
  unfolding resumed joined rows_of
  resumed_none r e = rw (e, add-zero i, add-zero j)

  -- a move, and then the rest behind it
  module _ (L : List Edit) (r : Run) where
    rows_on : sets O j (rows_of (joined (L ∷ r.moves))) ≡ sets (sets O j (rows_of L)) (j + length L) (rows_of (joined r.moves))
    rows_on =
        ap (λ (M : List Edit). sets O j (rows_of M)) (joined-more L r.moves)
        ∙ ap (sets O j) (rows_append L (joined r.moves))
        ∙ sets_append O j (rows_of L) (rows_of (joined r.moves))
        ∙ ap (λ (k : ℕ). sets (sets O j (rows_of L)) (j + k) (rows_of (joined r.moves))) (length_rows L)

    values_on : sets U j (values_of (joined (L ∷ r.moves))) ≡ sets (sets U j (values_of L)) (j + length L) (values_of (joined r.moves))
    values_on =
        ap (λ (M : List Edit). sets U j (values_of M)) (joined-more L r.moves)
        ∙ ap (sets U j) (values-append L (joined r.moves))
        ∙ sets_append U j (values_of L) (values_of (joined r.moves))
        ∙ ap (λ (k : ℕ). sets (sets U j (values_of L)) (j + k) (values_of (joined r.moves))) (length-values L)

    edits_on : j + length (joined (L ∷ r.moves)) ≡ j + length L + length (joined r.moves)
    edits_on = omega (arith, ap length (joined-more L r.moves), length-append L (joined r.moves))

    moves_on : i + length (L ∷ r.moves) ≡ i + 1 + length r.moves
    moves_on = omega arith

    next_place : suc i ≡ i + 1
    next_place = omega arith

    pub resumed-more : resumed i j (with_move L r) O U N ≡ resumed (i + 1) (j + length L) r (sets O j (rows_of L)) (sets U j (values_of L)) (set N i (length L))
    unfolding resumed
    resumed-more =
        same_left refl (ap₂ (counted r.done) moves_on edits_on) rows_on values_on
        (ap (λ (k : ℕ). sets (set N i (length L)) k (map length r.moves)) next_place)
