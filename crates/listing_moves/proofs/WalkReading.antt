-- What a walk leaves, read back: its moves cut apart, how many they are, and whether one is left. Assumes nothing.
use Prim.Native.Nat.{ℕ, ◌+◌, ◌≤◌}
use mathlib.Core.Path.{◌≡◌, refl, sym, ap, ◌∙◌}
use mathlib.Core.Bool.{Bool, true, false}
use mathlib.Core.List.{List, map}
use native.Mathlib.Omega.{arith}
use lib.ListN.{length, take, drop, length-append, length-map}
use lib.Seq.{take_at}
use Rattle.std.specs.Prelude.{Ok, Err}
use Rattle.refusals.specs.declared.Refusal.{Refusal}
use Rattle.basics.specs.Edits.{rows_of, values_of}
use Rattle.basics.proofs.Edits.{length_rows, length-values}
use Rattle.outputs.specs.Outputs.{fronted}
use Rattle.outputs.proofs.Writing.{sets_front}
use Rattle.walk_answers.specs.declared.Walk.{Walk}
use Rattle.walk_answers.specs.declared.Progress.TheVariants as progress
use Rattle.assignment_walk.specs.Runs.{Run, Left, joined, leaves, counted, resumed}
use Rattle.assignment_walk.proofs.RunBounds.{Within}
use Rattle.listing_moves.specs.WalkText.{total, cut, Laid, Wide}
use Rattle.listing_moves.proofs.CutLaws.{cut-back, total-back}

-- five fields that are equal
parts : (x y : Left) → x ≡ y → (x.walk.next ≡ y.walk.next) × (x.walk.answer ≡ y.walk.answer) × (x.rows ≡ y.rows) × (x.values ≡ y.values) × (x.lengths ≡ y.lengths)
parts x y e = (
  ap (λ (z : Left). z.walk.next) e,
  ap (λ (z : Left). z.walk.answer) e,
  ap (λ (z : Left). z.rows) e,
  ap (λ (z : Left). z.values) e,
  ap (λ (z : Left). z.lengths) e,
)

-- what a count says of the walk behind it
pub record Said (done told : Bool) (n i : ℕ) : Type 0 where
  pub flag : done ≡ told
  pub number : n ≡ i

said_moves : (done : Bool) (i j n k : ℕ) → counted done i j ≡ Ok (progress.Moves n k) → Said done false n i
said_moves true i j n k e = cc
said_moves false i j n k e = record { flag = refl; number = cc }

said_done : (done : Bool) (i j n k : ℕ) → counted done i j ≡ Ok (progress.Done n k) → Said done true n i
said_done true i j n k e = record { flag = refl; number = cc }
said_done false i j n k e = cc

never_refused : (done : Bool) (i j : ℕ) (r : Refusal) → counted done i j ≡ Err r → ⊥
never_refused done i j r e = cc

module _ (R : Run) (r : Walk) (O U N O' U' N' : List ℕ) (e : leaves r O' U' N' ≡ resumed 0 0 R O U N) where
  pub next_so : r.next ≡ R.next
  unfolding resumed
  next_so = (parts _ _ e).0

  pub stopped_so : (n k : ℕ) → r.answer ≡ Ok (progress.Moves n k) → Said R.done false n (0 + length R.moves)
  unfolding resumed
  stopped_so n k q = said_moves R.done (0 + length R.moves) (0 + length (joined R.moves)) n k (sym (parts _ _ e).1 ∙ q)

  pub done_so : (n k : ℕ) → r.answer ≡ Ok (progress.Done n k) → Said R.done true n (0 + length R.moves)
  unfolding resumed
  done_so n k q = said_done R.done (0 + length R.moves) (0 + length (joined R.moves)) n k (sym (parts _ _ e).1 ∙ q)

  pub unrefused : (n : Refusal) → r.answer ≡ Err n → ⊥
  unfolding resumed
  unrefused n q = never_refused R.done (0 + length R.moves) (0 + length (joined R.moves)) n (sym (parts _ _ e).1 ∙ q)

  module _ (w : Wide O U N) (b : Within 128 128 R) (n : ℕ) (q : n ≡ 0 + length R.moves) where
    abbrev rs : List ℕ
    rs = rows_of (joined R.moves)

    abbrev vs : List ℕ
    vs = values_of (joined R.moves)

    rows_so : O' ≡ fronted rs O
    unfolding resumed
    rows_so = (parts _ _ e).2 ∙ sets_front rs O (omega (arith, length_rows (joined R.moves), b.short, w.rows))

    values_so : U' ≡ fronted vs U
    unfolding resumed
    values_so = (parts _ _ e).3 ∙ sets_front vs U (omega (arith, length-values (joined R.moves), b.short, w.values))

    lengths_so : N' ≡ fronted (map length R.moves) N
    unfolding resumed
    lengths_so = (parts _ _ e).4 ∙ sets_front (map length R.moves) N (omega (arith, length-map R.moves length, b.few, w.lengths))

    front_so : take n N' ≡ map length R.moves
    front_so =
        ap (take n) lengths_so
        ∙ take_at (map length R.moves) (drop (length (map length R.moves)) N) n (omega (arith, q, length-map R.moves length))

    pub front_long : n ≤ length N'
    front_long = omega (arith, q, ap length lengths_so, length-append (map length R.moves) (drop (length (map length R.moves)) N), length-map R.moves length)

    pub numbers_so : length (take n N') ≡ length R.moves
    numbers_so = ap length front_so ∙ length-map R.moves length

    pub laid_so : Laid (take n N') O' U'
    laid_so =
        let t : total (take n N') ≡ length (joined R.moves) = ap total front_so ∙ total-back R.moves in
        record {
          rows = omega (arith, t, ap length rows_so, length-append rs (drop (length rs) O), length_rows (joined R.moves));
          values = omega (arith, t, ap length values_so, length-append vs (drop (length vs) U), length-values (joined R.moves));
        }

    pub cut_so : cut (take n N') O' U' ≡ R.moves
    cut_so = rw (front_so, rows_so, values_so) (cut-back (drop (length rs) O) (drop (length vs) U) R.moves)
