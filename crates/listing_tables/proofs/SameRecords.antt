-- Records that are the same below a number make the same board and the same roster. Assumes nothing.
use Prim.Native.Nat.{ℕ, ◌<◌}
use mathlib.Core.Path.{◌≡◌, refl, ap, fun_ext, ◌∙◌}
use mathlib.Core.Bool.{Bool}
use Rattle.std.specs.Prelude.{Option, None, Some, is_some, option_and_then}
use Rattle.listing_format.specs.Format.{Record}
use Rattle.listing_shape.specs.FileBoard.{count_over, last_below, names, holds, value_there, file_board, file_roster}
use Rattle.listing_tables.proofs.ScatterLaws.{last_same, last_below_lem}
use Rattle.listing_shape.proofs.CountLaws.{count_same}

module _ (n : ℕ) (at other : ℕ → Record) (same : (i : ℕ) → i < n → at i ≡ other i) where
  counts_agree : (f : Record → ℕ) → count_over n (λ (i : ℕ). f (at i)) ≡ count_over n (λ (i : ℕ). f (other i))
  counts_agree f = count_same _ _ n (λ i l. ap f (same i l))

  -- what is read off the record that was found
  module _ (p : ℕ → Bool) where
    key_agrees : (f : Record → Option ℕ) (o : Option ℕ) → last_below n p ≡ o → option_and_then (λ (i : ℕ). f (at i)) o ≡ option_and_then (λ (i : ℕ). f (other i)) o
    key_agrees f None e = refl
    key_agrees f (Some i) e = ap f (same i (last_below_lem n p i e).0)

    value_agrees : (f : Record → ℕ) (o : Option ℕ) → last_below n p ≡ o → value_there (λ (i : ℕ). f (at i)) o ≡ value_there (λ (i : ℕ). f (other i)) o
    value_agrees f None e = refl
    value_agrees f (Some i) e = ap f (same i (last_below_lem n p i e).0)

  named-agree : (r v : ℕ) → last_below n (names at r v) ≡ last_below n (names other r v)
  named-agree r v = last_same n (names at r v) (names other r v) (λ i l. ap (λ (x : Record). names (λ (j : ℕ). x) r v i) (same i l))

  held-agree : (r : ℕ) → last_below n (holds at r) ≡ last_below n (holds other r)
  held-agree r = last_same n (holds at r) (holds other r) (λ i l. ap (λ (x : Record). holds (λ (j : ℕ). x) r i) (same i l))

  keys-agree : (f : Record → Option ℕ) (r v : ℕ) → option_and_then (λ (i : ℕ). f (at i)) (last_below n (names at r v)) ≡ option_and_then (λ (i : ℕ). f (other i)) (last_below n (names other r v))
  keys-agree f r v = key_agrees (names at r v) f (last_below n (names at r v)) refl ∙ ap (option_and_then (λ (i : ℕ). f (other i))) (named-agree r v)

  pub board_agrees : file_board n at ≡ file_board n other
  board_agrees = λ k. record {
    rows = counts_agree (λ (x : Record). x.row) k;
    values = counts_agree (λ (x : Record). x.value) k;
    required = (file_board n at).required;
    may_empty = (file_board n at).may_empty;
    candidates = (file_board n at).candidates;
    legal = fun_ext (λ r. fun_ext (λ v. ap is_some (named-agree r v))) k;
    capacity = fun_ext (λ r. fun_ext (keys-agree (λ (x : Record). x.capacity) r)) k;
    sequence = fun_ext (λ r. fun_ext (keys-agree (λ (x : Record). x.sequence) r)) k;
    rule = (file_board n at).rule;
    edge = (file_board n at).edge;
  }

  pub roster_agrees : file_roster n at ≡ file_roster n other
  roster_agrees = fun_ext (λ r. value_agrees (holds at r) (λ (x : Record). x.value) (last_below n (holds at r)) refl ∙ ap (value_there (λ (i : ℕ). (other i).value)) (held-agree r))
