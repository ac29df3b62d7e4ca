-- The roster that the records make. Assumes nothing.
use Prim.Native.Nat.{ℕ, zero, suc, ◌+◌, ◌≤◌, ◌<◌}
use mathlib.Core.Path.{◌≡◌, refl, sym, ap, fun_ext, ◌∙◌}
use mathlib.Core.List.{List}
use native.Mathlib.Nat.{le_antisymm}
use native.Mathlib.Numerals.{add-one}
use native.Mathlib.Omega.{arith}
use lib.Dec.{eqb}
use lib.ListN.{length, get_or, set, replicate, length-set, length-replicate}
use lib.Seq.{get_or-set_same, get_or-set_other}
use borrow.Author.Tests.{eq-eqb, ne_eqb, eqb-true, eqb-false}
use Rattle.basics.proofs.Bools.{either, and_false}
use Rattle.basics.proofs.Maps.{get_d_replicate_any}
use Rattle.rules.specs.Board.{empty}
use Rattle.rules.specs.Roster.{roster_of}
use Rattle.listing_reading.specs.Cells.{record_in}
use Rattle.listing_shape.specs.FileBoard.{last_below, file_roster}
use Rattle.listing_tables.specs.Filled.{Fitting, seated}

module _ (cells s : List ℕ) where
  pub seated_none : s ≡ seated cells 0 s
  unfolding seated
  seated_none = refl

  pub seated-here : (i : ℕ) (t : List ℕ) → t ≡ seated cells i s → (record_in cells i).now ≡ 1 → set t (record_in cells i).row (record_in cells i).value ≡ seated cells (i + 1) s
  unfolding seated
  seated-here i t e h = rw (e, add-one i, eq-eqb (record_in cells i).now 1 h)

  pub seated_not : (i : ℕ) (t : List ℕ) → t ≡ seated cells i s → ((record_in cells i).now ≡ 1 → ⊥) → t ≡ seated cells (i + 1) s
  unfolding seated
  seated_not i t e h = rw (add-one i, ne_eqb (record_in cells i).now 1 h) e

  pub seated-length : (n : ℕ) → length (seated cells n s) ≡ length s
  unfolding seated
  seated-length zero = refl
  seated-length (suc n) =
      either (eqb (record_in cells n).now 1)
      (λ t. rw t (length-set (seated cells n s) (record_in cells n).row (record_in cells n).value ∙ seated-length n))
      (λ f. rw f (seated-length n))

  pub seated_end : (i n : ℕ) (t : List ℕ) → t ≡ seated cells i s → i ≤ n → n ≤ i → t ≡ seated cells n s
  seated_end i n t e a b = e ∙ ap (λ (k : ℕ). seated cells k s) (le_antisymm a b)

pub roster_long : (cells : List ℕ) (rows i : ℕ) (t : List ℕ) → t ≡ seated cells i (replicate rows empty) → length t ≡ rows
roster_long cells rows i t e = ap length e ∙ seated-length cells (replicate rows empty) i ∙ length-replicate rows empty

-- ---- the roster

seated_at : (cells : List ℕ) (rows r n : ℕ) → ((i : ℕ) → i < n → (record_in cells i).row < rows)
    → get_or (seated cells n (replicate rows empty)) r empty ≡ file_roster n (record_in cells) r
unfolding seated last_below
seated_at cells rows r zero h = get_d_replicate_any rows r empty
seated_at cells rows r (suc n) h =
    let before = seated cells n (replicate rows empty) in
    let rest = seated_at cells rows r n (λ i l. h i (omega arith)) in
    either (eqb (record_in cells n).now 1)
    (λ t. either (eqb (record_in cells n).row r)
    (λ u.
    let e = eqb-true (record_in cells n).row r u in
    let l : (record_in cells n).row < length before = rw (seated-length cells (replicate rows empty) n, length-replicate rows empty) (h n (omega arith)) in
    rw (t, u) (ap (λ (k : ℕ). get_or (set before (record_in cells n).row (record_in cells n).value) k empty) (sym e) ∙ get_or-set_same before (record_in cells n).row (record_in cells n).value empty l))
    (λ u. rw (t, u) (get_or-set_other before (record_in cells n).row r (record_in cells n).value empty (λ e. eqb-false (record_in cells n).row r u (sym e)) ∙ rest)))
    (λ f. rw (f, and_false (eqb (record_in cells n).row r)) rest)

-- 12.2: the list that was filled is the file's roster
pub roster_filled : (cells : List ℕ) (n rows values : ℕ) → Fitting cells n rows values → roster_of (seated cells n (replicate rows empty)) ≡ file_roster n (record_in cells)
roster_filled cells n rows values fit = fun_ext (λ r. seated_at cells rows r n fit.row)
