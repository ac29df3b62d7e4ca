-- Opening a file, case by case: what the cells say of rows and values is what the file's records say. Assumes nothing.
use Prim.Native.Nat.{ℕ, ◌≤◌, ◌<◌}
use mathlib.Core.Path.{◌≡◌, refl, sym, ap, ap₂, ◌∙◌}
use mathlib.Core.Bool.{true, ◌&&◌}
use mathlib.Core.List.{List}
use native.Mathlib.Omega.{arith}
use lib.Dec.{leb}
use lib.ListN.{length, drop}
use borrow.Author.Tests.{le-leb}
use Rattle.std.specs.Prelude.{Option, None, Some, Err, false}
use Rattle.std.proofs.lemmas.Option.{MatchOption-at_none, MatchOption-at_some}
use Rattle.refusals.specs.declared.Refusal.TheVariants as refusal
use Rattle.assignment_tables.specs.declared.Shape.{Shape}
use Rattle.listing_format.specs.Format.{Record, record_at, Accepted}
use Rattle.listing_format.proofs.ReadBack.{one_reading, records_few}
use Rattle.listing_reading.specs.Cells.{record_in, written, Roster, RosterIs}
use Rattle.listing_reading.proofs.AgreementLaws.{record_back}
use Rattle.listing_shape.specs.FileBoard.{count_over, board_of}
use Rattle.listing_shape.specs.Counts.{file_shape}
use Rattle.listing_shape.specs.Opening.{in_limits, size_refusal, Unopened, Open}
use Rattle.listing_shape.proofs.CountLaws.{count_same, told, not_told}

-- ---- records that stand in the cells

module _ (input before C : List ℕ) (n : ℕ) (read : Roster input before C n) where
  abbrev rs : List Record
  rs = read.list

  pub same_record : (i : ℕ) → i < n → record_in C i ≡ record_at rs i
  same_record i l = ap (λ (c : List ℕ). record_in c i) read.cells ∙ record_back rs (drop (length (written rs)) before) i (omega (arith, read.number))

  pub few_records : n ≤ 7300
  few_records = omega (arith, read.number, records_few input rs read.accepted)

  same_count : (f : Record → ℕ) → count_over n (λ (i : ℕ). f (record_in C i)) ≡ count_over (length rs) (λ (i : ℕ). f (record_at rs i))
  same_count f = count_same _ _ n (λ i l. ap f (same_record i l)) ∙ ap (λ (k : ℕ). count_over k (λ (i : ℕ). f (record_at rs i))) read.number

  same_limits : leb (count_over n (λ (i : ℕ). (record_in C i).row)) 128 && leb (count_over n (λ (i : ℕ). (record_in C i).value)) 64 ≡ in_limits (board_of rs)
  unfolding in_limits
  same_limits = ap₂ (λ (a b : ℕ). leb a 128 && leb b 64) (same_count (λ (x : Record). x.row)) (same_count (λ (x : Record). x.value))

  -- where a shape is told, the file is within the limits
  pub in_limits_lem : (S : Shape) → Some S ≡ file_shape C n → in_limits (board_of rs) ≡ true
  in_limits_lem S e =
      let w = told C n S e in
      sym same_limits ∙ rw (← w.rows, ← w.values, le-leb _ _ w.few_rows, le-leb _ _ w.few_values)

  past_limits : None ≡ file_shape C n → Err refusal.Sizes ≡ size_refusal rs
  past_limits e =
      let over : in_limits (board_of rs) ≡ false = sym same_limits ∙ not_told C n e in
      rw over

  -- the one list of records that the input is the file of decides
  too_large_so : None ≡ file_shape C n → Unopened input refusal.Sizes
  too_large_so e = record {
    file = λ other a. past_limits e ∙ ap (λ (l : List Record). size_refusal l) (one_reading input rs other read.accepted a);
    malformed = λ none. absurd (none rs read.accepted);
  }

-- ---- what was read, and what was counted

module _ (input before C : List ℕ) (r : Option ℕ) (q : RosterIs input before C r) where
  pub not_a_file : r ≡ None → Unopened input refusal.Malformed
  not_a_file e =
      let none : (rs : List Record) → Accepted input rs → ⊥ = MatchOption-at_none _ _ e q in
      record { file = λ rs a. absurd (none rs a); malformed = λ n. refl }

  pub read_so : (n : ℕ) → r ≡ Some n → Roster input before C n
  read_so n e = MatchOption-at_some _ _ n e q

  module _ (n : ℕ) (e : r ≡ Some n) (f : Option Shape) (g : f ≡ file_shape C n) where
    pub too_large : f ≡ None → Unopened input refusal.Sizes
    too_large o = too_large_so input before C n (read_so n e) (sym o ∙ g)

    pub opened_so : (S : Shape) → f ≡ Some S → Open input before C S n
    opened_so S o = record { records = read_so n e; told = sym o ∙ g }
