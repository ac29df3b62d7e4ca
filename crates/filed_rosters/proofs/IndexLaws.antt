-- The tables, the roster and the index that were filled from records are the file's, and are admitted. Assumes nothing.
use Prim.Native.Nat.{ℕ}
use mathlib.Core.Path.{◌≡◌, refl, sym, ap, ◌∙◌}
use mathlib.Core.Bool.{true}
use mathlib.Core.List.{List}
use Rattle.std.specs.Prelude.{Option, None, Some}
use native.Mathlib.Omega.{arith}
use lib.Dec.{eqb}
use lib.ListN.{length, replicate, length-replicate, get_or-eq_default}
use lib.IntN.{ℤ}
use borrow.Author.Tests.{lt-ltb}
use Rattle.basics.proofs.Bools.{or_right}
use Rattle.rules.specs.Board.{empty}
use Rattle.rules.specs.Roster.{Roster, roster_of}
use Rattle.assignment_tables.specs.declared.Shape.{Shape}
use Rattle.assignment_tables.specs.Layout.{Small, Marked, marks_length, keys_length, ranks_length}
use Rattle.assignment_tables.specs.Tables.{board, ranks_of}
use Rattle.assignment_tables.specs.Refusal.{Admitted}
use Rattle.assignment_tables.proofs.RefusalLaws.{small}
use Rattle.assignment_index.specs.Columns.{records_length, members_length}
use Rattle.assignment_index.specs.Index.{members_of, roster_in}
use Rattle.assignment_index.proofs.Records.{records-length}
use Rattle.assignment_index.proofs.Changes.{members_length_lem}
use Rattle.assignment_refresh.proofs.Kept.{Within, roster_records, roster_now}
use Rattle.assignment_state.specs.Admission.{holdable, Ready}
use Rattle.assignment_updates.proofs.Afresh.{index_ready}
use Rattle.listing_reading.specs.Cells.{record_in}
use Rattle.listing_shape.specs.FileBoard.{last_below, holds, value_there, file_ranks, file_board, file_roster}
use Rattle.listing_shape.proofs.CountLaws.{Told, told}
use Rattle.listing_tables.specs.Filled.{Fitting, file_marks, file_keys, seated}
use Rattle.listing_tables.proofs.FillLaws.{fits_told}
use Rattle.listing_tables.proofs.ScatterLaws.{last_below_lem, scatter_length}
use Rattle.listing_tables.proofs.BoardLaws.{board-filled, ranks-filled, candidates_none}
use Rattle.listing_tables.proofs.RosterLaws.{roster_filled, roster_long}
use Rattle.filed_rosters.specs.Filing.{Counted, file_records, file_members}

module _ (C : List ℕ) (n : ℕ) (S : Shape) where
  pub marks_long : length (file_marks S C n) ≡ marks_length S
  unfolding file_marks
  marks_long = simp (scatter_length, length-replicate) refl

  pub keys_long : length (file_keys S C n) ≡ keys_length S
  unfolding file_keys
  keys_long = simp (scatter_length, length-replicate) refl

  pub records_long : length (file_records S C n) ≡ records_length S.rows
  unfolding file_records
  records_long = records-length S.rows _ _ _

  pub members_long : length (file_members S C n) ≡ members_length S.rows
  members_long = members_length_lem S.rows (file_records S C n)

module _ (C : List ℕ) (n : ℕ) (S : Shape) (w : Counted C n S) where
  pub shape-told : Told C n S
  shape-told = told C n S w.told

  pub fits : Fitting C n S.rows S.values
  fits = fits_told C n S w.room shape-told

  pub is-small : Small S
  is-small = small S shape-told.few_rows shape-told.few_values

  pub marked : (m : List ℕ) → length m ≡ marks_length S → Marked S m
  marked m l = record { small = is-small; marks_long = l }

  abbrev h : Roster
  h = file_roster n (record_in C)

  same_seats : roster_of (seated C n (replicate S.rows empty)) ≡ h
  same_seats = roster_filled C n S.rows S.values fits

  -- ---- the index

  module _ (m k vs R M : List ℕ) (em : m ≡ file_marks S C n) (ek : k ≡ file_keys S C n) (ev : vs ≡ seated C n (replicate S.rows empty)) (eR : R ≡ roster_records S m k (roster_of vs)) (eM : M ≡ members_of S.rows R) where
    pub records_filed : R ≡ file_records S C n
    unfolding file_records
    records_filed = eR ∙ ap (λ (g : Roster). roster_records S m k g) (ap roster_of ev ∙ same_seats) ∙ rw (em, ek) refl

    pub members_filed : M ≡ file_members S C n
    members_filed = eM ∙ ap (members_of S.rows) records_filed

  -- ---- what was filled

  pub board_filed : board S (file_marks S C n) (file_keys S C n) ≡ file_board n (record_in C)
  board_filed = board-filled S C n fits shape-told.rows shape-told.values shape-told.no_rule

  pub ranks_none : (p : List ℤ) → ranks_of S (file_marks S C n) p ≡ file_ranks
  ranks_none p = ranks-filled S C n fits p

  admitted : (p : List ℤ) → length p ≡ ranks_length S → Admitted S (file_marks S C n) (file_keys S C n) p
  admitted p l = record { marked = marked (file_marks S C n) (marks_long C n S); keys_long = keys_long C n S; ranks_long = l; candidates_fit = candidates_none S C n fits }

  past_rows : Within S.rows h
  past_rows r l = ap (λ (g : Roster). g r) (sym same_seats) ∙ get_or-eq_default (seated C n (replicate S.rows empty)) empty (omega (arith, roster_long C S.rows n (seated C n (replicate S.rows empty)) refl))

  held-value : (r : ℕ) (o : Option ℕ) → last_below n (holds (record_in C) r) ≡ o → holdable S (value_there (λ (i : ℕ). (record_in C i).value) o) ≡ true
  unfolding holdable
  held-value r None e = refl
  held-value r (Some i) e = or_right (eqb (record_in C i).value empty) _ (lt-ltb _ _ (fits.value i (last_below_lem n (holds (record_in C) r) i e).0))

  pub ready_filed : (p : List ℤ) → length p ≡ ranks_length S → Ready S (file_marks S C n) (file_keys S C n) p (file_records S C n) (file_members S C n)
  unfolding file_records
  ready_filed p l = index_ready S (file_marks S C n) (file_keys S C n) p (admitted p l) h past_rows (λ r g. held-value r (last_below n (holds (record_in C) r)) refl)

  pub roster_filed : roster_in S.rows (file_records S C n) ≡ h
  unfolding file_records
  roster_filed =
      roster_now S (file_marks S C n) (file_keys S C n) (marked (file_marks S C n) (marks_long C n S)) (keys_long C n S) h past_rows (file_records S C n) (file_members S C n) refl refl
