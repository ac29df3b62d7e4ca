-- Board T with roster A, worked out: rows 0 and 1 are required, the capacity key is the value, and every row has the candidates 0, 1, 2. Row 0 holds 0, row 1
-- holds 1, row 3 holds 2, and row 2 nothing. Assumes nothing.
use Prim.Native.Nat.{ℕ}
use mathlib.Core.Path.{◌≡◌, refl}
use mathlib.Core.List.{List, [], ◌∷◌}
use Rattle.std.specs.Prelude.{Option, None, Some}
use Rattle.basics.specs.Tests.{all, all_below, count_below, list_below, among, distinct, is}
use Rattle.basics.specs.Edits.{Edit, edits, rows_of}
use Rattle.rules.specs.Board.{empty, limited, legal_or_empty, places}
use Rattle.rules.specs.Roster.{roster_of, put, after, holds, holders}
use Rattle.rules.specs.FinalTest.{edit_reads, reads, key_passes, key_at}
use Rattle.rules.specs.Reinsertion.{reinserts}
use Rattle.rotation.specs.Rotation.{rotated}
use Rattle.assignment_tables.specs.Cells.{row_flag, cell_flag, cell_key}
use Rattle.assignment_tables.specs.Tables.{candidates_at}
use Rattle.blackboard.specs.BoardT.{board_t, roster_a}
use Rattle.changed_edits.specs.Changed.{changed}
use Rattle.ejection_turns.specs.Ejection.{first_that, allowed_at, taken, stuck, put_back, ejection}

-- a window, the number of an attempt, and the list: rows, values
unfoldable pub tried : Option ℕ → ℕ → List ℕ → Option (List Edit)
tried limit attempt window = ejection board_t (roster_of roster_a) limit attempt window

-- each row finds its own value again; from candidate 2 on, the two rows change places
unfoldable pub found : List (Option (List Edit))
found =
    tried None 0 (0 ∷ 1 ∷ [])
    ∷ tried None 2 (0 ∷ 3 ∷ [])
    -- a row twice, which no list may name: an optional row is emptied, a required one gives none
    ∷ tried None 0 (3 ∷ 3 ∷ [])
    ∷ tried None 0 (0 ∷ 0 ∷ [])
    -- no candidate is offered: row 3 is emptied, row 2 is empty already, row 1 is required
    ∷ tried (Some 0) 0 (3 ∷ 2 ∷ [])
    ∷ tried (Some 0) 0 (3 ∷ 1 ∷ [])
    -- a row out of range holds nothing, and stays so
    ∷ tried None 5 (7 ∷ [])
    ∷ []

pub cases : found
    ≡ Some []
    ∷ Some (record { row = 0; value = 2 } ∷ record { row = 3; value = 0 } ∷ [])
    ∷ Some (record { row = 3; value = empty } ∷ record { row = 3; value = empty } ∷ [])
    ∷ None
    ∷ Some (record { row = 3; value = empty } ∷ [])
    ∷ None
    ∷ Some []
    ∷ []
unfolding found tried ejection put_back taken stuck first_that allowed_at changed rotated list_below board_t roster_a all all_below count_below among distinct is rows_of edits limited candidates_at legal_or_empty places put after holds holders edit_reads reads key_passes key_at reinserts row_flag cell_flag cell_key
cases = refl
