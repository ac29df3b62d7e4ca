-- What reading a list asks, as the final test does or as the reinsertion test does. docs/RULES.md, 3.2, 3.3 and 5.1.
use Rattle.std.specs.Prelude.{ℕ, Bool, not, ◌&&◌, ◌||◌, List, get_or, eqb, ltb}
use Rattle.basics.specs.Tests.{all}
use Rattle.basics.specs.Edits.{Edit, fresh}
use Rattle.rules.specs.Board.{Board, empty, legal_or_empty}
use Rattle.rules.specs.Roster.{Roster}
use Rattle.rules.specs.FinalTest.{reads, may_become}
use Rattle.assignment_tables.specs.declared.Shape.{Shape}
use Rattle.assignment_tables.specs.Tables.{required_at, may_empty_at, legal_at}

-- the list reads and, where that is asked, each row may become what its edit makes it
unfoldable pub list_reads : Bool → Board → Roster → List Edit → Bool
list_reads last B h L = reads B L && (not last || all (may_become B h) L)

-- the same of one edit, by the tables
unfoldable pub edit_fits : Bool → Shape → List ℕ → ℕ → ℕ → Bool
edit_fits last S m r v =
    ltb r S.rows && (legal_or_empty (may_empty_at S m) (legal_at S m) r v && (not last || not (eqb v empty && required_at S m r)))

-- and of one entry of a list in two slices
unfoldable pub entry_reads : Bool → Shape → List ℕ → List ℕ → List ℕ → ℕ → Bool
entry_reads last S m rs vs i = edit_fits last S m (get_or rs i 0) (get_or vs i 0) && fresh rs i
