-- Prospects that were judged are remembered, a number for each row and value. docs/RULES.md, 6.2: a prospect depends on tables, roster and displacement alone.
use Rattle.std.specs.Prelude.{ℕ, ◌+◌, ◌*◌, ◌<◌, ◌≡◌, ◌⊎◌, Bool, true, false, cond, ◌&&◌, List, eqb, ltb, get_or, set, replicate}
use Rattle.rules.specs.Board.{Board}
use Rattle.rules.specs.Roster.{Roster}
use Rattle.assignment_tables.specs.declared.Shape.{Shape}
use Rattle.assignment_tables.specs.Tables.{board}
use Rattle.assignment_index.specs.Index.{roster_in}
use Rattle.path_steps.specs.declared.Prospect.{Prospect}
use Rattle.path_steps.specs.declared.Prospect.TheVariants as prospect
use Rattle.path_steps.specs.Prospects.{prospect_of}

-- 0 is for a prospect that was not judged yet
unfoldable pub prospect_number : Prospect → ℕ
prospect_number prospect.Fails = 1
prospect_number prospect.Free = 2
prospect_number (prospect.Blocked b) = b + 3

-- each number, row by row, is 0 or that of its row and value
pub record Remembers (B : Board) (on : Bool) (h : Roster) (memo : List ℕ) : Type 0 where
  pub right : (r v : ℕ) → r < B.rows → v < B.values → (get_or memo (r * B.values + v) 0 ≡ 0) ⊎ (get_or memo (r * B.values + v) 0 ≡ prospect_number (prospect_of B on h r v))

-- the same of lent tables and records
abbrev pub Recalls : Shape → List ℕ → List ℕ → List ℕ → Bool → List ℕ → Type 0
Recalls S m k R on memo = Remembers (board S m k) on (roster_in S.rows R) memo

-- what a row and a value have in the memory; 0 where they have no cell in it
unfoldable pub remembered_at : Shape → List ℕ → ℕ → ℕ → ℕ
remembered_at S memo r v = cond (ltb r S.rows && ltb v S.values) (get_or memo (r * S.values + v) 0) 0

-- the memory once the prospect of a row and a value stands in their cell, if they have one
unfoldable pub noted_in : Shape → List ℕ → ℕ → ℕ → Prospect → List ℕ
noted_in S memo r v x = cond (ltb r S.rows && ltb v S.values) (set memo (r * S.values + v) (prospect_number x)) memo

-- the row does not take the value as it stands
unfoldable pub not_free : Prospect → Bool
not_free prospect.Fails = true
not_free prospect.Free = false
not_free (prospect.Blocked b) = true

-- 6.2: a try at the depth fails for sure: as deep as it may be, only a free row succeeds; further up, the memory has it that it fails at every depth
unfoldable pub hopeless_at : Board → Bool → Roster → Shape → List ℕ → ℕ → ℕ → ℕ → Bool
hopeless_at B on h S memo depth r v = cond (eqb depth 0) (not_free (prospect_of B on h r v)) (eqb (remembered_at S memo r v) 1)

-- a memory of nothing, with a cell for every row and value
unfoldable pub nothing_yet : List ℕ
nothing_yet = replicate 8192 0
