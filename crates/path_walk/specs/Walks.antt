-- The walk of a blocker's alternatives, and what it asks of the slices that it reads. docs/RULES.md, 6.5.
use Rattle.std.specs.Prelude.{ℕ, ◌≡◌, Bool, true, List}
use Rattle.basics.specs.Edits.{Edit}
use Rattle.rules.specs.Board.{Board}
use Rattle.rules.specs.Roster.{Roster}
use Rattle.assignment_tables.specs.declared.Shape.{Shape}
use Rattle.assignment_tables.specs.Refusal.{all_candidates_fit}
use Rattle.assignment_tables.specs.declared.Tables.{Tables}
use Rattle.assignment_index.specs.declared.Index.{Index}
use Rattle.assignment_index.specs.Index.{Indexed, of_index}
use Rattle.search_rules.specs.Search.{Terms, Reply, closed, walk, try_row}

-- 6.5: one alternative of the row b, which is to make way for r at v: it is tried from the list, and what it finds is closed
abbrev pub alternative : Board → Roster → Terms → ℕ → (ℕ → Bool) → ℕ → ℕ → ℕ → List Edit → ℕ → ℕ → Reply
alternative B h q depth visiting r v b L a n = closed B h r v (try_row B h q depth visiting b a L n)

-- 6.5: the walk of such alternatives, but for the value held, from a number of asks
abbrev pub walking : Board → Roster → Terms → ℕ → (ℕ → Bool) → ℕ → ℕ → ℕ → List Edit → ℕ → List ℕ → ℕ → Reply
walking B h q depth visiting r v b L held xs n = walk q held (alternative B h q depth visiting r v b L) xs n

-- what a search asks of the slices that it reads
pub record Searchable (S : Shape) (m k R M : List ℕ) : Type 0 where
  pub index : Indexed S m k R M
  pub candidates_fit : all_candidates_fit S m ≡ true

abbrev pub IsSearchable : Tables → Index → Type 0
IsSearchable = of_index Searchable
