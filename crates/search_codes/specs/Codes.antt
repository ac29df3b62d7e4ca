-- The limit of candidates from a number, and what a search answers as a C caller sees it: what is written beside its code where nothing is refused. docs/RULES.md, 6 and 11.
use Rattle.std.specs.Prelude.{ℕ, cond, eqb, Option, None, Some, Ok, Err}
use Rattle.refusals.specs.Refusals.{Answered}
use Rattle.rules.specs.Board.{empty}
use Rattle.search_codes.specs.declared.Search.{Search}
use Rattle.search_codes.specs.declared.Search.TheVariants as search

-- how many candidates of a row are offered: the last number is all of them
unfoldable pub limited : ℕ → Option ℕ
limited most = cond (eqb most empty) None (Some most)

-- 1 with a move, 0 without; a refusal leaves what was there
abbrev pub search_flag : Answered Search → ℕ → ℕ
search_flag (Err n) before = before
search_flag (Ok (search.Move n asks)) before = 1
search_flag (Ok (search.NoMove asks)) before = 0

-- how many edits the move has; without a move what was there
abbrev pub search_count : Answered Search → ℕ → ℕ
search_count (Err n) before = before
search_count (Ok (search.Move n asks)) before = n
search_count (Ok (search.NoMove asks)) before = before

-- how many asks were made, with a move and without; a refusal leaves what was there
abbrev pub search_asks : Answered Search → ℕ → ℕ
search_asks (Err n) before = before
search_asks (Ok (search.Move n asks)) before = asks
search_asks (Ok (search.NoMove asks)) before = asks
