-- Zeros, to make ranks and an index in. docs/RULES.md, 12.
use Rattle.std.specs.Prelude.{ℕ, List, replicate, ℤ, pos}

-- room for the ranks, the records and the members of 128 rows
unfoldable pub no_ranks : List ℤ
no_ranks = replicate 256 (pos 0)

unfoldable pub records_room : List ℕ
records_room = replicate 640 0

unfoldable pub members_room : List ℕ
members_room = replicate 387 0
