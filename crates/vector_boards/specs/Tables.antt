-- Tables from words, and what is set in them. A cell that is not there is not set, which is `set`.
use Rattle.std.specs.Prelude.{ℕ, zero, suc, ◌+◌, ◌-◌, ◌*◌, ◌/◌, ◌%◌, cond, List, eqb, ltb, ℤ, pos, negsuc, get_or}
use Rattle.vector_boards.specs.declared.tables.Filled.{Filled}
use Rattle.vector_words.specs.Words.{ahead}
use Rattle.vector_cells.specs.Cells.{set_below, copied_at}

unfoldable pub next_seed : ℕ → ℕ
next_seed seed = (seed % 2147483648 * 1103515245 + 12345) % 2147483648

unfoldable pub seed_after : ℕ → ℕ → ℕ
seed_after seed zero = seed
seed_after seed (suc n) = next_seed (seed_after seed n)

-- which of so many colours a seed picks
unfoldable pub colour : ℕ → ℕ → ℕ
colour seed colours = let picked = seed / 65536 % colours in cond (eqb colours 0) 0 picked

-- cell i of a choice: the words are the seed, the number of colours, the colours
unfoldable pub picked_at : List ℕ → ℕ → ℕ → ℕ
picked_at words at i = get_or words (ahead at (ahead 2 (colour (seed_after (get_or words at 0) (suc i)) (get_or words (ahead at 1) 0)))) 0

-- a segment is its number of cells, 0 for a copy or 1 for a choice, and what that reads: where the next one begins, and how many cells are there then
unfoldable pub behind_segment : List ℕ → Filled → Filled
behind_segment words filled =
    let count = get_or words filled.at 0 in
    let behind = ahead filled.at 2 in
    let picked = ahead (ahead behind 2) (get_or words (ahead behind 1) 0) in
    record { at = cond (eqb (get_or words (ahead filled.at 1) 0) 0) (ahead behind count) picked; cells = ahead filled.cells count }

-- and its cells, put behind those that are there
unfoldable pub segment_in : List ℕ → Filled → List ℕ → List ℕ
segment_in words filled cells =
    let count = get_or words filled.at 0 in
    let behind = ahead filled.at 2 in
    let picked = set_below (ahead filled.cells) (picked_at words behind) count cells in
    cond (eqb (get_or words (ahead filled.at 1) 0) 0) (set_below (ahead filled.cells) (copied_at words behind) count cells) picked

-- so many segments
unfoldable pub behind_segments : List ℕ → Filled → ℕ → Filled
behind_segments words filled zero = filled
behind_segments words filled (suc n) = behind_segment words (behind_segments words filled n)

unfoldable pub segments_in : List ℕ → Filled → ℕ → List ℕ → List ℕ
segments_in words filled zero cells = cells
segments_in words filled (suc n) cells = segment_in words (behind_segments words filled n) (segments_in words filled n cells)

-- a table is the number of its segments, and they
unfoldable pub begun : ℕ → Filled
begun at = record { at = ahead at 1; cells = 0 }

unfoldable pub behind_table : List ℕ → ℕ → Filled
behind_table words at = behind_segments words (begun at) (get_or words at 0)

unfoldable pub table_in : List ℕ → ℕ → List ℕ → List ℕ
table_in words at cells = segments_in words (begun at) (get_or words at 0) cells

-- the bytes of the first cells
unfoldable pub mark_at : List ℕ → ℕ → ℕ
mark_at cells i = get_or cells i 0 % 256

unfoldable pub to_marks : List ℕ → ℕ → List ℕ → List ℕ
to_marks cells count marks = set_below (λ (i : ℕ). i) (mark_at cells) count marks

-- a number of 64 bits as the signed one of the same bits
unfoldable pub signed : ℕ → ℤ
signed number = cond (ltb number 9223372036854775808) (pos number) (negsuc (18446744073709551615 - number))

unfoldable pub rank_at : List ℕ → ℕ → ℤ
rank_at cells i = signed (get_or cells i 0)

unfoldable pub to_ranks : List ℕ → ℕ → List ℤ → List ℤ
to_ranks cells count ranks = set_below (λ (i : ℕ). i) (rank_at cells) count ranks
