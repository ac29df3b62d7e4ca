-- Who holds a key, who arrives at it and leaves it, and whether it then has room. docs/RULES.md, 3.4.
use Rattle.std.specs.Prelude.{ℕ, ◌+◌, ◌≤◌, ◌≡◌, Bool, ◌&&◌, List, length, get_or, ltb, Option}
use Rattle.basics.specs.Tests.{is, count_below}
use Rattle.basics.specs.Edits.{edits}
use Rattle.rules.specs.Board.{Board}
use Rattle.rules.specs.Roster.{Roster, after}
use Rattle.rules.specs.FinalTest.{key_passes}
use Rattle.membership.specs.Canonical.{is_under}
use Rattle.assignment_index.specs.Columns.{column, records_length, members_length}
use Rattle.assignment_index.specs.Index.{part_of, by_capacity}

-- the records of n rows have the row hold the key
abbrev pub holds_in : ℕ → List ℕ → ℕ → ℕ → Bool
holds_in n R k = is_under 0 (column n 1 R) (column n 2 R) (column n 2 R) k k

-- how many of them do
abbrev pub held_by : ℕ → List ℕ → ℕ → ℕ
held_by n R k = count_below n (holds_in n R k)

-- what counting them by the index asks
pub record Countable (n : ℕ) (R M : List ℕ) : Type 0 where
  pub few_rows : n ≤ 128
  pub records_long : length R ≡ records_length n
  pub members_long : length M ≡ members_length n
  pub by_key : column (n + 1) 0 M ≡ part_of n by_capacity R

-- the i-th listed row has the key under its new value
abbrev pub arrives_at : (ℕ → ℕ → Option ℕ) → List ℕ → List ℕ → ℕ → ℕ → Bool
arrives_at capacity rs vs k i = is k (capacity (get_or rs i 0) (get_or vs i 0))

-- the i-th listed row holds the key
abbrev pub leaves_at : ℕ → List ℕ → List ℕ → ℕ → ℕ → Bool
leaves_at n R rs k i = holds_in n R k (get_or rs i 0)

-- how many listed rows do
abbrev pub departing : ℕ → List ℕ → List ℕ → ℕ → ℕ
departing n R rs k = count_below (length rs) (leaves_at n R rs k)

-- some listed row leaves the key
abbrev pub left_by : ℕ → List ℕ → List ℕ → ℕ → Bool
left_by n R rs k = ltb 0 (departing n R rs k)

-- a key, if there is one, has room after the list
abbrev pub key_room : Board → Roster → List ℕ → List ℕ → Option ℕ → Bool
key_room B h rs vs o = key_passes B (after h (edits rs vs)) o

-- the key that the i-th edit's row leaves has, and the one that it arrives at
abbrev pub old_room : Board → Roster → List ℕ → List ℕ → ℕ → Bool
old_room B h rs vs i = key_room B h rs vs (B.capacity (get_or rs i 0) (h (get_or rs i 0)))

abbrev pub new_room : Board → Roster → List ℕ → List ℕ → ℕ → Bool
new_room B h rs vs i = key_room B h rs vs (B.capacity (get_or rs i 0) (get_or vs i 0))

-- both keys of the i-th edit have
abbrev pub edit_room : Board → Roster → List ℕ → List ℕ → ℕ → Bool
edit_room B h rs vs i =
    key_room B h rs vs (B.capacity (get_or rs i 0) (h (get_or rs i 0))) && key_room B h rs vs (B.capacity (get_or rs i 0) (get_or vs i 0))
