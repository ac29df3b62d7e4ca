-- Rosters, what an edit list leaves of one, and who holds a key. docs/RULES.md, 2 and 3.
use Rattle.std.specs.Prelude.{ℕ, Bool, cond, ◌&&◌, List, [], ◌∷◌, get_or, eqb, Option}
use Rattle.basics.specs.Tests.{count_below, is}
use Rattle.basics.specs.Edits.{Edit}
use Rattle.rules.specs.Board.{Board, empty}

-- 2.1: a roster says of each row the value that it holds, or `empty`
abbrev pub Roster : Type 0
Roster = ℕ → ℕ

-- the roster that a list of held values is; past its end no row holds anything
abbrev pub roster_of : List ℕ → Roster
roster_of l r = get_or l r empty

-- 3.1: the roster with one row set
unfoldable pub put : Roster → ℕ → ℕ → Roster
put h r v i = cond (eqb i r) v (h i)

-- 3.1: the roster after the edits, the later value winning
unfoldable pub after : Roster → List Edit → Roster
after h [] = h
after h (e ∷ L) = after (put h e.row e.value) L

-- 2.2: the keys that a row holds
abbrev pub held_capacity : Board → Roster → ℕ → Option ℕ
held_capacity B h r = B.capacity r (h r)

abbrev pub held_sequence : Board → Roster → ℕ → Option ℕ
held_sequence B h r = B.sequence r (h r)

-- 2.3: the row holds the key; how many rows do
unfoldable pub holds : Board → Roster → ℕ → ℕ → Bool
holds B h k r = is k (held_capacity B h r)

unfoldable pub holders : Board → Roster → ℕ → ℕ
holders B h k = count_below B.rows (holds B h k)

-- 2.4: the row stands at a place: it holds the value v, at the sequence s
unfoldable pub stands : Board → Roster → ℕ → ℕ → ℕ → Bool
stands B h v s r = eqb (h r) v && is s (held_sequence B h r)
