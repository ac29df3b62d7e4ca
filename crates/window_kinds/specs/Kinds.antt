-- The windows of an order of so many rows, the cursor over them, and a walk, for any kind of walk. docs/RULES.md, 8.2 to 8.5, 9.4 to 9.6, 11.1 and 11.8.
use Rattle.std.specs.Prelude.{ℕ, zero, suc, ◌+◌, ◌-◌, ◌*◌, min, max, ◌≤◌, ◌<◌, ◌≡◌, ◌↔◌, Bool, true, cond, ◌&&◌, length, take, drop, eqb, ltb, leb, Option, None, Some, Ok, Err}
use mathlib.Core.List.{List, [], ◌∷◌, ◌++◌, Memᴰ}
use Rattle.refusals.specs.Refusals.{Answered}
use Rattle.basics.specs.Edits.{Edit}
use Rattle.basics.specs.Sorting.{Apart, then_by, rising}
use Rattle.refusals.specs.declared.Refusal.TheVariants as refusal
use Rattle.window_kinds.specs.declared.CycleWindowCursor.{CycleWindowCursor}

abbrev pub cursor : ℕ → ℕ → ℕ → ℕ → CycleWindowCursor
cursor s l v longest = record { start = s; length = l; variant = v; longest = longest }

-- ---- the kinds of walks

-- the shortest window, and how many tries one of so many rows has
pub record Kind : Type 0 where
  pub least : ℕ
  pub tries : ℕ → ℕ

-- 8.3: values shifted round: three rows or more, two variants
abbrev pub rematching : Kind
rematching = record { least = 3; tries = λ l. 2 }

-- 9.4: rows lifted out and put back: two rows or more, as many attempts as rows
abbrev pub reinserting : Kind
reinserting = record { least = 2; tries = λ l. l }

-- what laws ask of a kind
pub record Walkable (K : Kind) : Type 0 where
  pub some_row : 1 ≤ K.least
  pub few_least : K.least ≤ 129
  pub few_tries : (l : ℕ) → l ≤ 129 → K.tries l ≤ 129

-- 8.2, 9.4: the cursor that a walk begins with, for an order of so many rows and a size
abbrev pub first_cursor : Kind → ℕ → ℕ → CycleWindowCursor
first_cursor K count size = cursor 0 K.least 0 (max 2 (min size count))

-- 8.2, 9.4, 11.1: a new cursor
unfoldable pub new_by : ℕ → ℕ → ℕ → Answered CycleWindowCursor
new_by least count size = cond (leb count 128) (Ok (cursor 0 least 0 (max 2 (min size count)))) (Err refusal.Sizes)

abbrev pub new_cursor : Kind → ℕ → ℕ → Answered CycleWindowCursor
new_cursor K = new_by K.least

-- ---- which windows there are, and in which order

-- what f gives for i, for the next number, and so on, one behind the other: k numbers
unfoldable pub joined_from : {A : Type 0} → (ℕ → List A) → ℕ → ℕ → List A
joined_from f i zero = []
joined_from f i (suc k) = f i ++ joined_from f (suc i) k

-- 8.3, 9.4: the tries of a window, from the v-th on
unfoldable pub tries_from : Kind → ℕ → ℕ → ℕ → ℕ → List CycleWindowCursor
tries_from K longest s l v = joined_from (λ (w : ℕ). cursor s l w longest ∷ []) v (K.tries l - v)

-- 8.3, 9.4: the windows at a start from a length on, up to the longest that fits, each with its tries
unfoldable pub lengths_from : Kind → ℕ → ℕ → ℕ → ℕ → List CycleWindowCursor
lengths_from K count longest s l = joined_from (λ (m : ℕ). tries_from K longest s m 0) l (suc (min longest (count - s)) - l)

-- 8.3, 9.4: the windows from a start on, lengths from the shortest
unfoldable pub starts_from : Kind → ℕ → ℕ → ℕ → List CycleWindowCursor
starts_from K count longest s = joined_from (λ (t : ℕ). lengths_from K count longest t K.least) s (count - s)

-- 8.3, 9.4: the tries of all windows
abbrev pub positions : Kind → ℕ → ℕ → List CycleWindowCursor
positions K count longest = starts_from K count longest 0

-- 8.3: the cursor's window is one
unfoldable pub has_window : ℕ → CycleWindowCursor → Bool
has_window count c = leb c.length c.longest && leb (c.start + c.length) count

-- 8.3, 9.4: the part of the order that a cursor's window is
abbrev pub window_at : List ℕ → CycleWindowCursor → List ℕ
window_at order c = take c.length (drop c.start order)

-- 8.5, 9.5: what is still to come at a cursor: the rest of its window, the longer windows at its start, the later starts
unfoldable pub ahead : Kind → ℕ → CycleWindowCursor → List CycleWindowCursor
ahead K count c =
    cond (has_window count c) (tries_from K c.longest c.start c.length c.variant) []
    ++ (lengths_from K count c.longest c.start (suc c.length) ++ starts_from K count c.longest (suc c.start))

-- 8.3: by how many places a variant shifts
abbrev pub shift_of : CycleWindowCursor → ℕ
shift_of c = cond (eqb c.variant 0) 1 (c.length - 1)

-- ---- a step

-- a cursor, and the move that stands right before it, if one does
pub record Stepped : Type 0 where
  pub next : CycleWindowCursor
  pub move : Option (List Edit)

abbrev pub stepped : CycleWindowCursor → Option (List Edit) → Stepped
stepped c m = record { next = c; move = m }

-- 8.5, 9.5: the cursor right behind a try
abbrev pub past : CycleWindowCursor → CycleWindowCursor
past c = cursor c.start c.length (c.variant + 1) c.longest

-- 8.5, 9.5: the cursor where a walk is done
unfoldable pub end_of : Kind → ℕ → CycleWindowCursor → CycleWindowCursor
end_of K count c = cond (ltb c.start count) (cursor count K.least 0 c.longest) c

-- 8.5, 9.5: the first of the tries that is a move, and the cursor behind it; where none is, the end
abbrev pub else_later : CycleWindowCursor → Option (List Edit) → Stepped → Stepped
else_later c None later = later
else_later c (Some L) later = stepped (past c) (Some L)

unfoldable pub first_move : (CycleWindowCursor → Option (List Edit)) → CycleWindowCursor → List CycleWindowCursor → Stepped
first_move move end [] = stepped end None
first_move move end (c ∷ cs) = else_later c (move c) (first_move move end cs)

-- 8.5, 9.5: the step of a cursor over an order of so many rows
unfoldable pub step_by : Kind → (CycleWindowCursor → Option (List Edit)) → ℕ → CycleWindowCursor → Stepped
step_by K move count c = first_move move (end_of K count c) (ahead K count c)

-- ---- one try at a time, as the code goes: it has the kind as two numbers, the shortest window and the tries of this one

-- the move at the cursor, if a try is there
unfoldable pub move_here : Kind → (CycleWindowCursor → Option (List Edit)) → ℕ → CycleWindowCursor → Option (List Edit)
move_here K move count c = cond (has_window count c && ltb c.variant (K.tries c.length)) (move c) None

-- the cursor behind a try: the next try, the next length, the next start
unfoldable pub advance_by : ℕ → ℕ → ℕ → CycleWindowCursor → CycleWindowCursor
advance_by count least tries c =
    cond (has_window count c)
    (cond (ltb c.variant tries) (past c) (cursor c.start (c.length + 1) 0 c.longest))
    (cursor (c.start + 1) least 0 c.longest)

abbrev pub advance : Kind → ℕ → CycleWindowCursor → CycleWindowCursor
advance K count c = advance_by count K.least (K.tries c.length) c

-- 11.8: the cursor is one for an order of so many rows
unfoldable pub fits_by : ℕ → ℕ → ℕ → CycleWindowCursor → Bool
fits_by count least tries c =
    leb c.start count
    && (leb least c.length && leb c.length (max least c.longest))
    && leb c.variant tries
    && (leb 2 c.longest && leb c.longest (max 2 count))

abbrev pub cursor_fits : Kind → ℕ → CycleWindowCursor → Bool
cursor_fits K count c = fits_by count K.least (K.tries c.length) c

-- the same as facts
pub record Fitting (K : Kind) (count : ℕ) (c : CycleWindowCursor) : Type 0 where
  pub starts : c.start ≤ count
  pub least : K.least ≤ c.length
  pub fits : c.length ≤ max K.least c.longest
  pub tried : c.variant ≤ K.tries c.length
  pub long : 2 ≤ c.longest
  pub within : c.longest ≤ max 2 count

-- a cursor that fits, or one that it leads to: past the longest window, before the next start
pub record Walking (K : Kind) (count : ℕ) (c : CycleWindowCursor) : Type 0 where
  pub few : count ≤ 128
  pub starts : c.start ≤ count
  pub least : K.least ≤ c.length
  pub short : c.length ≤ 129
  pub tried : c.variant ≤ K.tries c.length
  pub long : c.longest ≤ 128

-- ---- what a walk does

-- the moves of so many steps, one after the other; a step that has none ends the walk
abbrev pub onward : Option (List Edit) → List (List Edit) → List (List Edit)
onward None later = []
onward (Some L) later = L ∷ later

unfoldable pub walk : (CycleWindowCursor → Stepped) → ℕ → CycleWindowCursor → List (List Edit)
walk step zero c = []
walk step (suc k) c = onward (step c).move (walk step k (step c).next)

-- the cursor after so many steps
unfoldable pub cursor_after : (CycleWindowCursor → Stepped) → ℕ → CycleWindowCursor → CycleWindowCursor
cursor_after step zero c = c
cursor_after step (suc k) c = cursor_after step k (step c).next

-- ---- what it is to give

-- the moves that some tries are, in order
abbrev pub and_move : Option (List Edit) → List (List Edit) → List (List Edit)
and_move None later = later
and_move (Some L) later = L ∷ later

unfoldable pub moves_of : (CycleWindowCursor → Option (List Edit)) → List CycleWindowCursor → List (List Edit)
moves_of move [] = []
moves_of move (c ∷ cs) = and_move (move c) (moves_of move cs)

-- 8.3, 9.4: a try of a window: no shorter than the shortest, not longer than the longest, within the order
pub record Position (K : Kind) (count longest : ℕ) (c : CycleWindowCursor) : Type 0 where
  pub same : c.longest ≡ longest
  pub least : K.least ≤ c.length
  pub fits : c.length ≤ longest
  pub inside : c.start + c.length ≤ count
  pub tried : c.variant < K.tries c.length

-- 8.3, 9.4: by start, then by length, then by variant
abbrev pub earlier : CycleWindowCursor → CycleWindowCursor → Bool
earlier =
    then_by (λ (a b : CycleWindowCursor). ltb a.start b.start)
    (then_by (λ (a b : CycleWindowCursor). ltb a.length b.length) (λ (a b : CycleWindowCursor). ltb a.variant b.variant))

-- 8.2, 8.3, 9.4: the tries of all windows of an order of so many rows, for a size
abbrev pub all_tries : Kind → ℕ → ℕ → List CycleWindowCursor
all_tries K count size = positions K count (first_cursor K count size).longest

-- the walk over an order of so many rows, for a size, whatever a try is worth
pub record Walked (K : Kind) (move : CycleWindowCursor → Option (List Edit)) (count size : ℕ) : Type 0 where
  -- every try of every window is a position, and no other
  pub each : (c : CycleWindowCursor) → Memᴰ c (all_tries K count size) ↔ Position K count (first_cursor K count size).longest c
  -- once
  pub once : Apart (all_tries K count size)
  -- in order
  pub in_order : rising earlier (all_tries K count size) ≡ true
  -- so many steps give the move of each position that is one, in that order
  pub gives : (k : ℕ) → length (all_tries K count size) ≤ k → walk (step_by K move count) k (first_cursor K count size) ≡ moves_of move (all_tries K count size)
  -- and every step after that is Done
  pub ends : (k : ℕ) → length (all_tries K count size) ≤ k → (step_by K move count (cursor_after (step_by K move count) k (first_cursor K count size))).move ≡ None
  -- how many that is at most, where no window within the longest has more than so many tries
  pub bound : (most : ℕ) → ((l : ℕ) → l ≤ (first_cursor K count size).longest → K.tries l ≤ most)
      → length (all_tries K count size) ≤ count * ((suc (first_cursor K count size).longest - K.least) * most)
