-- All that a C caller sees of a question, of a list applied, of a search, of the order, of a cursor's step, of a walk, of an ejection and of a calendar: code, numbers, cursor and outputs, as one thing. docs/RULES.md, 3, 6 to 9, 11 and 13.
use Rattle.std.specs.Prelude.{ℕ, List, Bool}
use Rattle.std.specs.Result.{result_unwrap_or}
use Rattle.refusals.specs.Refusals.{Answered}
use Rattle.refusals.specs.Codes.{yes_flag, some_flag, some_count, code}
use Rattle.assignment_path.specs.Searching.{Searched}
use Rattle.applied_lists.specs.Applying.{Applied}
use Rattle.assignment_order.specs.Ordered as order
use Rattle.window_kinds.specs.declared.CycleWindowCursor.{CycleWindowCursor}
use Rattle.window_kinds.specs.Stepping.{Stepping}
use Rattle.assignment_walk.specs.Runs as walk
use Rattle.walk_answers.specs.Codes.{walk_flag, walk_moves, walk_edits}
use Rattle.assignment_ejection.specs.Ejected as ejection
use Rattle.driver_calendar.specs.Calendars as calendar
use Rattle.calendar_reading.specs.Reading as duties
use Rattle.search_codes.specs.Codes.{search_flag, search_count, search_asks}

-- a question: a code, and the answer, 1 or 0
pub record Judged : Type 0 where
  pub code : ℕ
  pub answer : ℕ

abbrev pub judged : ℕ → ℕ → Judged
judged code answer = record { code = code; answer = answer }

-- 3
abbrev pub verdict_told : Answered Bool → ℕ → Judged
verdict_told w before = judged (code w) (yes_flag w before)

-- a list tested and applied: a code, the answer, and both slices of the index
pub record Altered : Type 0 where
  pub code : ℕ
  pub answer : ℕ
  pub records : List ℕ
  pub members : List ℕ

abbrev pub altered : ℕ → ℕ → List ℕ → List ℕ → Altered
altered code answer records members = record { code = code; answer = answer; records = records; members = members }

-- 3.11
abbrev pub apply_told : Applied → ℕ → Altered
apply_told w before = altered (code w.answer) (yes_flag w.answer before) w.records w.members

-- a search: a code, whether there is a move, how many asks were made, the number of its edits, and both outputs
pub record Sought : Type 0 where
  pub code : ℕ
  pub found : ℕ
  pub asks : ℕ
  pub count : ℕ
  pub rows : List ℕ
  pub values : List ℕ

abbrev pub sought : ℕ → ℕ → ℕ → ℕ → List ℕ → List ℕ → Sought
sought code found asks count rows values = record {
  code = code;
  found = found;
  asks = asks;
  count = count;
  rows = rows;
  values = values;
}

-- 6
abbrev pub search_told : Searched → ℕ → ℕ → ℕ → Sought
search_told w found asks count =
    sought (code w.answer) (search_flag w.answer found) (search_asks w.answer asks) (search_count w.answer count) w.rows w.values

-- the order: a code, the number of rows, and the output
pub record Ordered : Type 0 where
  pub code : ℕ
  pub count : ℕ
  pub rows : List ℕ

abbrev pub ordered : ℕ → ℕ → List ℕ → Ordered
ordered code count rows = record { code = code; count = count; rows = rows }

-- 8.1
abbrev pub order_told : order.Left → ℕ → Ordered
order_told w count = ordered (code w.answer) (result_unwrap_or w.answer count) w.rows

-- a new cursor, with its code
pub record Begun : Type 0 where
  pub code : ℕ
  pub at : CycleWindowCursor

abbrev pub begun : ℕ → CycleWindowCursor → Begun
begun code at = record { code = code; at = at }

-- 8.2
abbrev pub new_cursor_told : Answered CycleWindowCursor → CycleWindowCursor → Begun
new_cursor_told w before = begun (code w) (result_unwrap_or w before)

-- a step: a code, whether there is a move, the number of its edits, the cursor, and both outputs
pub record Walked : Type 0 where
  pub code : ℕ
  pub moved : ℕ
  pub count : ℕ
  pub at : CycleWindowCursor
  pub rows : List ℕ
  pub values : List ℕ

abbrev pub walked : ℕ → ℕ → ℕ → CycleWindowCursor → List ℕ → List ℕ → Walked
walked code moved count at rows values = record {
  code = code;
  moved = moved;
  count = count;
  at = at;
  rows = rows;
  values = values;
}

-- 8.5
abbrev pub step_told : Stepping → ℕ → ℕ → Walked
step_told w moved count =
    walked (code w.step.answer) (some_flag w.step.answer moved) (some_count w.step.answer count) w.step.next w.rows w.values

-- a walk in one call: a code, whether no move is left, the numbers of moves and of edits, the cursor, and the three outputs
pub record Traversed : Type 0 where
  pub code : ℕ
  pub done : ℕ
  pub moves : ℕ
  pub edits : ℕ
  pub at : CycleWindowCursor
  pub rows : List ℕ
  pub values : List ℕ
  pub lengths : List ℕ

abbrev pub traversed : ℕ → ℕ → ℕ → ℕ → CycleWindowCursor → List ℕ → List ℕ → List ℕ → Traversed
traversed code done moves edits at rows values lengths = record {
  code = code;
  done = done;
  moves = moves;
  edits = edits;
  at = at;
  rows = rows;
  values = values;
  lengths = lengths;
}

-- 8.8
abbrev pub walk_told : walk.Left → ℕ → ℕ → ℕ → Traversed
walk_told w done moves edits =
    traversed (code w.walk.answer) (walk_flag w.walk.answer done) (walk_moves w.walk.answer moves) (walk_edits w.walk.answer edits) w.walk.next w.rows w.values w.lengths

-- an ejection: a code, whether there is a list, the number of its edits, and both outputs
pub record Lifted : Type 0 where
  pub code : ℕ
  pub listed : ℕ
  pub count : ℕ
  pub rows : List ℕ
  pub values : List ℕ

abbrev pub lifted : ℕ → ℕ → ℕ → List ℕ → List ℕ → Lifted
lifted code listed count rows values = record {
  code = code;
  listed = listed;
  count = count;
  rows = rows;
  values = values;
}

-- 9
abbrev pub ejection_told : ejection.Left → ℕ → ℕ → Lifted
ejection_told w listed count =
    lifted (code w.answer) (some_flag w.answer listed) (some_count w.answer count) w.rows w.values

-- a calendar that is written: a code, the number of its octets, and the output
pub record Exported : Type 0 where
  pub code : ℕ
  pub written : ℕ
  pub out : List ℕ

abbrev pub exported : ℕ → ℕ → List ℕ → Exported
exported code written out = record { code = code; written = written; out = out }

-- 13.6
abbrev pub calendar_told : calendar.Left → ℕ → Exported
calendar_told w written = exported (code w.answer) (result_unwrap_or w.answer written) w.out

-- a calendar that is read: a code, the number of duties, and both outputs
pub record Imported : Type 0 where
  pub code : ℕ
  pub count : ℕ
  pub rows : List ℕ
  pub days : List ℕ

abbrev pub imported : ℕ → ℕ → List ℕ → List ℕ → Imported
imported code count rows days = record { code = code; count = count; rows = rows; days = days }

-- 13.7
abbrev pub duties_told : duties.Left → ℕ → Imported
duties_told w count = imported (code w.answer) (result_unwrap_or w.answer count) w.rows w.days
