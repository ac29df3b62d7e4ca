-- A walk's answer as a C caller sees it: what is written beside its code where nothing is refused. docs/RULES.md, 8.8 and 11.
use Rattle.std.specs.Prelude.{ℕ, Ok, Err}
use Rattle.refusals.specs.Refusals.{Answered}
use Rattle.walk_answers.specs.declared.Progress.{Progress}
use Rattle.walk_answers.specs.declared.Progress.TheVariants as progress

-- 1 where no move is left, 0 where one is; a refusal leaves what was there
abbrev pub walk_flag : Answered Progress → ℕ → ℕ
walk_flag (Ok (progress.Moves moves edits)) before = 0
walk_flag (Ok (progress.Done moves edits)) before = 1
walk_flag (Err r) before = before

-- how many moves were written; a refusal leaves what was there
abbrev pub walk_moves : Answered Progress → ℕ → ℕ
walk_moves (Ok (progress.Moves moves edits)) before = moves
walk_moves (Ok (progress.Done moves edits)) before = moves
walk_moves (Err r) before = before

-- how many edits these moves have in all; a refusal leaves what was there
abbrev pub walk_edits : Answered Progress → ℕ → ℕ
walk_edits (Ok (progress.Moves moves edits)) before = edits
walk_edits (Ok (progress.Done moves edits)) before = edits
walk_edits (Err r) before = before
