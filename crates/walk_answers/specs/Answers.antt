-- Whether a walk has room for one more move; a walk that stopped where the next move does not fit, one that has no next move, and one that is refused. docs/RULES.md, 8.8.
use Rattle.std.specs.Prelude.{ℕ, ◌-◌, Bool, not, ◌&&◌, eqb, leb, Ok, Err}
use Rattle.refusals.specs.declared.Refusal.{Refusal}
use Rattle.window_kinds.specs.declared.CycleWindowCursor.{CycleWindowCursor}
use Rattle.walk_answers.specs.declared.Walk.{Walk}
use Rattle.walk_answers.specs.declared.Progress.TheVariants as progress

-- 8.8: after so many moves of at most `most`, and so many edits of a room, there is room for a move of `count` edits
unfoldable pub move_fits : ℕ → ℕ → ℕ → ℕ → ℕ → Bool
move_fits most moves room edits count = not (eqb moves most) && leb count (room - edits)

abbrev pub stopped_walk : CycleWindowCursor → ℕ → ℕ → Walk
stopped_walk c i j = record { next = c; answer = Ok (progress.Moves i j) }

abbrev pub finished_walk : CycleWindowCursor → ℕ → ℕ → Walk
finished_walk c i j = record { next = c; answer = Ok (progress.Done i j) }

abbrev pub refused_walk : CycleWindowCursor → Refusal → Walk
refused_walk c r = record { next = c; answer = Err r }
