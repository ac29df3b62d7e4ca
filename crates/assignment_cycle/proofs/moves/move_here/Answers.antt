-- `assignment_cycle::moves::move_here` meets its contract: a part of the order is handed on, if there is one. Assumes nothing.
use mathlib.Core.Path.{ap}
use mathlib.Core.Bool.{not}
use Rattle.assignment_tables.specs.Tables.{the_board}
use Rattle.assignment_index.specs.Index.{the_roster}
use Rattle.window_kinds.specs.Kinds.{rematching}
use Rattle.window_kinds.proofs.CursorLaws.{part-is, part-within, short_window}
use Rattle.window_kinds.proofs.StepLaws.{no_window, no_try, at_try}
use Rattle.assignment_cycle.proofs.MoveLaws.{window_given}
use Rattle.assignment_cycle.proofs.moves.move_here.Goals as goal

pub returns-then-not-has_window : goal.returns-then-not-has_window
returns-then-not-has_window c = no_window rematching _ _ _ _ c.has_window.ensures _ _ (ap not c.if-not-has_window.true)

pub slice_bounds-window_move-end : goal.slice_bounds-window_move-end
slice_bounds-window_move-end c = part-within c.args.order.now c.args.cursor _ c.has_window.ensures (ap not c.if-not-has_window.false)

pub window_move-requires : goal.window_move-requires
window_move-requires c = record { indexed = c.requires.indexed; window_len_bound = short_window c.args.order.now c.args.cursor _ c.has_window.ensures (ap not c.if-not-has_window.false) c.requires.walking.few; roomy = c.requires.roomy }

pub returns-then-cursor-lt-REMATCH_TRIES : goal.returns-then-cursor-lt-REMATCH_TRIES
returns-then-cursor-lt-REMATCH_TRIES c = at_try rematching _ _ _ _ c.has_window.ensures _ _ (ap not c.if-not-has_window.false) c.if-cursor-lt-REMATCH_TRIES.true _ _ _
    (window_given (the_board c.args.tables.now) (the_roster c.args.tables.now c.args.index.now) _ _ _ _ (part-is c.args.order.now c.args.cursor.start c.args.cursor.length) c.shift_of.ensures _ _ _ _ _ c.window_move.ensures)

pub returns : goal.returns
returns c = no_try rematching _ _ _ _ c.has_window.ensures _ _ (ap not c.if-not-has_window.false) c.if-cursor-lt-REMATCH_TRIES.false
