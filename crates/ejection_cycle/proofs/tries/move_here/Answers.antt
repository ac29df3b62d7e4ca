-- `ejection_cycle::tries::move_here` meets its contract: a part of the order is handed on, if there is one. Assumes nothing.
use mathlib.Core.Path.{ap}
use mathlib.Core.Bool.{not}
use Rattle.assignment_tables.specs.Tables.{the_board}
use Rattle.assignment_index.specs.Index.{the_roster}
use Rattle.window_kinds.specs.Kinds.{reinserting}
use Rattle.window_kinds.proofs.CursorLaws.{part-is, part-within, short_window}
use Rattle.window_kinds.proofs.StepLaws.{no_window, no_try, at_try}
use Rattle.ejection_cycle.proofs.MoveLaws.{window_given}
use Rattle.ejection_cycle.proofs.tries.move_here.Goals as goal

pub returns-then-not-has_window : goal.returns-then-not-has_window
returns-then-not-has_window c = no_window reinserting _ _ _ _ c.has_window.ensures _ _ (ap not c.if-not-has_window.true)

pub slice_bounds-window_move-end : goal.slice_bounds-window_move-end
slice_bounds-window_move-end c = part-within c.args.order.now c.args.cursor _ c.has_window.ensures (ap not c.if-not-has_window.false)

pub window_move-requires : goal.window_move-requires
window_move-requires c = record { returning = c.requires.returning; window_len_bound = short_window c.args.order.now c.args.cursor _ c.has_window.ensures (ap not c.if-not-has_window.false) c.requires.walking.few; roomy = c.requires.roomy }

pub returns-then-cursor : goal.returns-then-cursor
returns-then-cursor c = at_try reinserting _ _ _ _ c.has_window.ensures _ _ (ap not c.if-not-has_window.false) c.if-cursor.true _ _ _
    (window_given (the_board c.args.tables.now) (the_roster c.args.tables.now c.args.index.now) c.args.limit c.args.order.now c.args.cursor _ (part-is c.args.order.now c.args.cursor.start c.args.cursor.length) _ _ _ _ _ c.window_move.ensures)

pub returns : goal.returns
returns c = no_try reinserting _ _ _ _ c.has_window.ensures _ _ (ap not c.if-not-has_window.false) c.if-cursor.false
