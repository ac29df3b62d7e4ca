-- No second result meets a contract of this crate. The two exports that are lent a struct are in `LentDetermined`. Assumes nothing.
use mathlib.Core.Path.{ap}
use Rattle.basics.specs.Promises.{Fixes, FixesAnswer, ◌&◌}
use Rattle.basics.proofs.Promises.{alike, both}
use Rattle.engine.proofs.abi
use Rattle.engine.proofs.apply
use Rattle.engine.proofs.calendars
use Rattle.engine.proofs.conflicts
use Rattle.engine.proofs.ejections
use Rattle.engine.proofs.index
use Rattle.engine.proofs.search
use Rattle.engine.proofs.questions
use Rattle.engine.proofs.windows

pub turepawon_abi : FixesAnswer abi.turepawon_abi.Reads.Post
turepawon_abi κs a r s e f = alike

-- the answer, `answer`, `records` and `members`
pub turepawon_assignment_apply_edits : Fixes apply.turepawon_assignment_apply_edits.Reads.Post λ κs r e. r & e.1.1.1.1.1.1.1.1.1.1.0.now & e.1.1.1.1.1.1.0.now & e.1.1.1.1.1.1.1.0.now
turepawon_assignment_apply_edits κs a r s e f p q = ap (λ x. x.code & x.answer & x.records & x.members) (alike p q)

-- the answer, `written` and `out`
pub turepawon_driver_calendar : Fixes calendars.turepawon_driver_calendar.Reads.Post λ κs r e. r & e.1.1.1.1.1.1.1.1.1.1.1.0.now & e.1.1.1.1.1.1.1.1.1.1.0.now
turepawon_driver_calendar κs a r s e f p q = ap (λ x. x.code & x.written & x.out) (alike p q)

-- the answer, `count`, `out_rows` and `out_days`
pub turepawon_read_calendar : Fixes calendars.turepawon_read_calendar.Reads.Post λ κs r e. r & e.1.1.1.0.now & e.1.0.now & e.1.1.0.now
turepawon_read_calendar κs a r s e f p q = ap (λ x. x.code & x.count & x.rows & x.days) (alike p q)

-- the answer, `count`, `out_keys` and `out_rows`
pub turepawon_capacity_conflicts : Fixes conflicts.turepawon_capacity_conflicts.Reads.Post λ κs r e. r & e.1.1.1.1.1.1.1.1.1.1.0.now & e.1.1.1.1.1.1.1.1.0.now & e.1.1.1.1.1.1.1.1.1.0.now
turepawon_capacity_conflicts κs a r s e f p q = both (alike p.0 q.0) (both (alike p.1.0 q.1.0) (both (alike p.1.1.0 q.1.1.0) (alike p.1.1.1 q.1.1.1)))

pub turepawon_tables_refusal : FixesAnswer index.turepawon_tables_refusal.Reads.Post
turepawon_tables_refusal κs a r s e f = alike

pub turepawon_admit : FixesAnswer index.turepawon_admit.Reads.Post
turepawon_admit κs a r s e f = alike

-- the answer, `records` and `members`
pub turepawon_build_index : Fixes index.turepawon_build_index.Reads.Post λ κs r e. r & e.1.1.1.1.1.1.1.0.now & e.1.1.1.1.1.1.1.1.0.now
turepawon_build_index κs a r s e f p q = both (alike p.0 q.0) (both (alike p.1.0 q.1.0) (alike p.1.1 q.1.1))

-- the answer, `records` and `members`
pub turepawon_refresh_rows : Fixes index.turepawon_refresh_rows.Reads.Post λ κs r e. r & e.1.1.1.1.1.1.0.now & e.1.1.1.1.1.1.1.0.now
turepawon_refresh_rows κs a r s e f p q = both (alike p.0 q.0) (both (alike p.1.0 q.1.0) (alike p.1.1 q.1.1))

-- the answer, `found`, `asks`, `count`, `out_rows` and `out_values`
pub turepawon_assignment_move_for_entity_value : Fixes search.turepawon_assignment_move_for_entity_value.Reads.Post λ κs r e. r & e.1.1.1.1.1.1.1.1.1.1.1.1.1.1.1.1.0.now & e.1.1.1.1.1.1.1.1.1.1.1.1.1.1.1.1.1.0.now & e.1.1.1.1.1.1.1.1.1.1.1.1.1.1.1.1.1.1.0.now & e.1.1.1.1.1.1.1.1.1.1.1.1.1.1.0.now & e.1.1.1.1.1.1.1.1.1.1.1.1.1.1.1.0.now
turepawon_assignment_move_for_entity_value κs a r s e f p q = ap (λ x. x.code & x.found & x.asks & x.count & x.rows & x.values) (alike p q)

-- the answer and `most`
pub turepawon_ask_ceiling : Fixes search.turepawon_ask_ceiling.Reads.Post λ κs r e. r & e.1.1.0.now
turepawon_ask_ceiling κs a r s e f p q = ap (λ x. x.code & x.most) (alike p q)

-- the answer and `answer`
pub turepawon_assignment_feasible_after-edits : Fixes questions.turepawon_assignment_feasible_after_edits.Reads.Post λ κs r e. r & e.1.1.1.1.1.1.1.1.1.1.0.now
turepawon_assignment_feasible_after-edits κs a r s e f p q = both (alike p.0 q.0) (alike p.1 q.1)

-- the answer and `answer`
pub turepawon_reinsert_value-allowed : Fixes questions.turepawon_reinsert_value_allowed.Reads.Post λ κs r e. r & e.1.1.1.1.1.1.1.1.1.1.1.1.0.now
turepawon_reinsert_value-allowed κs a r s e f p q = both (alike p.0 q.0) (alike p.1 q.1)

-- the answer and `answer`
pub turepawon_roster_sound : Fixes questions.turepawon_roster_sound.Reads.Post λ κs r e. r & e.1.1.1.1.1.1.1.1.0.now
turepawon_roster_sound κs a r s e f p q = both (alike p.0 q.0) (alike p.1 q.1)

-- the answer, `count` and `out_rows`
pub turepawon_assigned_entities_by_position : Fixes windows.turepawon_assigned_entities_by_position.Reads.Post λ κs r e. r & e.1.1.1.1.1.1.1.1.1.1.0.now & e.1.1.1.1.1.1.1.1.1.0.now
turepawon_assigned_entities_by_position κs a r s e f p q = ap (λ x. x.code & x.count & x.rows) (alike p q)

-- the answer, `start`, `length`, `variant` and `longest`
pub turepawon_new_cursor : Fixes windows.turepawon_new_cursor.Reads.Post λ κs r e. r & e.1.1.0.now & e.1.1.1.0.now & e.1.1.1.1.0.now & e.1.1.1.1.1.0.now
turepawon_new_cursor κs a r s e f p q = ap (λ x. x.code & x.at.start & x.at.length & x.at.variant & x.at.longest) (alike p q)

-- the answer, `moved`, `count`, `start`, `length`, `variant`, `longest`, `out_rows` and `out_values`
pub turepawon_next_augmenting_rematch : Fixes windows.turepawon_next_augmenting_rematch.Reads.Post λ κs r e. r & e.1.1.1.1.1.1.1.1.1.1.1.1.1.1.1.0.now & e.1.1.1.1.1.1.1.1.1.1.1.1.1.1.1.1.0.now & e.1.1.1.1.1.1.1.1.1.0.now & e.1.1.1.1.1.1.1.1.1.1.0.now & e.1.1.1.1.1.1.1.1.1.1.1.0.now & e.1.1.1.1.1.1.1.1.1.1.1.1.0.now & e.1.1.1.1.1.1.1.1.1.1.1.1.1.0.now & e.1.1.1.1.1.1.1.1.1.1.1.1.1.1.0.now
turepawon_next_augmenting_rematch κs a r s e f p q = ap (λ x. x.code & x.moved & x.count & x.at.start & x.at.length & x.at.variant & x.at.longest & x.rows & x.values) (alike p q)

-- the answer, `done`, `moves`, `edits`, `start`, `length`, `variant`, `longest`, `out_rows`, `out_values` and `out_lengths`
pub turepawon_walk_augmenting_rematch : Fixes windows.turepawon_walk_augmenting_rematch.Reads.Post λ κs r e. r & e.1.1.1.1.1.1.1.1.1.1.1.1.1.1.1.1.0.now & e.1.1.1.1.1.1.1.1.1.1.1.1.1.1.1.1.1.0.now & e.1.1.1.1.1.1.1.1.1.1.1.1.1.1.1.1.1.1.0.now & e.1.1.1.1.1.1.1.1.1.0.now & e.1.1.1.1.1.1.1.1.1.1.0.now & e.1.1.1.1.1.1.1.1.1.1.1.0.now & e.1.1.1.1.1.1.1.1.1.1.1.1.0.now & e.1.1.1.1.1.1.1.1.1.1.1.1.1.0.now & e.1.1.1.1.1.1.1.1.1.1.1.1.1.1.0.now & e.1.1.1.1.1.1.1.1.1.1.1.1.1.1.1.0.now
turepawon_walk_augmenting_rematch κs a r s e f p q = ap (λ x. x.code & x.done & x.moves & x.edits & x.at.start & x.at.length & x.at.variant & x.at.longest & x.rows & x.values & x.lengths) (alike p q)

-- the answer, `listed`, `count`, `out_rows` and `out_values`
pub turepawon_ejection_reinsert_edits : Fixes windows.turepawon_ejection_reinsert_edits.Reads.Post λ κs r e. r & e.1.1.1.1.1.1.1.1.1.1.1.1.1.0.now & e.1.1.1.1.1.1.1.1.1.1.1.1.1.1.0.now & e.1.1.1.1.1.1.1.1.1.1.1.0.now & e.1.1.1.1.1.1.1.1.1.1.1.1.0.now
turepawon_ejection_reinsert_edits κs a r s e f p q = ap (λ x. x.code & x.listed & x.count & x.rows & x.values) (alike p q)

-- the answer, `start`, `length`, `variant` and `longest`
pub turepawon_new_ejection-cursor : Fixes ejections.turepawon_new_ejection_cursor.Reads.Post λ κs r e. r & e.1.1.0.now & e.1.1.1.0.now & e.1.1.1.1.0.now & e.1.1.1.1.1.0.now
turepawon_new_ejection-cursor κs a r s e f p q = ap (λ x. x.code & x.at.start & x.at.length & x.at.variant & x.at.longest) (alike p q)

-- the answer, `moved`, `count`, `start`, `length`, `variant`, `longest`, `out_rows` and `out_values`
pub turepawon_next_ejection_reinsert : Fixes ejections.turepawon_next_ejection_reinsert.Reads.Post λ κs r e. r & e.1.1.1.1.1.1.1.1.1.1.1.1.1.1.1.1.0.now & e.1.1.1.1.1.1.1.1.1.1.1.1.1.1.1.1.1.0.now & e.1.1.1.1.1.1.1.1.1.0.now & e.1.1.1.1.1.1.1.1.1.1.0.now & e.1.1.1.1.1.1.1.1.1.1.1.0.now & e.1.1.1.1.1.1.1.1.1.1.1.1.0.now & e.1.1.1.1.1.1.1.1.1.1.1.1.1.1.0.now & e.1.1.1.1.1.1.1.1.1.1.1.1.1.1.1.0.now
turepawon_next_ejection_reinsert κs a r s e f p q = ap (λ x. x.code & x.moved & x.count & x.at.start & x.at.length & x.at.variant & x.at.longest & x.rows & x.values) (alike p q)
