-- The same of the two exports that are lent a struct. Assumes nothing.
use mathlib.Core.Path.{◌≡◌, refl, ap}
use contract.Lifetimes.{Lfts}
use denote.Triple.Clauses.{AtExit}
use denote.Triple.Entry.{Args, Res}
use Rattle.basics.specs.Promises.{Fixes, ◌&◌}
use Rattle.basics.proofs.Promises.{alike}
use Rattle.assignment_overlay.specs.Verdicts.{final_verdict}
use Rattle.edit_records.specs.Records.{rows_in, values_in}
use Rattle.assignment_cycle.specs.Stepping.{stepping}
use Rattle.engine.specs.Asked.{shaped}
use Rattle.engine.specs.Told.{Judged, judged, verdict_told, Walked, walked, step_told}
use Rattle.engine.specs.contracts.lent.turepawon_assignment_feasible_after_edit_records as feasible
use Rattle.engine.specs.contracts.lent.turepawon_next_augmenting_rematch_at as step
use Rattle.engine.proofs.lent

-- what the contracts say, written out
abbrev pub FeasiblePost : (κs : Lfts (feasible.signature).lifetimes) → Args feasible.signature κs → Res feasible.signature κs → AtExit feasible.ended κs → Type 0
FeasiblePost κs a r e =
    judged r e.1.1.1.1.1.1.1.1.1.0.now ≡ verdict_told (final_verdict (shaped a.1.0 a.1.1.0 a.1.1.1.0) a.1.1.1.1.0.now a.1.1.1.1.1.0.now a.1.1.1.1.1.1.0.now a.1.1.1.1.1.1.1.0.now a.1.1.1.1.1.1.1.1.0.now (rows_in a.0.now) (values_in a.0.now)) a.1.1.1.1.1.1.1.1.1.0.now

pub feasible_says : (κs : _) (a : _) (r : _) (e : _) → lent.turepawon_assignment_feasible_after_edit_records.Reads.Post κs a r e ≡ FeasiblePost κs a r e
feasible_says κs a r e = refl

pub turepawon_assignment_feasible_after_edit_records : Fixes FeasiblePost λ κs r e. r & e.1.1.1.1.1.1.1.1.1.0.now
turepawon_assignment_feasible_after_edit_records κs a r s e f p q = ap (λ (x : Judged). x.code & x.answer) (alike p q)

abbrev pub StepPost : (κs : Lfts (step.signature).lifetimes) → Args step.signature κs → Res step.signature κs → AtExit step.ended κs → Type 0
StepPost κs a r e =
    walked r e.1.1.1.1.1.1.1.1.1.1.1.1.0.now e.1.1.1.1.1.1.1.1.1.1.1.1.1.0.now e.0.now e.1.1.1.1.1.1.1.1.1.1.0.now e.1.1.1.1.1.1.1.1.1.1.1.0.now
    ≡ step_told (stepping (shaped a.1.0 a.1.1.0 a.1.1.1.0) a.1.1.1.1.0.now a.1.1.1.1.1.0.now a.1.1.1.1.1.1.0.now a.1.1.1.1.1.1.1.0.now a.1.1.1.1.1.1.1.1.0.now a.1.1.1.1.1.1.1.1.1.0.now a.0.now a.1.1.1.1.1.1.1.1.1.1.0.now a.1.1.1.1.1.1.1.1.1.1.1.0.now) a.1.1.1.1.1.1.1.1.1.1.1.1.0.now a.1.1.1.1.1.1.1.1.1.1.1.1.1.0.now

pub step_says : (κs : _) (a : _) (r : _) (e : _) → lent.turepawon_next_augmenting_rematch_at.Reads.Post κs a r e ≡ StepPost κs a r e
step_says κs a r e = refl

pub turepawon_next_augmenting_rematch_at : Fixes StepPost λ κs r e. r & e.1.1.1.1.1.1.1.1.1.1.1.1.0.now & e.1.1.1.1.1.1.1.1.1.1.1.1.1.0.now & e.0.now & e.1.1.1.1.1.1.1.1.1.1.0.now & e.1.1.1.1.1.1.1.1.1.1.1.0.now
turepawon_next_augmenting_rematch_at κs a r s e f p q = ap (λ (x : Walked). x.code & x.moved & x.count & x.at & x.rows & x.values) (alike p q)
