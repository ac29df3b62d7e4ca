-- No second result meets the contract of this crate: it fixes the cursor behind the reference, the answer and both outputs, on refused input too. Assumes nothing.
use mathlib.Core.Path.{◌≡◌, refl, ap}
use contract.Lifetimes.{Lfts}
use denote.Triple.Clauses.{AtExit}
use denote.Triple.Entry.{Args, Res}
use Rattle.basics.specs.Promises.{Fixes, ◌&◌}
use Rattle.basics.proofs.Promises.{alike}
use Rattle.window_kinds.specs.Stepping.{Stepping, leaves}
use Rattle.assignment_index.specs.Index.{of_lent}
use Rattle.assignment_cycle.specs.Stepping.{stepping}
use Rattle.lent_cursor.specs.Lent.{step_to}
use Rattle.lent_cursor.specs.contracts.next_augmenting_rematch_at as entry
use Rattle.lent_cursor.proofs

-- what the contract says, written out
abbrev pub Post : (κs : Lfts (entry.signature).lifetimes) → Args entry.signature κs → Res entry.signature κs → AtExit entry.ended κs → Type 0
Post κs a r e =
    leaves (step_to e.0.now r) e.1.1.1.1.0.now e.1.1.1.1.1.0.now
    ≡ of_lent stepping a.1.0.now a.1.1.0.now a.1.1.1.0.now a.0.now a.1.1.1.1.0.now a.1.1.1.1.1.0.now

pub says : (κs : _) (a : _) (r : _) (e : _) → proofs.next_augmenting_rematch_at.Reads.Post κs a r e ≡ Post κs a r e
says κs a r e = refl

pub next_augmenting_rematch_at : Fixes Post λ κs r e. r & e.0.now & e.1.1.1.1.0.now & e.1.1.1.1.1.0.now
next_augmenting_rematch_at κs a r s e f p q = ap (λ (x : Stepping). x.step.answer & x.step.next & x.rows & x.values) (alike p q)
