-- No second result meets the contract of this crate, on refused input and for lists of any length too. Assumes nothing.
use mathlib.Core.Path.{◌≡◌, refl}
use contract.Lifetimes.{Lfts}
use denote.Triple.Clauses.{AtExit}
use denote.Triple.Entry.{Args, Res}
use Rattle.basics.specs.Promises.{FixesAnswer}
use Rattle.basics.proofs.Promises.{alike}
use Rattle.assignment_index.specs.Index.{of_lent}
use Rattle.assignment_overlay.specs.Verdicts.{final_verdict}
use Rattle.edit_records.specs.Records.{rows_in, values_in}
use Rattle.edit_records.specs.contracts.assignment_feasible_after_edit_records as entry
use Rattle.edit_records.proofs

-- what the contract says, written out
abbrev pub Post : (κs : Lfts (entry.signature).lifetimes) → Args entry.signature κs → Res entry.signature κs → AtExit entry.ended κs → Type 0
Post κs a r e =
    r ≡ of_lent final_verdict a.1.0.now a.1.1.0.now (rows_in a.0.now) (values_in a.0.now)

pub says : (κs : _) (a : _) (r : _) (e : _) → proofs.assignment_feasible_after_edit_records.Reads.Post κs a r e ≡ Post κs a r e
says κs a r e = refl

pub assignment_feasible_after_edit_records : FixesAnswer Post
assignment_feasible_after_edit_records κs a r s e f = alike
