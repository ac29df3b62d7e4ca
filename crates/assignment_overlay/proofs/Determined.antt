-- No second result meets a contract of this crate. Assumes nothing.
use Rattle.basics.specs.Promises.{FixesAnswer}
use Rattle.basics.proofs.Promises.{alike}
use Rattle.assignment_overlay.proofs.entry
use Rattle.assignment_overlay.proofs.test

pub assignment_feasible_after-edits : FixesAnswer entry.assignment_feasible_after_edits.Reads.Post
assignment_feasible_after-edits κs a r s e f = alike

pub reinsert_value-allowed : FixesAnswer entry.reinsert_value_allowed.Reads.Post
reinsert_value-allowed κs a r s e f = alike

pub final_test : FixesAnswer test.final_test.Reads.Post
final_test κs a r s e f = alike

pub reinsert_test : FixesAnswer test.reinsert_test.Reads.Post
reinsert_test κs a r s e f = alike
