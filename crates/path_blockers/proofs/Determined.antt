-- No second result meets a contract of this crate. Assumes nothing.
use Rattle.basics.specs.Promises.{Fixes, FixesAnswer}
use Rattle.basics.proofs.Promises.{alike}
use Rattle.basics.proofs.Bools.{either}
use Rattle.path_blockers.proofs.blocker
use Rattle.path_blockers.proofs.rows
use Rattle.assignment_tables.specs.Tables.{rule_of}
use Rattle.path_blockers.proofs.LeastLaws.{least_one}

pub first_blocker : FixesAnswer blocker.first_blocker.Reads.Post
first_blocker κs a r s e f p q = least_one _ _ _ r s p q

pub holders_of : Fixes rows.holders_of.Reads.Post λ κs r e. r.now
holders_of κs a r s e f = alike

pub rows_below : Fixes rows.rows_below.Reads.Post λ κs r e. r.now
rows_below κs a r s e f p q = either (rule_of a.0.now.shape) (λ t. alike (p.0 t) (q.0 t)) (λ n. alike (p.1 n) (q.1 n))

pub rows_above : Fixes rows.rows_above.Reads.Post λ κs r e. r.now
rows_above κs a r s e f p q = either (rule_of a.0.now.shape) (λ t. alike (p.0 t) (q.0 t)) (λ n. alike (p.1 n) (q.1 n))
