-- No second result meets a contract of this crate. Assumes nothing.
use Rattle.basics.specs.Promises.{FixesAnswer}
use Rattle.basics.proofs.Promises.{alike}
use Rattle.assignment_state.proofs.admit as admits

pub index_lengths : FixesAnswer admits.index_lengths.Reads.Post
index_lengths κs a r s e f = alike

pub is-holdable : FixesAnswer admits.is_holdable.Reads.Post
is-holdable κs a r s e f = alike

pub all_holdable : FixesAnswer admits.all_holdable.Reads.Post
all_holdable κs a r s e f = alike

pub admit : FixesAnswer admits.admit.Reads.Post
admit κs a r s e f = alike
