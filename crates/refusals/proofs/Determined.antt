-- No second result meets a contract of this crate. Assumes nothing.
use Rattle.basics.specs.Promises.{Fixes, FixesAnswer, ◌&◌}
use Rattle.basics.proofs.Promises.{alike, both}
use Rattle.refusals.proofs

pub yes_flag : FixesAnswer proofs.codes.yes_flag.Reads.Post
yes_flag κs a r s e f = alike

pub some_flag : FixesAnswer proofs.codes.some_flag.Reads.Post
some_flag κs a r s e f = alike

pub some_count : FixesAnswer proofs.codes.some_count.Reads.Post
some_count κs a r s e f = alike

-- the answer and `flag`
pub question_told : Fixes proofs.codes.question_told.Reads.Post λ κs r e. r & e.1.0.now
question_told κs a r s e f p q = both (alike p.0 q.0) (alike p.1 q.1)

-- the answer, `given` and `count`
pub list_told : Fixes proofs.codes.list_told.Reads.Post λ κs r e. r & e.1.0.now & e.1.1.0.now
list_told κs a r s e f p q = both (alike p.0 q.0) (both (alike p.1.0 q.1.0) (alike p.1.1 q.1.1))

pub number : FixesAnswer proofs.Refusal.number.Reads.Post
number κs a r s e f = alike

pub code : (g : _) (l : _) (c : _) (h : _) (d : _) → FixesAnswer (proofs.codes.code.Reads.Post g l c h d)
code g l c h d κs a r s e f = alike
