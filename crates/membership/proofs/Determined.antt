-- No second result meets a contract of this crate. Assumes nothing.
use Rattle.basics.specs.Promises.{Fixes, FixesAnswer}
use Rattle.basics.proofs.Promises.{alike}
use Rattle.membership.proofs

pub place_of : FixesAnswer proofs.place_of.Reads.Post
place_of κs a r s e f = alike

-- `members`
pub remove_member : Fixes proofs.remove_member.Reads.Post λ κs r e. e.0.now
remove_member κs a r s e f = alike

-- `members`
pub put-row : Fixes proofs.put_row.Reads.Post λ κs r e. e.0.now
put-row κs a r s e f = alike

pub members_from : Fixes proofs.members_from.Reads.Post λ κs r e. r.now
members_from κs a r s e f p q = alike p.0 q.0

pub members_of_lem : Fixes proofs.members_of.Reads.Post λ κs r e. r.now
members_of_lem κs a r s e f = alike

pub is_membership : FixesAnswer proofs.is_membership.Reads.Post
is_membership κs a r s e f = alike
