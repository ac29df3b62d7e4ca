-- No second result meets a contract of this crate. Assumes nothing.
use Rattle.basics.specs.Promises.{FixesAnswer}
use Rattle.basics.proofs.Promises.{alike}
use Rattle.civil_dates.proofs

pub month_days : FixesAnswer proofs.month_days.Reads.Post
month_days κs a r s e f = alike

pub date_of_lem : FixesAnswer proofs.date_of.Reads.Post
date_of_lem κs a r s e f = alike

pub is-date : FixesAnswer proofs.is_date.Reads.Post
is-date κs a r s e f = alike

pub day_number : FixesAnswer proofs.day_number.Reads.Post
day_number κs a r s e f = alike
