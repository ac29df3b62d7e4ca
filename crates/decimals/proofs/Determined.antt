-- No second result meets a contract of this crate. Assumes nothing.
use Prim.Native.Nat.{ℕ, ◌^◌, ◌<◌}
use mathlib.Core.Path.{◌≡◌, sym, ap, ◌∙◌}
use Rattle.basics.specs.Promises.{Fixes, FixesAnswer, ◌&◌}
use Rattle.basics.proofs.Promises.{alike, both}
use Rattle.decimals.proofs.reading
use Rattle.decimals.proofs.writing
use Rattle.std.specs.Prelude.{Some}
use Rattle.decimals.specs.Decimals.{digits}
use Rattle.decimals.specs.Reading.{decimal}
use Rattle.decimals.proofs.ReadingLaws.{decimal-digits, decimal-reads}

-- no two numbers have one decimal form
pub one_number : (n m : ℕ) → n < 2 ^ 64 → m < 2 ^ 64 → digits n ≡ digits m → n ≡ m
one_number n m a b e = let q : Some n ≡ Some m = sym (decimal-digits n a) ∙ ap decimal e ∙ decimal-digits m b in cc

pub read_decimal : FixesAnswer reading.read_decimal.Reads.Post
read_decimal κs a r s e f p q = alike (decimal-reads a.0.now r p) (decimal-reads a.0.now s q)

pub read_digits : FixesAnswer reading.read_digits.Reads.Post
read_digits κs a r s e f = alike

pub field_end : FixesAnswer reading.field_end.Reads.Post
field_end κs a r s e f = alike

pub digit-count : FixesAnswer writing.digit_count.Reads.Post
digit-count κs a r s e f = alike

pub last_digit : FixesAnswer writing.last_digit.Reads.Post
last_digit κs a r s e f = alike

-- the answer and `out`
pub write_decimal : Fixes writing.write_decimal.Reads.Post λ κs r e. r & e.0.now
write_decimal κs a r s e f p q = both (alike p.0 q.0) (alike p.1 q.1)
