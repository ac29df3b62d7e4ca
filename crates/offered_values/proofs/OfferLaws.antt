-- What a row offers is never more than 64 values, so that all and the first 64 are the same. Assumes nothing.
use Prim.Native.Nat.{ℕ, ◌+◌, ◌*◌, ◌≤◌}
use mathlib.Core.Path.{◌≡◌, refl}
use mathlib.Core.Bool.{true}
use mathlib.Core.List.{List}
use Rattle.std.specs.Prelude.{Option, None, Some}
use native.Mathlib.Omega.{arith}
use lib.ListN.{length, drop, length-take}
use lib.Seq.{take_all}
use lib.Dec.{ltb, leb}
use borrow.Author.Tests.{leb-true, ltb-true}
use Rattle.basics.proofs.Bools.{either, and_left}
use Rattle.basics.proofs.Below.{all_below_at}
use Rattle.rules.specs.Board.{limited}
use Rattle.assignment_tables.specs.declared.Shape.{Shape}
use Rattle.assignment_tables.specs.Tables.{count_at, candidates_at}
use Rattle.assignment_tables.specs.Layout.{candidates_start}
use Rattle.assignment_tables.specs.Refusal.{candidates_fit, all_candidates_fit}
use Rattle.offered_values.specs.Offers.{most_offered}

limited_few : (l : Option ℕ) (xs : List ℕ) → length (limited l xs) ≤ length xs
unfolding limited
limited_few None xs = omega arith
limited_few (Some n) xs = omega (arith, length-take n xs)

candidates_few : (S : Shape) (m : List ℕ) (o : ℕ) → all_candidates_fit S m ≡ true → length (candidates_at S m o) ≤ 64
unfolding candidates_at all_candidates_fit candidates_fit
candidates_few S m o f =
    either (ltb o S.rows)
    (λ t. rw t (omega (arith, length-take (count_at S m o) (drop (candidates_start S + o * 64) m), leb-true (count_at S m o) 64 (and_left (leb (count_at S m o) 64) _ (all_below_at (candidates_fit S m) S.rows f o (ltb-true o S.rows t))))))
    (λ n. rw n (omega arith))

pub offered_few : (S : Shape) (m : List ℕ) (l : Option ℕ) (o : ℕ) → all_candidates_fit S m ≡ true → length (limited l (candidates_at S m o)) ≤ 64
offered_few S m l o f = omega (arith, limited_few l (candidates_at S m o), candidates_few S m o f)

-- ---- the limit as a number

pub offered-all : (S : Shape) (m : List ℕ) (l : Option ℕ) (o : ℕ) → all_candidates_fit S m ≡ true → limited (Some (most_offered l)) (candidates_at S m o) ≡ limited l (candidates_at S m o)
unfolding limited
offered-all S m None o fit = take_all 64 (candidates_at S m o) (offered_few S m None o fit)
offered-all S m (Some n) o fit = refl
