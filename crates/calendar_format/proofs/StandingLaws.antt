-- What the test says of duties: rows that rise below a bound, and days that can be written. Assumes nothing.
use Prim.Native.Nat.{ℕ, suc, ◌≤◌, ◌<◌}
use mathlib.Core.Path.{◌≡◌, refl}
use mathlib.Core.Bool.{true}
use mathlib.Core.List.{List, [], ◌∷◌}
use native.Mathlib.Omega.{arith}
use lib.Dec.{leb, ltb}
use borrow.Author.Tests.{leb-true, ltb-true, le-leb, lt-ltb}
use Rattle.basics.proofs.Bools.{by, and_left, and_right, and_join}
use Rattle.civil_dates.specs.Dates.{last_day}
use Rattle.calendar_format.specs.Format.{Duty, standing}

pub record Stands (top r : ℕ) (x : Duty) (D : List Duty) : Type 0 where
  pub from : r ≤ x.row
  pub below : x.row < top
  pub day : x.day ≤ last_day
  pub more : standing top (suc x.row) D ≡ true

pub stands : (top r : ℕ) (x : Duty) (D : List Duty) → standing top r (x ∷ D) ≡ true → Stands top r x D
unfolding standing
stands top r x D h =
    let a = and_right (leb r x.row) _ h in
    let b = and_right (ltb x.row top) _ a in
    record {
      from = leb-true r x.row (and_left (leb r x.row) _ h);
      below = ltb-true x.row top (and_left (ltb x.row top) _ a);
      day = leb-true x.day last_day (and_left (leb x.day last_day) _ b);
      more = and_right (leb x.day last_day) _ b;
    }

pub stand : (top r : ℕ) (x : Duty) (D : List Duty) → Stands top r x D → standing top r (x ∷ D) ≡ true
unfolding standing
stand top r x D c =
    and_join (le-leb r x.row c.from) (and_join (lt-ltb x.row top c.below) (and_join (le-leb x.day last_day c.day) c.more))

pub stand_none : (top r : ℕ) → standing top r [] ≡ true
unfolding standing
stand_none top r = refl

pub stand_earlier : (top r : ℕ) (D : List Duty) → standing top (suc r) D ≡ true → standing top r D ≡ true
stand_earlier top r [] h = stand_none top r
stand_earlier top r (x ∷ D) h =
    let c = stands top (suc r) x D h in
    stand top r x D (record { from = omega (arith, c.from); below = c.below; day = c.day; more = c.more })

pub stand_later : (top r : ℕ) (x : Duty) (D : List Duty) → (r ≡ x.row → ⊥) → standing top r (x ∷ D) ≡ true → standing top (suc r) (x ∷ D) ≡ true
stand_later top r x D n h =
    let c = stands top r x D h in
    by r x.row
    (λ l. stand top (suc r) x D (record { from = omega arith; below = c.below; day = c.day; more = c.more }))
    (λ g. absurd (n (omega (arith, c.from))))
