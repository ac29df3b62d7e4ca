-- What the hooks of `specs/Tables.antt` and `specs/Board.antt` say, case by case. Assumes nothing.
use Prim.Native.Nat.{ℕ, ◌+◌, ◌-◌, ◌*◌, ◌≤◌, ◌<◌, min}
use mathlib.Core.Path.{◌≡◌, refl, sym, ◌∙◌}
use mathlib.Core.Bool.{Bool}
use mathlib.Core.List.{List, []}
use Rattle.std.specs.Prelude.{Option, None, Some}
use native.Mathlib.Omega.{arith}
use lib.ListN.{take, drop, length-take}
use lib.Seq.{take-take, take_all, take-nil}
use borrow.Author.Tests.{eq-eqb, ne_eqb, lt-ltb, le-ltb}
use Rattle.basics.proofs.Bools.{by}
use Rattle.rules.specs.Board.{empty, limited, legal_or_empty}
use Rattle.assignment_tables.specs.declared.Shape.{Shape}
use Rattle.assignment_tables.specs.Layout.{candidates_start}
use Rattle.assignment_tables.specs.Tables.{count_at, candidates_at, offered}

module _ (may_empty : ℕ → Bool) (legal : ℕ → ℕ → Bool) (r v : ℕ) (b : Bool) where
  pub legal_empty : v ≡ empty → b ≡ may_empty r → b ≡ legal_or_empty may_empty legal r v
  unfolding legal_or_empty
  legal_empty e q = rw (eq-eqb _ _ e) q

  pub legal_value : (v ≡ empty → ⊥) → b ≡ legal r v → b ≡ legal_or_empty may_empty legal r v
  unfolding legal_or_empty
  legal_value n q = rw (ne_eqb _ _ n) q

-- a part n long that starts x behind s, which the code knows as a
pub part-from : (m : List ℕ) (a s x n : ℕ) → a ≡ s → take (a + x + n - (a + x)) (drop (a + x) m) ≡ take n (drop (s + x) m)
part-from m a s x n e = let long : a + x + n - (a + x) ≡ n = omega arith in rw (long, e)

-- a limit on the first n of a list leaves the first so many
limited-take : (o : Option ℕ) (n : ℕ) (l : List ℕ) → limited o (take n l) ≡ take (offered o n) l
unfolding limited
limited-take None n l = refl
limited-take (Some k) n l = by k n few many
  where
    few : k < n → take k (take n l) ≡ take (min k n) l
    few h = let e : min k n ≡ k = omega arith in rw e (take-take k n l (omega arith))

    many : n ≤ k → take k (take n l) ≡ take (min k n) l
    many h = let e : min k n ≡ n = omega arith in rw e (take_all k (take n l) (simp length-take (omega arith)))

pub offered_le : (o : Option ℕ) (n : ℕ) → offered o n ≤ n
offered_le None n = omega arith
offered_le (Some k) n = omega arith

module _ (S : Shape) (m : List ℕ) (r : ℕ) where
  pub candidates_in : r < S.rows → candidates_at S m r ≡ take (count_at S m r) (drop (candidates_start S + r * 64) m)
  unfolding candidates_at
  candidates_in p = rw (lt-ltb _ _ p)

  pub offered_in : (o : Option ℕ) (k n : ℕ) (x : List ℕ) → r < S.rows → k ≡ count_at S m r → n ≡ offered o k → x ≡ take n (drop (candidates_start S + r * 64) m) → x ≡ limited o (candidates_at S m r)
  offered_in o k n x p f e q = q ∙ rw (candidates_in p, limited-take, ← f, e)

  pub offered_out : (o : Option ℕ) → S.rows ≤ r → [] ≡ limited o (candidates_at S m r)
  unfolding candidates_at limited
  offered_out None p = rw (le-ltb _ _ p)
  offered_out (Some n) p = rw (le-ltb _ _ p) (sym (take-nil n))
