-- The loop that gives row after row its value in the roster. Assumes nothing.
use mathlib.Core.Path.{◌≡◌, sym, ap, fun_ext, ◌∙◌}
use mathlib.Core.List.{List}
use Prim.Native.Nat.{ℕ, ◌+◌, ◌<◌, ◌≤◌}
use native.Mathlib.Omega.{arith}
use lib.ListN.{length, get_or, take, length-take, get_or-eq_default}
use lib.Seq.{take_all, get_or-take}
use Rattle.basics.proofs.Maps.{get_d_any}
use Rattle.basics.proofs.Bools.{by}
use Rattle.rules.specs.Board.{empty}
use Rattle.rules.specs.Roster.{Roster, roster_of, put}
use Rattle.rules.proofs.Rosters.{put_same, put_other}
use Rattle.assignment_tables.specs.declared.Shape.{Shape}
use Rattle.assignment_index.specs.Index.{members_of, roster_in, Indexed}
use Rattle.assignment_refresh.specs.Refresh.{nobody}
use Rattle.assignment_refresh.proofs.Kept.{roster_records, roster_put, indexed_put}

-- what stands behind the first i
past : (l : List ℕ) (i r : ℕ) → i ≤ r → roster_of (take i l) r ≡ empty
past l i r h = get_or-eq_default (take i l) empty (simp length-take (omega arith))

-- the first i of a roster, and one more
one_more_lem : (l : List ℕ) (i : ℕ) → i < length l → put (roster_of (take i l)) i (get_or l i 0) ≡ roster_of (take (i + 1) l)
one_more_lem l i h = fun_ext (λ r. by r i (before r) (λ g. by i r (behind r) (λ f. here r (omega arith))))
  where
    before : (r : ℕ) → r < i → put (roster_of (take i l)) i (get_or l i 0) r ≡ roster_of (take (i + 1) l) r
    before r g =
        put_other (roster_of (take i l)) i (get_or l i 0) (λ e. omega arith)
        ∙ get_or-take i l r empty g ∙ sym (get_or-take (i + 1) l r empty (omega arith))

    behind : (r : ℕ) → i < r → put (roster_of (take i l)) i (get_or l i 0) r ≡ roster_of (take (i + 1) l) r
    behind r g =
        put_other (roster_of (take i l)) i (get_or l i 0) (λ e. omega arith)
        ∙ past l i r (omega arith) ∙ sym (past l (i + 1) r (omega arith))

    here : (r : ℕ) → r ≡ i → put (roster_of (take i l)) i (get_or l i 0) r ≡ roster_of (take (i + 1) l) r
    here r e =
        rw e (put_same (roster_of (take i l)) i (get_or l i 0) ∙ get_d_any 0 empty l i h ∙ sym (get_or-take (i + 1) l i empty (omega arith)))

-- before the turn at a row the rows before it have their values, and no other row has any
pub record Seating (S : Shape) (m k l R M : List ℕ) (i : ℕ) : Type 0 where
  pub within : i ≤ length l
  pub indexed : Indexed S m k R M
  pub seated : roster_in S.rows R ≡ roster_of (take i l)

pub seating_start : (S : Shape) (m k l R M : List ℕ) → Indexed S m k R M → roster_in S.rows R ≡ nobody → Seating S m k l R M 0
seating_start S m k l R M w e = record { within = omega arith; indexed = w; seated = e }

module _ (S : Shape) (m k l R M : List ℕ) (i : ℕ) (t : Seating S m k l R M i) where
  pub seating_asks : roster_in S.rows R i ≡ empty
  seating_asks = ap (λ (h : Roster). h i) t.seated ∙ past l i i (omega arith)

  pub seating_turn : i < length l → i < S.rows → (R' M' : List ℕ) → R' ≡ roster_records S m k (put (roster_in S.rows R) i (get_or l i 0)) → M' ≡ members_of S.rows R'
      → Seating S m k l R' M' (i + 1)
  seating_turn h g R' M' e f = record {
    within = omega arith;
    indexed = indexed_put S m k R M t.indexed i (get_or l i 0) g R' M' e f;
    seated = roster_put S m k R M t.indexed i (get_or l i 0) g R' M' e f ∙ ap (λ (x : Roster). put x i (get_or l i 0)) t.seated ∙ one_more_lem l i h;
  }

  pub seating_end : length l ≤ i → R ≡ roster_records S m k (roster_of l)
  seating_end h = t.indexed.records_right ∙ ap (roster_records S m k) (t.seated ∙ ap roster_of (take_all i l h))
