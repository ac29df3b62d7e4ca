-- What a roster holds once listed rows hold nothing, and that a list of edits makes of it what it makes of the roster before. Assumes nothing.
use mathlib.Core.Path.{◌≡◌, refl, sym, ap, fun_ext, ◌∙◌}
use mathlib.Core.Bool.{true, false}
use mathlib.Core.List.{List, [], ◌∷◌}
use mathlib.Core.Logic.{⊎_elim}
use Prim.Native.Nat.{ℕ}
use lib.ListN.{length}
use lib.Dec.{eqb}
use borrow.Author.Tests.{eqb-true, eqb-false, eq-eqb}
use Rattle.basics.specs.Tests.{among}
use Rattle.basics.specs.Edits.{edits}
use Rattle.basics.proofs.Bools.{either, clash, or_none, or_cases}
use Rattle.basics.proofs.Lists.{all_of, among_of}
use Rattle.basics.proofs.Edits.{rows_edits}
use Rattle.rules.specs.Board.{empty}
use Rattle.rules.specs.Roster.{Roster, put, after}
use Rattle.rules.proofs.Rosters.{put_same, put_other, overwritten}
use Rattle.assignment_tables.specs.declared.Shape.{Shape}
use Rattle.assignment_index.specs.Index.{members_of, roster_in, Indexed}
use Rattle.assignment_refresh.specs.Refresh.{vacated, all_vacant}
use Rattle.assignment_refresh.proofs.Kept.{Within, roster_records, roster_now, indexed_now, index-within}

put-empty : (h : Roster) (x r : ℕ) → h r ≡ empty → put h x empty r ≡ empty
put-empty h x r e = either (eqb r x) (λ t. ap (put h x empty) (eqb-true r x t) ∙ put_same h x empty) (λ f. put_other h x empty (eqb-false r x f) ∙ e)

-- a row that holds nothing
pub vacant_still : (h : Roster) (rs : List ℕ) (r : ℕ) → h r ≡ empty → vacated h rs r ≡ empty
unfolding vacated
vacant_still h [] r e = e
vacant_still h (x ∷ rs) r e = vacant_still (put h x empty) rs r (put-empty h x r e)

-- a row that is listed
pub vacant_now : (h : Roster) (rs : List ℕ) (r : ℕ) → among r rs ≡ true → vacated h rs r ≡ empty
unfolding vacated among
vacant_now h [] r y = absurd (clash y refl)
vacant_now h (x ∷ rs) r y =
    ⊎_elim
    (λ t. vacant_still (put h x empty) rs r (ap (put h x empty) (eqb-true r x t) ∙ put_same h x empty))
    (λ t. vacant_now (put h x empty) rs r t)
    (or_cases (eqb r x) (among r rs) y)

-- any other row
pub vacated-other : (h : Roster) (rs : List ℕ) (r : ℕ) → among r rs ≡ false → vacated h rs r ≡ h r
unfolding vacated among
vacated-other h [] r n = refl
vacated-other h (x ∷ rs) r n =
    let (other, rest) = or_none (eqb r x) _ n in
    vacated-other (put h x empty) rs r rest ∙ put_other h x empty (eqb-false r x other)

pub vacated-within : (n : ℕ) (h : Roster) (rs : List ℕ) → Within n h → Within n (vacated h rs)
vacated-within n h rs f r l = vacant_still h rs r (f r l)

pub all_vacant_lem : (h : Roster) (rs : List ℕ) → all_vacant (vacated h rs) rs ≡ true
all_vacant_lem h rs = all_of _ rs (λ r m. eq-eqb _ _ (vacant_now h rs r (among_of m)))

pub after-vacated : (h : Roster) (rs vs : List ℕ) → length rs ≡ length vs → after (vacated h rs) (edits rs vs) ≡ after h (edits rs vs)
after-vacated h rs vs e =
    fun_ext (λ r. overwritten (vacated h rs) h (edits rs vs) (λ n. vacated-other h rs r (sym (ap (among r) (rows_edits rs vs e)) ∙ n)))

-- an index whose listed rows were taken out
module _ (S : Shape) (m k R M : List ℕ) (w : Indexed S m k R M) (rs R' M' : List ℕ) (e : R' ≡ roster_records S m k (vacated (roster_in S.rows R) rs))
    (f : M' ≡ members_of S.rows R') where
  roster_vacated : roster_in S.rows R' ≡ vacated (roster_in S.rows R) rs
  roster_vacated = roster_now S m k w.marked w.keys_long _ (vacated-within S.rows _ rs (index-within S m k R M w)) R' M' e f

  pub indexed_vacated : Indexed S m k R' M'
  indexed_vacated = indexed_now S m k w.marked w.keys_long _ (vacated-within S.rows _ rs (index-within S m k R M w)) R' M' e f

  pub vacated-now : all_vacant (roster_in S.rows R') rs ≡ true
  vacated-now = ap (λ (h : Roster). all_vacant h rs) roster_vacated ∙ all_vacant_lem (roster_in S.rows R) rs

  -- and put in again
  pub refreshed : (vs R'' : List ℕ) → length rs ≡ length vs → R'' ≡ roster_records S m k (after (roster_in S.rows R') (edits rs vs))
      → R'' ≡ roster_records S m k (after (roster_in S.rows R) (edits rs vs))
  refreshed vs R'' n g =
      g ∙ ap (roster_records S m k) (ap (λ (h : Roster). after h (edits rs vs)) roster_vacated ∙ after-vacated (roster_in S.rows R) rs vs n)
