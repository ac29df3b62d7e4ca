-- The loops over listed rows, turn by turn: what is left of the list gives what is asked. Assumes nothing.
use mathlib.Core.Path.{◌≡◌, refl, sym, ap, ap₂, ◌∙◌}
use mathlib.Core.Bool.{true, false}
use mathlib.Core.List.{List, [], ◌∷◌}
use Prim.Native.Nat.{ℕ, ◌+◌, ◌<◌, ◌≤◌}
use native.Mathlib.Omega.{arith}
use native.Mathlib.Numerals.{add-one}
use lib.ListN.{length, get_or, drop, length-drop, drop_of_length-le}
use lib.Seq.{drop-cons}
use lib.Dec.{eqb, ltb}
use borrow.Author.Tests.{eqb-true, eq-eqb, ltb-true}
use Rattle.basics.proofs.Edits.{row_at}
use Rattle.basics.specs.Tests.{all, among}
use Rattle.basics.specs.Edits.{edits, all_rows, Listed}
use Rattle.basics.proofs.Bools.{and_left, and_right, clash}
use Rattle.basics.proofs.Lists.{all_at_lem, all_of, among_of, distinct_cons}
use Rattle.rules.specs.Board.{empty}
use Rattle.rules.specs.Roster.{Roster, put, after}
use Rattle.rules.proofs.Rosters.{put_other}
use Rattle.assignment_tables.specs.declared.Shape.{Shape}
use Rattle.assignment_index.specs.Index.{members_of, roster_in, Indexed}
use Rattle.assignment_refresh.specs.Refresh.{vacated, all_vacant}
use Rattle.assignment_refresh.proofs.Kept.{roster_records, roster_put, indexed_put}

-- the list from place i on
next : (l : List ℕ) (i : ℕ) → i < length l → drop i l ≡ get_or l i 0 ∷ drop (i + 1) l
next l i h = rw add-one (drop-cons l i 0 h)

-- ---- taking out

-- before the turn at place i the slices are an index, and the rows from there on are left to take out
pub record Taking (S : Shape) (m k R₀ rs R M : List ℕ) (i : ℕ) : Type 0 where
  pub within : i ≤ length rs
  pub indexed : Indexed S m k R M
  pub left : vacated (roster_in S.rows R) (drop i rs) ≡ vacated (roster_in S.rows R₀) rs

pub taking_start : (S : Shape) (m k rs R M : List ℕ) → Indexed S m k R M → Taking S m k R rs R M 0
taking_start S m k rs R M w = record { within = omega arith; indexed = w; left = refl }

vacated-step : (h : Roster) (r : ℕ) (rs : List ℕ) → vacated h (r ∷ rs) ≡ vacated (put h r empty) rs
unfolding vacated
vacated-step h r rs = refl

vacated_none : (h : Roster) → vacated h [] ≡ h
unfolding vacated
vacated_none h = refl

module _ (S : Shape) (m k R₀ rs R M : List ℕ) (i : ℕ) (t : Taking S m k R₀ rs R M i) where
  pub taking_turn : all_rows S.rows rs ≡ true → i < length rs → (R' M' : List ℕ) → R' ≡ roster_records S m k (put (roster_in S.rows R) (get_or rs i 0) empty)
      → M' ≡ members_of S.rows R' → Taking S m k R₀ rs R' M' (i + 1)
  taking_turn a l R' M' e f =
      let h = row_at S.rows rs i a l in
      record {
        within = omega arith;
        indexed = indexed_put S m k R M t.indexed (get_or rs i 0) empty h R' M' e f;
        left = rw (roster_put S m k R M t.indexed (get_or rs i 0) empty h R' M' e f)
            (sym (vacated-step (roster_in S.rows R) (get_or rs i 0) (drop (i + 1) rs)) ∙ ap (vacated (roster_in S.rows R)) (sym (next rs i l)) ∙ t.left);
      }

  pub taking_end : length rs ≤ i → R ≡ roster_records S m k (vacated (roster_in S.rows R₀) rs)
  taking_end l =
      t.indexed.records_right
      ∙ ap (roster_records S m k) (sym (vacated_none (roster_in S.rows R)) ∙ ap (vacated (roster_in S.rows R)) (sym (drop_of_length-le rs l)) ∙ t.left)

-- ---- putting in

-- before the turn at place i the slices are an index, and the rows from there on are left to put in: they hold nothing yet
pub record Putting (S : Shape) (m k R₀ rs vs R M : List ℕ) (i : ℕ) : Type 0 where
  pub within : i ≤ length rs
  pub indexed : Indexed S m k R M
  pub listed : Listed S.rows (drop i rs) (drop i vs)
  pub vacant : all_vacant (roster_in S.rows R) (drop i rs) ≡ true
  pub left : after (roster_in S.rows R) (edits (drop i rs) (drop i vs)) ≡ after (roster_in S.rows R₀) (edits rs vs)

pub putting_start : (S : Shape) (m k rs vs R M : List ℕ) → Indexed S m k R M → Listed S.rows rs vs → all_vacant (roster_in S.rows R) rs ≡ true → Putting S m k R rs vs R M 0
putting_start S m k rs vs R M w y z = record { within = omega arith; indexed = w; listed = y; vacant = z; left = refl }

-- the first row of such a list
module _ (n r v : ℕ) (rs vs : List ℕ) where
  listed-first : Listed n (r ∷ rs) (v ∷ vs) → r < n
  unfolding all
  listed-first y = ltb-true _ _ (and_left (ltb r n) _ y.in_range)

  listed-rest : Listed n (r ∷ rs) (v ∷ vs) → Listed n rs vs
  unfolding all
  listed-rest y = record { in_range = and_right (ltb r n) _ y.in_range; once = ((distinct_cons r rs).0 y.once).1; as_many = omega (arith, y.as_many) }

  listed_new : Listed n (r ∷ rs) (v ∷ vs) → among r rs ≡ false
  listed_new y = ((distinct_cons r rs).0 y.once).0

module _ (h : Roster) (r : ℕ) (rs : List ℕ) where
  vacant_first : all_vacant h (r ∷ rs) ≡ true → h r ≡ empty
  unfolding all
  vacant_first z = eqb-true _ _ (and_left (eqb (h r) empty) _ z)

  -- the rows behind still hold nothing once the first is put in
  vacant_rest : (v : ℕ) → all_vacant h (r ∷ rs) ≡ true → among r rs ≡ false → all_vacant (put h r v) rs ≡ true
  unfolding all
  vacant_rest v z new =
      all_of _ rs (λ x x∈.
      eq-eqb _ _ (put_other h r v (λ e. clash (ap (λ (y : ℕ). among y rs) (sym e) ∙ among_of x∈) new)
      ∙ eqb-true _ _ (all_at_lem (λ (y : ℕ). eqb (h y) empty) (and_right (eqb (h r) empty) _ z) x∈)))

after-step : (h : Roster) (r v : ℕ) (rs vs : List ℕ) → after h (edits (r ∷ rs) (v ∷ vs)) ≡ after (put h r v) (edits rs vs)
unfolding after edits
after-step h r v rs vs = refl

after_none : (h : Roster) (vs : List ℕ) → after h (edits [] vs) ≡ h
unfolding after edits
after_none h vs = refl

module _ (S : Shape) (m k R₀ rs vs R M : List ℕ) (i : ℕ) (t : Putting S m k R₀ rs vs R M i) where
  -- there is a value beside the row
  pub beside : i < length rs → i < length vs
  beside l = omega (arith, simp length-drop at t.listed.as_many)

  module _ (l : i < length rs) where
    abbrev r : ℕ
    r = get_or rs i 0

    abbrev v : ℕ
    v = get_or vs i 0

    listed_here : Listed S.rows (r ∷ drop (i + 1) rs) (v ∷ drop (i + 1) vs)
    listed_here = rw (next rs i l, next vs i (beside l)) at t.listed

    vacant_here : all_vacant (roster_in S.rows R) (r ∷ drop (i + 1) rs) ≡ true
    vacant_here = rw (next rs i l) at t.vacant

    left_here : after (roster_in S.rows R) (edits (r ∷ drop (i + 1) rs) (v ∷ drop (i + 1) vs)) ≡ after (roster_in S.rows R₀) (edits rs vs)
    left_here = ap₂ (λ (x y : List ℕ). after (roster_in S.rows R) (edits x y)) (sym (next rs i l)) (sym (next vs i (beside l))) ∙ t.left

    -- what putting it in asks
    pub putting_asks : (r < S.rows) × (roster_in S.rows R r ≡ empty)
    putting_asks = (listed-first S.rows r v _ _ listed_here, vacant_first (roster_in S.rows R) r _ vacant_here)

    pub putting_turn : (R' M' : List ℕ) → R' ≡ roster_records S m k (put (roster_in S.rows R) r v) → M' ≡ members_of S.rows R' → Putting S m k R₀ rs vs R' M' (i + 1)
    putting_turn R' M' e f =
        let now = roster_put S m k R M t.indexed r v putting_asks.0 R' M' e f in
        record {
          within = omega arith;
          indexed = indexed_put S m k R M t.indexed r v putting_asks.0 R' M' e f;
          listed = listed-rest S.rows r v _ _ listed_here;
          vacant = ap (λ (h : Roster). all_vacant h (drop (i + 1) rs)) now ∙ vacant_rest (roster_in S.rows R) r _ v vacant_here (listed_new S.rows r v _ _ listed_here);
          left = rw now (sym (after-step (roster_in S.rows R) r v _ _) ∙ left_here);
        }

  pub putting_end : length rs ≤ i → R ≡ roster_records S m k (after (roster_in S.rows R₀) (edits rs vs))
  putting_end l =
      t.indexed.records_right
      ∙ ap (roster_records S m k)
      (sym (after_none (roster_in S.rows R) (drop i vs)) ∙ ap (λ (x : List ℕ). after (roster_in S.rows R) (edits x (drop i vs))) (sym (drop_of_length-le rs l)) ∙ t.left)
