-- From what is found among the rows that may block a row to what the row and the value come to. Assumes nothing.
use Prim.Native.Nat.{ℕ, ◌≤◌, ◌<◌}
use mathlib.Core.Path.{◌≡◌, refl, sym, ap, ap₂, ◌∙◌}
use mathlib.Core.Logic.{⊎_elim}
use mathlib.Core.Bool.{Bool, true, false, not, cond, ◌&&◌, ◌||◌}
use mathlib.Core.List.{List, ◌++◌}
use Rattle.std.specs.Prelude.{Option}
use native.Mathlib.Omega.{arith}
use lib.Dec.{eqb, ltb}
use borrow.Author.Tests.{not-true, ltb-true, lt-ltb, le-ltb}
use Rattle.basics.specs.Tests.{all, all_below, all_of_below, among}
use Rattle.basics.proofs.Bools.{either, by, clash, same_test, and_left, and_right, and_join, or_left, or_cases, implies}
use Rattle.basics.proofs.Lists.{◌∈◌, all_at_lem, all_of, all_same, among_at, among_of, among-append}
use Rattle.basics.proofs.Below.{all_below_at, all_below_of, all_below-same, all_of_below_iff}
use Rattle.rules.specs.Board.{Board}
use Rattle.rules.specs.Roster.{Roster}
use Rattle.assignment_tables.specs.declared.Shape.{Shape}
use Rattle.assignment_tables.specs.Cells.{row_flag}
use Rattle.assignment_tables.specs.Layout.{Marked}
use Rattle.assignment_tables.specs.Tables.{board, required_at, legal_at, rule_of}
use Rattle.assignment_index.specs.Index.{roster_in}
use Rattle.search_rules.proofs.Lifting.{first-same}
use Rattle.path_blockers.specs.Seeking.{blocks_seen, sides_allow, blocks_listed, Around}
use Rattle.path_blockers.proofs.LeastLaws.{least_first, least_never}
use Rattle.path_blockers.proofs.SoughtLaws.{blocks-same}
use Rattle.path_steps.specs.declared.Prospect.{Prospect}
use Rattle.path_steps.specs.declared.Prospect.TheVariants as prospect
use Rattle.path_steps.specs.declared.blockers.Blockers.{Blockers}
use Rattle.path_clearance.specs.Clearance.{stays}
use Rattle.path_steps.specs.Prospects.{blocked_by, prospect_of}
use Rattle.path_steps.specs.Judging.{Blocking, concluded, prospect_among, may_block}
use Rattle.path_steps.proofs.PlainLaws.{board_plain}
use Rattle.path_steps.proofs.ProspectLaws.{twice, seen_prospect}

-- ---- what was found, as the code concludes from it

module _ (n : ℕ) (on : Bool) (x : Blockers) where
  pub found_required : x.required < n → prospect.Blocked x.required ≡ concluded n on x
  unfolding concluded
  found_required l = rw (lt-ltb x.required n l)

  module _ (l : n ≤ x.required) where
    pub displaced-all : on ≡ true → prospect.Free ≡ concluded n on x
    unfolding concluded
    displaced-all t = rw (le-ltb x.required n l, t)

    pub found_optional : on ≡ false → x.optional ≡ true → prospect.Fails ≡ concluded n on x
    unfolding concluded
    found_optional f t = rw (le-ltb x.required n l, f, t)

    pub found-nobody : on ≡ false → x.optional ≡ false → prospect.Free ≡ concluded n on x
    unfolding concluded
    found-nobody f t = rw (le-ltb x.required n l, f, t)

-- ---- the same of the rows among which it was found

required_within : (S : Shape) (m : List ℕ) (o : ℕ) → required_at S m o ≡ true → o < S.rows
unfolding row_flag
required_within S m o t = ltb-true o S.rows (and_left (ltb o S.rows) _ t)

required_stays : (required : ℕ → Bool) (on : Bool) (o : ℕ) → required o ≡ true → stays required on o ≡ true
unfolding stays
required_stays required true o t = t
required_stays required false o t = refl

module _ (S : Shape) (m : List ℕ) (r : ℕ) (others : List ℕ) (x : Blockers) (w : Blocking S m r others x) where
  abbrev gone : Bool → ℕ → Bool
  gone on o = not (stays (required_at S m) on o) || eqb o r

  here : (on : Bool) → x.required < S.rows → all (gone on) others ≡ false
  here on l =
      let found = w.first.here l in
      let wanted = and_right (among x.required others) _ found in
      either (all (gone on) others)
      (λ t. absurd (clash
      (all_at_lem (gone on) t (among_at x.required others (and_left (among x.required others) _ found)))
      (ap₂ (λ (a b : Bool). not a || b)
      (required_stays (required_at S m) on x.required (and_left (required_at S m x.required) _ wanted))
      (not-true _ (and_right (required_at S m x.required) _ wanted)))))
      (λ f. f)

  module _ (l : S.rows ≤ x.required) where
    -- a required row among them is r itself
    alone : (o : ℕ) → o ∈ others → required_at S m o ≡ true → eqb o r ≡ true
    alone o i t =
        either (eqb o r) (λ e. e)
        (λ f. let k = required_within S m o t in
        absurd (clash (and_join (among_of i) (and_join t (ap not f))) (w.first.before o (omega arith) (omega arith))))

    nobody : (on : Bool) → all (gone on) others ≡ not (not on && x.optional)
    unfolding stays
    nobody true =
        all_of (gone true) others (λ o i. (implies (required_at S m o) (eqb o r)).1 (alone o i))
    nobody false =
        all_same (gone false) _ others (λ o i.
        either (required_at S m o)
        (λ t. alone o i t ∙ sym (or_left _ _ t))
        (λ f. sym (ap (λ (b : Bool). b || eqb o r) f)))
        ∙ twice _ ∙ ap not (sym w.any)

  turned : (b : Bool) → cond b prospect.Fails prospect.Free ≡ cond (not b) prospect.Free prospect.Fails
  turned true = refl
  turned false = refl

  pub concluded-among : (on : Bool) (z : Prospect) → z ≡ concluded S.rows on x → z ≡ prospect_among S m on r others
  unfolding concluded prospect_among blocked_by
  concluded-among on z e =
      e ∙ by x.required S.rows
      (λ l. rw (lt-ltb x.required S.rows l, here on l, least_first _ S.rows x.required w.first l))
      (λ l. rw (le-ltb x.required S.rows l, nobody l on, least_never _ S.rows x.required w.first l) (turned (not on && x.optional)))

-- ---- the rows of the index

all-within : (q : ℕ → Bool) (n : ℕ) (xs : List ℕ) → ((o : ℕ) → o ∈ xs → o < n) → all q xs ≡ all_below n (λ (o : ℕ). not (among o xs) || q o)
all-within q n xs f =
    same_test _ _
    (λ t. all_below_of _ n (λ o l. (implies (among o xs) (q o)).1 (λ y. all_at_lem q t (among_at o xs y))))
    (λ t. all_of q xs (λ o i. (implies (among o xs) (q o)).0 (all_below_at _ n t o (f o i)) (among_of i)))

round : (a b d : Bool) → not d || (not a || b) ≡ not (a && (not b && d))
round true true true = refl
round true true false = refl
round true false true = refl
round true false false = refl
round false b true = refl
round false b false = refl

moved : (a b d : Bool) → d && (a && b) ≡ a && (b && d)
moved true true true = refl
moved true true false = refl
moved true false true = refl
moved true false false = refl
moved false b true = refl
moved false b false = refl

module _ (S : Shape) (m k R : List ℕ) (on : Bool) (r v : ℕ) (H B A : List ℕ) (w : Around S m k R r v H B A) where
  abbrev refusing : Bool
  refusing = rule_of S && not (sides_allow S m (stays (required_at S m) on) r B A)

  -- who may block
  abbrev L : Bool → List ℕ
  L c = cond c (H ++ (B ++ A)) H

  within : (p : ℕ → Bool) (xs : List ℕ) (o : ℕ) → xs ≡ all_of_below S.rows p → among o xs ≡ true → o < S.rows
  within p xs o e t = ((all_of_below_iff p S.rows o).0 (among_at o _ (rw e at t))).0

  listed-within : (c : Bool) → refusing ≡ c → (o : ℕ) → o ∈ L c → o < S.rows
  listed-within true e o i =
      let rule = and_left (rule_of S) _ e in
      ⊎_elim
      (within _ H o w.holding)
      (λ t. ⊎_elim (within _ B o (w.before rule)) (within _ A o (w.behind rule)) (or_cases (among o B) _ (sym (among-append o B A) ∙ t)))
      (or_cases (among o H) _ (sym (among-append o H (B ++ A)) ∙ among_of i))
  listed-within false e o i = within _ H o w.holding (among_of i)

  listed-blocks : (pick : ℕ → Bool) (c : Bool) → refusing ≡ c → (o : ℕ) → blocks_listed S m (stays (required_at S m) on) pick r H B A o ≡ pick o && (not (eqb o r) && among o (L c))
  unfolding blocks_listed
  listed-blocks pick true e o =
      rw (e, among-append o H (B ++ A), among-append o B A)
  listed-blocks pick false e o =
      rw e (ap (λ (b : Bool). pick o && (not (eqb o r) && b)) (or_false (among o H)))
    where
      or_false : (b : Bool) → b || false ≡ b
      or_false true = refl
      or_false false = refl

  module _ (marked : Marked S m) (legal : legal_at S m r v ≡ true) where
    abbrev D : Board
    D = board S m k

    abbrev h : Roster
    h = roster_in S.rows R

    seen-listed : (pick : ℕ → Bool) (c : Bool) → refusing ≡ c → (o : ℕ) → o < S.rows → blocks_seen D h (stays (required_at S m) on) pick r v o ≡ pick o && (not (eqb o r) && among o (L c))
    seen-listed pick c e o l = sym (blocks-same S m k R (stays (required_at S m) on) pick r v H B A w o l) ∙ listed-blocks pick c e o

    pub around_prospect : (c : Bool) → refusing ≡ c → prospect_among S m on r (L c) ≡ prospect_of D on h r v
    unfolding prospect_among
    around_prospect c e =
        ap₂ (λ (b : Bool) (u : Option ℕ). cond b prospect.Free (blocked_by u))
        (all-within _ S.rows (L c) (listed-within c e)
        ∙ all_below-same _ _ S.rows (λ o l. round (stays (required_at S m) on o) (eqb o r) (among o (L c)) ∙ sym (ap not (seen-listed (stays (required_at S m) on) c e o l))))
        (first-same _ _ 0 S.rows (λ o l k. moved (required_at S m o) (not (eqb o r)) (among o (L c)) ∙ sym (seen-listed (required_at S m) c e o (omega arith))))
        ∙ seen_prospect D on h r v (board_plain S m k marked) legal

-- ---- with those at the sides

module _ (S : Shape) (m : List ℕ) (on : Bool) (r : ℕ) (H B A : List ℕ) (b : Bool) (e : b ≡ not (sides_allow S m (stays (required_at S m) on) r B A)) where
  allowed : (c : Bool) → not b ≡ c → sides_allow S m (stays (required_at S m) on) r B A ≡ c
  allowed c t = twice (sides_allow S m (stays (required_at S m) on) r B A) ∙ ap not (sym e) ∙ t

  pub sides_allowed : not b ≡ true → (z : Prospect) → z ≡ prospect_among S m on r H → z ≡ prospect_among S m on r (may_block S m on r H B A)
  unfolding may_block
  sides_allowed t z g = rw (allowed true t) g

  pub sides_refused : not b ≡ false → (z : Prospect) → z ≡ prospect_among S m on r (H ++ (B ++ A)) → z ≡ prospect_among S m on r (may_block S m on r H B A)
  unfolding may_block
  sides_refused t z g = rw (allowed false t) g
