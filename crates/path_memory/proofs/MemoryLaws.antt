-- What a memory says, and what writing a prospect into it leaves. Assumes nothing.
use Prim.Native.Nat.{ℕ, zero, suc, ◌+◌, ◌-◌, ◌*◌, ◌≤◌, ◌<◌}
use mathlib.Core.Path.{◌≡◌, refl, sym, ap, subst, ◌∙◌}
use mathlib.Core.Logic.{◌⊎◌, inl, inr, ⊎_elim}
use mathlib.Core.Bool.{Bool, true, false}
use mathlib.Core.List.{List, []}
use Rattle.std.specs.Prelude.{Option, None, Some}
use native.Mathlib.Omega.{arith}
use lib.Dec.{eqb, ltb}
use lib.ListN.{length, get_or, set, get_or-eq_default}
use lib.Seq.{get_or-set_same, get_or-set_other, set_out}
use borrow.Author.Tests.{eq-eqb, ne_eqb, eqb-true, eqb-false, lt-ltb, le-ltb}
use Rattle.basics.proofs.Bools.{either, by, clash}
use Rattle.basics.proofs.Below.{first_found}
use Rattle.basics.proofs.Maps.{get_d_replicate_any}
use Rattle.rules.specs.Board.{Board}
use Rattle.rules.specs.Roster.{Roster}
use Rattle.search_rules.specs.Blockers.{is_free, first_required}
use Rattle.search_rules.specs.Lifted.{bare}
use Rattle.assignment_tables.specs.declared.Shape.{Shape}
use Rattle.assignment_tables.specs.Tables.{board}
use Rattle.assignment_tables.proofs.CellLaws.{cell_apart}
use Rattle.path_steps.specs.declared.Prospect.{Prospect}
use Rattle.path_steps.specs.declared.Prospect.TheVariants as prospect
use Rattle.path_steps.specs.Prospects.{blocked_by, prospect_of}
use Rattle.path_memory.specs.Memory.{prospect_number, Remembers, remembered_at, noted_in, not_free, hopeless_at, nothing_yet}

-- ---- numbers

pub fails_number : 1 ≡ prospect_number prospect.Fails
unfolding prospect_number
fails_number = refl

pub free_number : 2 ≡ prospect_number prospect.Free
unfolding prospect_number
free_number = refl

pub blocked_number : (b : ℕ) → prospect_number (prospect.Blocked b) ≡ b + 3
unfolding prospect_number
blocked_number b = refl

pub blocker_fits : (x : Prospect) (b : ℕ) → x ≡ prospect.Blocked b → prospect_number x < 256 → b + 3 < 256
blocker_fits x b e l = omega (arith, ap prospect_number e ∙ blocked_number b)

pub three_more : (n : ℕ) → 1 ≤ n → (n ≡ 1 → ⊥) → (n ≡ 2 → ⊥) → n - 3 + 3 ≡ n
three_more zero l a b = absurd (omega arith)
three_more (suc zero) l a b = absurd (a refl)
three_more (suc (suc zero)) l a b = absurd (b refl)
three_more (suc (suc (suc n))) l a b = omega arith

-- no two prospects have one number
pub one_number : (x y : Prospect) → prospect_number x ≡ prospect_number y → x ≡ y
unfolding prospect_number
one_number prospect.Fails prospect.Fails e = refl
one_number prospect.Fails prospect.Free e = absurd (omega arith)
one_number prospect.Fails (prospect.Blocked b) e = absurd (omega arith)
one_number prospect.Free prospect.Fails e = absurd (omega arith)
one_number prospect.Free prospect.Free e = refl
one_number prospect.Free (prospect.Blocked b) e = absurd (omega arith)
one_number (prospect.Blocked a) prospect.Fails e = absurd (omega arith)
one_number (prospect.Blocked a) prospect.Free e = absurd (omega arith)
one_number (prospect.Blocked a) (prospect.Blocked b) e = let same : a ≡ b = omega arith in ap prospect.Blocked same

-- a blocker is a row, so its number is a byte
module _ (B : Board) (on : Bool) (h : Roster) (r v : ℕ) where
  blocker_small : (o : Option ℕ) → first_required B (bare B on h) r v ≡ o → B.rows ≤ 128 → prospect_number (blocked_by o) < 256
  unfolding first_required blocked_by prospect_number
  blocker_small None e l = omega arith
  blocker_small (Some b) e l = let f = (first_found _ 0 B.rows e).1 in omega arith

  pub number_small : B.rows ≤ 128 → (x : Prospect) → x ≡ prospect_of B on h r v → prospect_number x < 256
  unfolding prospect_of prospect_number
  number_small l x e =
      rw e
      (either (B.legal r v)
      (λ t. either (is_free B (bare B on h) r v)
      (λ y. rw (t, y) (omega arith))
      (λ n. rw (t, n) (blocker_small (first_required B (bare B on h) r v) refl l)))
      (λ f. rw f (omega arith)))

-- ---- prospects that are not free

first_number : (x : Prospect) → 1 ≡ prospect_number x → true ≡ not_free x
unfolding prospect_number not_free
first_number prospect.Fails e = refl
first_number prospect.Free e = absurd (omega arith)
first_number (prospect.Blocked b) e = refl

other_number : (x : Prospect) (n : ℕ) → n ≡ prospect_number x → (n ≡ 1 → ⊥) → ltb 2 n ≡ not_free x
unfolding prospect_number not_free
other_number prospect.Fails n e o = absurd (o e)
other_number prospect.Free n e o = rw e
other_number (prospect.Blocked b) n e o = lt-ltb 2 n (omega arith)

not_free_cases : {P : Type 0} (x : Prospect) → not_free x ≡ true → (prospect.Fails ≡ x → P) → ((b : ℕ) → prospect.Blocked b ≡ x → P) → P
unfolding not_free
not_free_cases prospect.Fails t f g = f refl
not_free_cases prospect.Free t f g = absurd (clash t refl)
not_free_cases (prospect.Blocked b) t f g = g b refl

pub fails_not_free : true ≡ not_free prospect.Fails
unfolding not_free
fails_not_free = refl

pub free_is_free : false ≡ not_free prospect.Free
unfolding not_free
free_is_free = refl

pub blocked_not_free : (b : ℕ) → true ≡ not_free (prospect.Blocked b)
unfolding not_free
blocked_not_free b = refl

-- ---- cells

module _ (S : Shape) (memo : List ℕ) (r v : ℕ) where
  pub no_row : S.rows ≤ r → 0 ≡ remembered_at S memo r v
  unfolding remembered_at
  no_row l = rw (le-ltb r S.rows l)

  pub no_value : r < S.rows → S.values ≤ v → 0 ≡ remembered_at S memo r v
  unfolding remembered_at
  no_value a l = rw (lt-ltb r S.rows a, le-ltb v S.values l)

  module _ (a : r < S.rows) (b : v < S.values) where
    pub in_cell : get_or memo (r * S.values + v) 0 ≡ remembered_at S memo r v
    unfolding remembered_at
    in_cell = rw (lt-ltb r S.rows a, lt-ltb v S.values b)

    pub no_cell : length memo ≤ r * S.values + v → 0 ≡ remembered_at S memo r v
    no_cell l = sym (get_or-eq_default memo 0 l) ∙ in_cell

  module _ (x : Prospect) where
    pub row_not_noted : S.rows ≤ r → memo ≡ noted_in S memo r v x
    unfolding noted_in
    row_not_noted l = rw (le-ltb r S.rows l)

    pub value_not_noted : r < S.rows → S.values ≤ v → memo ≡ noted_in S memo r v x
    unfolding noted_in
    value_not_noted a l = rw (lt-ltb r S.rows a, le-ltb v S.values l)

    module _ (a : r < S.rows) (b : v < S.values) where
      in_cell_noted : set memo (r * S.values + v) (prospect_number x) ≡ noted_in S memo r v x
      unfolding noted_in
      in_cell_noted = rw (lt-ltb r S.rows a, lt-ltb v S.values b)

      pub cell_not_noted : length memo ≤ r * S.values + v → memo ≡ noted_in S memo r v x
      cell_not_noted l = sym (set_out memo (r * S.values + v) (prospect_number x) l) ∙ in_cell_noted

      pub cell_noted : (n : ℕ) → n ≡ prospect_number x → set memo (r * S.values + v) n ≡ noted_in S memo r v x
      cell_noted n e = ap (set memo (r * S.values + v)) e ∙ in_cell_noted

module _ (B : Board) (on : Bool) (h : Roster) (memo : List ℕ) (w : Remembers B on h memo) (r v : ℕ) (a : r < B.rows) (b : v < B.values) (cell : ℕ) (e : cell ≡ r * B.values + v) where
  remembered : cell < length memo → (x : Prospect) (n : ℕ) → x ≡ prospect_of B on h r v → n ≡ prospect_number x → Remembers B on h (set memo cell n)
  remembered l x n f g = record { right = λ i j c d. either (eqb cell (i * B.values + j)) (same i j c d) (other i j c d) }
    where
      same : (i j : ℕ) → i < B.rows → j < B.values → eqb cell (i * B.values + j) ≡ true
          → (get_or (set memo cell n) (i * B.values + j) 0 ≡ 0) ⊎ (get_or (set memo cell n) (i * B.values + j) 0 ≡ prospect_number (prospect_of B on h i j))
      same i j c d t =
          let place = eqb-true cell (i * B.values + j) t in
          let (u, z) = cell_apart B.values r v i j b d (sym e ∙ place) in
          inr (ap (λ (q : ℕ). get_or (set memo cell n) q 0) (sym place) ∙ get_or-set_same memo cell n 0 l ∙ g ∙ ap prospect_number (f ∙ rw (u, z) refl))

      other : (i j : ℕ) → i < B.rows → j < B.values → eqb cell (i * B.values + j) ≡ false
          → (get_or (set memo cell n) (i * B.values + j) 0 ≡ 0) ⊎ (get_or (set memo cell n) (i * B.values + j) 0 ≡ prospect_number (prospect_of B on h i j))
      other i j c d t =
          rw (get_or-set_other memo cell (i * B.values + j) n 0 (λ q. eqb-false cell (i * B.values + j) t (sym q))) (w.right i j c d)

-- ---- what a memory says

module _ (S : Shape) (m k : List ℕ) (on : Bool) (h : Roster) (memo : List ℕ) (w : Remembers (board S m k) on h memo) (r v : ℕ) where
  abbrev Judged : Prospect
  Judged = prospect_of (board S m k) on h r v

  -- nothing, or the number of what would be judged
  told_or_not : (remembered_at S memo r v ≡ 0) ⊎ (remembered_at S memo r v ≡ prospect_number Judged)
  told_or_not =
      by r S.rows
      (λ a. by v S.values
      (λ b. subst (λ (n : ℕ). (n ≡ 0) ⊎ (n ≡ prospect_number Judged)) (in_cell S memo r v a b) (w.right r v a b))
      (λ l. inl (sym (no_value S memo r v a l))))
      (λ l. inl (sym (no_row S memo r v l)))

  told : (n : ℕ) → n ≡ remembered_at S memo r v → (n ≡ 0 → ⊥) → n ≡ prospect_number Judged
  told n e z = ⊎_elim (λ f. absurd (z (e ∙ f))) (λ f. e ∙ f) told_or_not

  pub recalled : (n : ℕ) → n ≡ remembered_at S memo r v → (n ≡ 0 → ⊥) → (x : Prospect) → prospect_number x ≡ n → x ≡ Judged
  recalled n e z x f = one_number x Judged (f ∙ told n e z)

  -- what is judged may be noted
  pub noted : (x : Prospect) → x ≡ Judged → (memo' : List ℕ) → memo' ≡ noted_in S memo r v x → Remembers (board S m k) on h memo'
  noted x e memo' f =
      rw f
      (by r S.rows
      (λ a. by v S.values
      (λ b. by (r * S.values + v) (length memo)
      (λ l. rw (← cell_noted S memo r v x a b (prospect_number x) refl) (remembered (board S m k) on h memo w r v a b (r * S.values + v) refl l x (prospect_number x) e refl))
      (λ l. rw (← cell_not_noted S memo r v x a b l) w))
      (λ l. rw (← value_not_noted S memo r v x a l) w))
      (λ l. rw (← row_not_noted S memo r v x l) w))

  -- ---- whether a try fails for sure

  module _ (depth : ℕ) where
    abbrev Hopeless : Bool
    Hopeless = hopeless_at (board S m k) on h S memo depth r v

    flat_is : depth ≡ 0 → not_free Judged ≡ Hopeless
    unfolding hopeless_at
    flat_is z = rw (eq-eqb depth 0 z)

    deep_is : (depth ≡ 0 → ⊥) → (n : ℕ) → n ≡ remembered_at S memo r v → eqb n 1 ≡ Hopeless
    unfolding hopeless_at
    deep_is z n e = rw (ne_eqb depth 0 z, e)

    pub goes_deeper : (n : ℕ) → n ≡ remembered_at S memo r v → (n ≡ 1 → ⊥) → (depth ≡ 0 → ⊥) → false ≡ Hopeless
    goes_deeper n e o z = sym (ne_eqb n 1 o) ∙ deep_is z n e

    pub fails_at_once : (n : ℕ) → n ≡ remembered_at S memo r v → n ≡ 1 → true ≡ Hopeless
    fails_at_once n e o =
        either (eqb depth 0)
        (λ z. first_number Judged (sym o ∙ told n e (λ f. let y : ◌≡◌ {A = ℕ} 1 0 = sym o ∙ f in absurd (omega arith))) ∙ flat_is (eqb-true depth 0 z))
        (λ z. sym (eq-eqb n 1 o) ∙ deep_is (eqb-false depth 0 z) n e)

    pub told_flat : (n : ℕ) → n ≡ remembered_at S memo r v → (n ≡ 1 → ⊥) → depth ≡ 0 → (n ≡ 0 → ⊥) → ltb 2 n ≡ Hopeless
    told_flat n e o z u = other_number Judged n (told n e u) o ∙ flat_is z

    pub judged_flat : depth ≡ 0 → (x y : Prospect) → x ≡ Judged → x ≡ y → not_free y ≡ Hopeless
    judged_flat z x y e f = ap not_free (sym f ∙ e) ∙ flat_is z

  -- it fails at every depth, or it is blocked and as deep as it may be
  pub hopeless_cases : {P : Type 0} (depth : ℕ) → hopeless_at (board S m k) on h S memo depth r v ≡ true
      → (prospect.Fails ≡ Judged → P) → (depth ≡ 0 → (b : ℕ) → prospect.Blocked b ≡ Judged → P) → P
  hopeless_cases depth t f g =
      either (eqb depth 0)
      (λ z. not_free_cases Judged (flat_is depth (eqb-true depth 0 z) ∙ t) f (g (eqb-true depth 0 z)))
      (λ z. f (failing (eqb-true _ 1 (deep_is depth (eqb-false depth 0 z) _ refl ∙ t))))
    where
      failing : remembered_at S memo r v ≡ 1 → prospect.Fails ≡ Judged
      failing o = recalled 1 (sym o) (λ f. absurd (omega arith)) prospect.Fails (sym fails_number)

-- ---- a memory of nothing

module _ (B : Board) (on : Bool) (h : Roster) where
  pub empty_remembers : Remembers B on h []
  empty_remembers = record { right = λ r v a b. inl refl }

  pub nothing_remembers : (memo : List ℕ) → memo ≡ nothing_yet → Remembers B on h memo
  unfolding nothing_yet
  nothing_remembers memo e = rw e (record { right = λ r v a b. inl (get_d_replicate_any 8192 (r * B.values + v) 0) })
