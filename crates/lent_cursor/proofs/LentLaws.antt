-- A step keeps the longest window, so that a cursor whose other three numbers are replaced is the step's. Assumes nothing.
use Prim.Native.Nat.{ℕ, zero, suc, ◌-◌, min}
use mathlib.Core.Path.{◌≡◌, refl, sym, ap, ◌∙◌}
use mathlib.Core.Bool.{Bool, true, false, cond}
use mathlib.Core.List.{List, [], ◌∷◌, ◌++◌}
use Rattle.std.specs.Prelude.{Option, None, Some, Ok, Err}
use lib.ListN.{length}
use lib.Dec.{ltb}
use lib.IntN.{ℤ}
use Rattle.refusals.specs.Refusals.{Checked}
use Rattle.refusals.specs.declared.Refusal.{Refusal}
use Rattle.basics.specs.Edits.{Edit}
use Rattle.rules.specs.Board.{Board}
use Rattle.rules.specs.Roster.{Roster}
use Rattle.assignment_tables.specs.declared.Shape.{Shape}
use Rattle.assignment_tables.specs.Tables.{board}
use Rattle.assignment_index.specs.Index.{roster_in}
use Rattle.refusals.specs.Answers.{unless_refused}
use Rattle.window_kinds.specs.declared.CycleWindowCursor.{CycleWindowCursor}
use Rattle.window_kinds.specs.declared.Step.{Step}
use Rattle.window_kinds.specs.Kinds.{Kind, rematching, cursor, joined_from, tries_from, lengths_from, starts_from, has_window, ahead, Stepped, end_of, else_later, first_move, step_by}
use Rattle.window_kinds.specs.Stepping.{Stepping, leaves, answering, refused_step}
use Rattle.assignment_cycle.specs.Windows.{move_at, rematch_step}
use Rattle.assignment_cycle.specs.Stepping.{step_refusal, stepping_by, stepping}
use Rattle.lent_cursor.specs.Lent.{step_to}

-- ---- every try that is still to come has the cursor's longest window

abbrev Keep : ℕ → List CycleWindowCursor → Type 0
Keep g [] = Unit {0}
Keep g (c ∷ cs) = (c.longest ≡ g) × Keep g cs

keep_both : (g : ℕ) (xs ys : List CycleWindowCursor) → Keep g xs → Keep g ys → Keep g (xs ++ ys)
keep_both g [] ys p q = q
keep_both g (x ∷ xs) ys p q = (p.0, keep_both g xs ys p.1 q)

keep_joined : (g : ℕ) (f : ℕ → List CycleWindowCursor) → ((j : ℕ) → Keep g (f j)) → (k i : ℕ) → Keep g (joined_from f i k)
unfolding joined_from
keep_joined g f each zero i = tt
keep_joined g f each (suc k) i = keep_both g (f i) (joined_from f (suc i) k) (each i) (keep_joined g f each k (suc i))

module _ (K : Kind) (n g : ℕ) where
  keep_tries : (s l v : ℕ) → Keep g (tries_from K g s l v)
  unfolding tries_from
  keep_tries s l v = keep_joined g (λ (w : ℕ). cursor s l w g ∷ []) (λ w. (refl, tt)) (K.tries l - v) v

  keep_lengths : (s l : ℕ) → Keep g (lengths_from K n g s l)
  unfolding lengths_from
  keep_lengths s l = keep_joined g (λ (m : ℕ). tries_from K g s m 0) (λ m. keep_tries s m 0) (suc (min g (n - s)) - l) l

  keep_starts : (s : ℕ) → Keep g (starts_from K n g s)
  unfolding starts_from
  keep_starts s = keep_joined g (λ (t : ℕ). lengths_from K n g t K.least) (λ t. keep_lengths t K.least) (n - s) s

keep_where : (g : ℕ) (b : Bool) (xs : List CycleWindowCursor) → Keep g xs → Keep g (cond b xs [])
keep_where g true xs p = p
keep_where g false xs p = tt

keep_ahead : (K : Kind) (n : ℕ) (c : CycleWindowCursor) → Keep c.longest (ahead K n c)
unfolding ahead
keep_ahead K n c =
    let g = c.longest in
    keep_both g (cond (has_window n c) (tries_from K g c.start c.length c.variant) []) (lengths_from K n g c.start (suc c.length) ++ starts_from K n g (suc c.start))
    (keep_where g (has_window n c) (tries_from K g c.start c.length c.variant) (keep_tries K n g c.start c.length c.variant))
    (keep_both g (lengths_from K n g c.start (suc c.length)) (starts_from K n g (suc c.start)) (keep_lengths K n g c.start (suc c.length)) (keep_starts K n g (suc c.start)))

-- ---- so has the cursor that a step leads to

end_keeps : (K : Kind) (n : ℕ) (c : CycleWindowCursor) → (end_of K n c).longest ≡ c.longest
unfolding end_of
end_keeps K n c = by (ltb c.start n)
  where
    by : (b : Bool) → (cond b (cursor n K.least 0 c.longest) c).longest ≡ c.longest
    by true = refl
    by false = refl

else_keeps : (g : ℕ) (c : CycleWindowCursor) (m : Option (List Edit)) (later : Stepped) → c.longest ≡ g → later.next.longest ≡ g → (else_later c m later).next.longest ≡ g
else_keeps g c None later p q = q
else_keeps g c (Some L) later p q = p

first_keeps : (g : ℕ) (move : CycleWindowCursor → Option (List Edit)) (end : CycleWindowCursor) → end.longest ≡ g → (cs : List CycleWindowCursor) → Keep g cs → (first_move move end cs).next.longest ≡ g
unfolding first_move
first_keeps g move end e [] p = e
first_keeps g move end e (c ∷ cs) p = else_keeps g c (move c) (first_move move end cs) p.0 (first_keeps g move end e cs p.1)

step_keeps : (B : Board) (h : Roster) (order : List ℕ) (c : CycleWindowCursor) → (rematch_step B h order c).next.longest ≡ c.longest
unfolding step_by
step_keeps B h order c =
    first_keeps c.longest (move_at B h order) (end_of rematching (length order) c) (end_keeps rematching (length order) c) (ahead rematching (length order) c) (keep_ahead rematching (length order) c)

module _ (S : Shape) (m k : List ℕ) (p : List ℤ) (R M order : List ℕ) (c : CycleWindowCursor) (O U : List ℕ) where
  abbrev answered : Stepping
  answered = answering (rematch_step (board S m k) (roster_in S.rows R) order c) O U

  unless_keeps : (a : Checked) → (unless_refused (λ (r : Refusal). leaves (refused_step c r) O U) answered a).step.next.longest ≡ c.longest
  unfolding unless_refused answering
  unless_keeps (Ok x) = step_keeps (board S m k) (roster_in S.rows R) order c
  unless_keeps (Err r) = refl

  pub longest_kept : (stepping S m k p R M order c O U).step.next.longest ≡ c.longest
  unfolding stepping_by
  longest_kept = unless_keeps (step_refusal rematching S m k p R M order c O U)

  -- the step by value, told by the cursor that stands behind the reference
  pub lent_step : (r : Step) (O' U' : List ℕ) → leaves r O' U' ≡ stepping S m k p R M order c O U
      → leaves (step_to (cursor r.next.start r.next.length r.next.variant c.longest) r.answer) O' U' ≡ stepping S m k p R M order c O U
  lent_step r O' U' e =
      let long : c.longest ≡ r.next.longest = sym (ap (λ (w : Stepping). w.step.next.longest) e ∙ longest_kept) in
      ap (λ (g : ℕ). leaves (step_to (cursor r.next.start r.next.length r.next.variant g) r.answer) O' U') long ∙ e

  -- a refusal leaves the cursor as it was
  pub refusal-stays : (r : Refusal) → step_refusal rematching S m k p R M order c O U ≡ Err r → (stepping S m k p R M order c O U).step.next ≡ c
  unfolding stepping_by unless_refused
  refusal-stays r e = rw e
