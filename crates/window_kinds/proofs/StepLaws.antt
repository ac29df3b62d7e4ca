-- A step over windows of any kind, whatever its moves are: where it ends, which try it finds, and what the loop of the code leaves of it in each turn. Assumes nothing.
use Prim.Native.Nat.{ℕ, ◌+◌, ◌≤◌, ◌<◌}
use mathlib.Core.Path.{◌≡◌, refl, sym, ap, ◌∙◌}
use mathlib.Core.Logic.{◌⊎◌, inl, inr, ⊎_elim}
use mathlib.Core.Bool.{Bool, true, false, not}
use mathlib.Core.List.Memᴰ.{head as here}
use mathlib.Core.List.Memᴰ.{tail as there}
use mathlib.Core.List.{List, [], ◌∷◌}
use Rattle.std.specs.Prelude.{Option, None, Some, Ok}
use Rattle.std.proofs.lemmas.Option.{none-some}
use native.Mathlib.Omega.{arith}
use lib.ListN.{length}
use lib.Dec.{ltb}
use borrow.Author.Tests.{lt-ltb, le-ltb, ltb-true, not-true, not-false}
use Rattle.basics.specs.Edits.{Edit}
use Rattle.basics.proofs.Bools.{by, either}
use Rattle.basics.proofs.Lists.{◌∈◌}
use Rattle.outputs.specs.Giving.{GivenBack}
use Rattle.window_kinds.specs.declared.CycleWindowCursor.{CycleWindowCursor}
use Rattle.window_kinds.specs.Kinds.{cursor, Kind, Walkable, has_window, ahead, past, end_of, Stepped, stepped, else_later, first_move, step_by, move_here, advance}
use Rattle.window_kinds.specs.Stepping.{Stepping, leaves, answering}
use Rattle.window_kinds.proofs.CursorLaws.{to_start, to_variant, to_length, by_way}
use Rattle.window_kinds.proofs.AheadLaws.{ahead_try, ahead-length, ahead_start, ahead_end}

-- ---- the end does not move

module _ (K : Kind) (n : ℕ) (c : CycleWindowCursor) where
  end_before : c.start < n → end_of K n c ≡ cursor n K.least 0 c.longest
  unfolding end_of
  end_before l = rw (lt-ltb _ _ l)

  end_at : n ≤ c.start → end_of K n c ≡ c
  unfolding end_of
  end_at l = rw (le-ltb _ _ l)

pub end_stays : (K : Kind) (n : ℕ) (c : CycleWindowCursor) → c.start < n → end_of K n (advance K n c) ≡ end_of K n c
end_stays K n c l =
    by_way K n c
    (λ h. rw (to_start K n c h) (by (c.start + 1) n
    (λ k. end_before K n (cursor (c.start + 1) K.least 0 c.longest) k ∙ sym (end_before K n c l))
    (λ k. let e : c.start + 1 ≡ n = omega arith in end_at K n (cursor (c.start + 1) K.least 0 c.longest) k ∙ rw e (sym (end_before K n c l)))))
    (λ h v. rw (to_variant K n c h v) (end_before K n (past c) l ∙ sym (end_before K n c l)))
    (λ h v. rw (to_length K n c h v) (end_before K n (cursor c.start (c.length + 1) 0 c.longest) l ∙ sym (end_before K n c l)))

-- ---- a step

module _ (K : Kind) (u : Walkable K) (move : CycleWindowCursor → Option (List Edit)) (n : ℕ) (c : CycleWindowCursor) where
  pub here-is : has_window n c ≡ true → c.variant < K.tries c.length → move_here K move n c ≡ move c
  unfolding move_here
  here-is t l = rw (t, lt-ltb _ _ l)

  firstly : has_window n c ≡ true → c.variant < K.tries c.length → step_by K move n c ≡ else_later c (move_here K move n c) (first_move move (end_of K n c) (ahead K n (past c)))
  unfolding step_by first_move
  firstly t l = rw (ahead_try K n c t l, here-is t l)

  -- a move at the cursor is a try's
  pub here-told : (L : List Edit) → move_here K move n c ≡ Some L → (has_window n c ≡ true) × (c.variant < K.tries c.length) × (move c ≡ Some L)
  unfolding move_here
  here-told L m =
      either (has_window n c)
      (λ t. either (ltb c.variant (K.tries c.length)) (λ l. (t, ltb-true _ _ l, rw (t, l) at m)) (λ l. absurd (none-some L (rw (t, l) at m))))
      (λ f. absurd (none-some L (rw f at m)))

  -- past the last start there is nothing
  pub step_end : 1 ≤ c.length → n ≤ c.start → step_by K move n c ≡ stepped c None
  unfolding step_by first_move
  step_end l e = rw (ahead_end K n c l e) (ap (λ (d : CycleWindowCursor). stepped d None) (end_at K n c e))

  module _ (l : 1 ≤ c.length) (s : c.start < n) where
    -- a move at the cursor
    pub step-here : (L : List Edit) → move_here K move n c ≡ Some L → step_by K move n c ≡ stepped (advance K n c) (Some L)
    step-here L m =
        let t = here-told L m in
        firstly t.0 t.1 ∙ rw (m, to_variant K n c t.0 t.1)

    -- no move at the cursor
    pub step_on : move_here K move n c ≡ None → step_by K move n c ≡ step_by K move n (advance K n c)
    unfolding step_by
    step_on m =
        let same = ap (λ (d : CycleWindowCursor). first_move move d (ahead K n (advance K n c))) (sym (end_stays K n c s)) in
        by_way K n c
        (λ w. ap (first_move move (end_of K n c)) (ahead_start K n c u l w ∙ ap (ahead K n) (sym (to_start K n c w))) ∙ same)
        (λ w v. firstly w v ∙ rw m (ap (first_move move (end_of K n c)) (ap (ahead K n) (sym (to_variant K n c w v))) ∙ same))
        (λ w v. ap (first_move move (end_of K n c)) (ahead-length K n c w v ∙ ap (ahead K n) (sym (to_length K n c w v))) ∙ same)

-- ---- what is found

-- the move that is found is one of the tries', and the cursor stands right behind it
found_here : (c : CycleWindowCursor) (o : Option (List Edit)) (later : Stepped) (L : List Edit) → (else_later c o later).move ≡ Some L
    → ((o ≡ Some L) × ((else_later c o later).next ≡ past c)) ⊎ ((later.move ≡ Some L) × (else_later c o later ≡ later))
found_here c None later L e = inr (e, refl)
found_here c (Some M) later L e = inl (e, refl)

found_among : (move : CycleWindowCursor → Option (List Edit)) (end : CycleWindowCursor) (cs : List CycleWindowCursor) (L : List Edit)
    → (first_move move end cs).move ≡ Some L
    → (c : CycleWindowCursor) × (c ∈ cs) × (move c ≡ Some L) × ((first_move move end cs).next ≡ past c)
unfolding first_move
found_among move end [] L e = absurd (none-some L e)
found_among move end (d ∷ cs) L e =
    ⊎_elim
    (λ (m, q). (d, here refl, m, q))
    (λ (m, q). let (c, r, f, g) = found_among move end cs L m in (c, there r, f, ap (λ (s : Stepped). s.next) q ∙ g))
    (found_here d (move d) (first_move move end cs) L e)

-- the move of a step is a try's that was still to come
pub found-ahead : (K : Kind) (move : CycleWindowCursor → Option (List Edit)) (n : ℕ) (c : CycleWindowCursor) (L : List Edit) → (step_by K move n c).move ≡ Some L
    → (d : CycleWindowCursor) × (d ∈ ahead K n c) × (move d ≡ Some L) × ((step_by K move n c).next ≡ past d)
unfolding step_by
found-ahead K move n c L e = found_among move (end_of K n c) (ahead K n c) L e

-- ---- the move at a cursor, as the code asks for the window and the try

module _ (K : Kind) (move : CycleWindowCursor → Option (List Edit)) (n : ℕ) (c : CycleWindowCursor) (b : Bool) (e : b ≡ has_window n c) (O U : List ℕ) where
  pub no_window : not b ≡ true → GivenBack (move_here K move n c) O U O U 0
  unfolding move_here
  no_window t = rw (← e, not-true b t) (record { number = refl; rows = refl; values = refl })

  module _ (t : not b ≡ false) where
    pub no_try : K.tries c.length ≤ c.variant → GivenBack (move_here K move n c) O U O U 0
    unfolding move_here
    no_try l = rw (← e, not-false b t, le-ltb _ _ l) (record { number = refl; rows = refl; values = refl })

    pub at_try : c.variant < K.tries c.length → (O' U' : List ℕ) (r : ℕ) → GivenBack (move c) O U O' U' r → GivenBack (move_here K move n c) O U O' U' r
    unfolding move_here
    at_try l O' U' r g = rw (← e, not-false b t, lt-ltb _ _ l) g

-- ---- a turn of the loop

module _ (K : Kind) (u : Walkable K) (move : CycleWindowCursor → Option (List Edit)) (n : ℕ) (c : CycleWindowCursor) (O U O' U' : List ℕ) (k : ℕ) (g : GivenBack (move_here K move n c) O U O' U' k) where
  -- where every move has an edit, nothing was written exactly where there is no move
  pub nothing_there : ((L : List Edit) → move c ≡ Some L → 1 ≤ length L) → k ≡ 0 → (move_here K move n c ≡ None) × (O' ≡ O) × (U' ≡ U)
  nothing_there edit z = go (move_here K move n c) refl g
    where
      go : (o : Option (List Edit)) → move_here K move n c ≡ o → GivenBack o O U O' U' k → (o ≡ None) × (O' ≡ O) × (U' ≡ U)
      go None e f = (refl, f.rows, f.values)
      go (Some L) e f = absurd (omega (arith, f.number, edit L (here-told K u move n c L e).2))

  module _ (l : 1 ≤ c.length) (s : c.start < n) (d : CycleWindowCursor) (q : d ≡ advance K n c) where
    pub move_there : (k ≡ 0 → ⊥) → leaves (record { next = d; answer = Ok (Some k) }) O' U' ≡ answering (step_by K move n c) O U
    unfolding answering
    move_there z = go (move_here K move n c) refl g
      where
        go : (o : Option (List Edit)) → move_here K move n c ≡ o → GivenBack o O U O' U' k
            → leaves (record { next = d; answer = Ok (Some k) }) O' U' ≡ answering (step_by K move n c) O U
        go None e f = absurd (z f.number)
        go (Some L) e f = rw (step-here K u move n c l s L e, f.number, f.rows, f.values, q)

    -- a turn without a move
    pub turned : ((L : List Edit) → move c ≡ Some L → 1 ≤ length L) → k ≡ 0 → (t : Stepped) → t ≡ step_by K move n c → t ≡ step_by K move n d
    turned edit z t e = rw q (e ∙ step_on K u move n c l s (nothing_there edit z).0)

pub nothing_left : (K : Kind) → Walkable K → (move : CycleWindowCursor → Option (List Edit)) (n : ℕ) (c : CycleWindowCursor) (O U : List ℕ) → 1 ≤ c.length → n ≤ c.start
    → leaves (record { next = c; answer = Ok None }) O U ≡ answering (step_by K move n c) O U
unfolding answering
nothing_left K u move n c O U l e = rw (step_end K u move n c l e)

-- ---- what is left

-- the step from the first cursor is the step from the present one, and the outputs are as they were
pub from_start : (s t : Stepped) (O₀ U₀ O U : List ℕ) (x : Stepping) → t ≡ s → O ≡ O₀ → U ≡ U₀ → x ≡ answering s O U → x ≡ answering t O₀ U₀
from_start s t O₀ U₀ O U x e f g q = rw (e, ← f, ← g) q
