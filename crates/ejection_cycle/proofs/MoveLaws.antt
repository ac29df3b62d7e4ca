-- The move that an attempt at a window makes, if it makes one: what each test of the code leaves of it. Assumes nothing.
use Prim.Native.Nat.{ℕ, ◌≤◌}
use mathlib.Core.Path.{◌≡◌, refl, sym, ap, ◌∙◌}
use mathlib.Core.Bool.{true}
use mathlib.Core.List.{List}
use Rattle.std.specs.Prelude.{Option, None, Some, Ok}
use Rattle.std.proofs.lemmas.Option.{none-some, same_Some}
use lib.ListN.{length, take}
use lib.Dec.{ltb}
use borrow.Author.Tests.{ltb-false}
use Rattle.basics.specs.Edits.{Edit, edits}
use Rattle.basics.proofs.Bools.{either}
use Rattle.rules.specs.Board.{Board}
use Rattle.rules.specs.Roster.{Roster}
use Rattle.rules.specs.FinalTest.{passes}
use Rattle.outputs.specs.Outputs.{InFront}
use Rattle.outputs.specs.Giving.{GivenBack}
use Rattle.window_kinds.specs.declared.CycleWindowCursor.{CycleWindowCursor}
use Rattle.window_kinds.specs.Kinds.{window_at}
use Rattle.given_lists.specs.Passing.{passing, move_in}
use Rattle.assignment_cycle.proofs.MoveLaws.{front-edits}
use Rattle.ejection_turns.specs.Ejection.{ejection}
use Rattle.assignment_ejection.specs.Ejected.{Left, leaves, given, ejected}
use Rattle.ejection_cycle.specs.Reinserting.{if_listed, reinsert_move, reinsert_at}

-- ---- what an ejection leaves, read back

-- the list in the fronts of two slices
pub record Listed (o : Option (List Edit)) (rs₀ vs₀ rs vs : List ℕ) (n : ℕ) : Type 0 where
  pub list : List Edit
  pub is : o ≡ Some list
  pub front : InFront list rs₀ vs₀ rs vs n

read : (o : Option (List Edit)) (rs₀ vs₀ rs vs : List ℕ) (n : ℕ) → leaves (Ok (Some n)) rs vs ≡ given o rs₀ vs₀ → Listed o rs₀ vs₀ rs vs n
read None rs₀ vs₀ rs vs n e =
    let a : Ok (Some n) ≡ Ok None = ap (λ (x : Left). x.answer) e in
    cc
read (Some L) rs₀ vs₀ rs vs n e =
    let a : Ok (Some n) ≡ Ok (Some (length L)) = ap (λ (x : Left). x.answer) e in
    let m : n ≡ length L = cc in
    record { list = L; is = refl; front = record { number = m; rows = ap (λ (x : Left). x.rows) e; values = ap (λ (x : Left). x.values) e } }

module _ (B : Board) (h : Roster) (limit : Option ℕ) (attempt : ℕ) (window : List ℕ) (rs₀ vs₀ rs vs : List ℕ) (a : Option ℕ) (q : leaves (Ok a) rs vs ≡ ejected B h limit attempt window rs₀ vs₀) where
  pub listed : (n : ℕ) → a ≡ Some n → Listed (ejection B h limit attempt window) rs₀ vs₀ rs vs n
  listed n e = read (ejection B h limit attempt window) rs₀ vs₀ rs vs n (ap (λ (x : Option ℕ). leaves (Ok x) rs vs) (sym e) ∙ q)

  -- no list, no move
  pub none_listed : a ≡ None → (O U : List ℕ) → GivenBack (reinsert_move B h limit attempt window) O U O U 0
  unfolding reinsert_move
  none_listed e O U = go (ejection B h limit attempt window) (ap (λ (x : Option ℕ). (leaves (Ok x) rs vs).answer) (sym e) ∙ ap (λ (x : Left). x.answer) q)
    where
      go : (o : Option (List Edit)) → Ok None ≡ (given o rs₀ vs₀).answer → GivenBack (if_listed B h o) O U O U 0
      go None f = record { number = refl; rows = refl; values = refl }
      go (Some L) f = cc

-- the list that was read is the one that is given
pub list_given : (B : Board) (h : Roster) (limit : Option ℕ) (attempt : ℕ) (window : List ℕ) (rs₀ vs₀ rs vs : List ℕ) (n : ℕ) (w : Listed (ejection B h limit attempt window) rs₀ vs₀ rs vs n) (O U O' U' : List ℕ) (r : ℕ)
    → GivenBack (move_in B h (edits (take n rs) (take n vs))) O U O' U' r → GivenBack (reinsert_move B h limit attempt window) O U O' U' r
unfolding reinsert_move
list_given B h limit attempt window rs₀ vs₀ rs vs n w O U O' U' r g =
    rw w.is (rw (front-edits w.list rs₀ vs₀ rs vs n w.front) at g)

-- ---- a move is the list of an ejection, has an edit, and passes the final test

pub move_told : (B : Board) (h : Roster) (limit : Option ℕ) (attempt : ℕ) (window : List ℕ) (L : List Edit) → reinsert_move B h limit attempt window ≡ Some L
    → (ejection B h limit attempt window ≡ Some L) × (1 ≤ length L) × (passes B h L ≡ true)
unfolding reinsert_move move_in passing
move_told B h limit attempt window L m = go (ejection B h limit attempt window) m
  where
    go : (o : Option (List Edit)) → if_listed B h o ≡ Some L → (o ≡ Some L) × (1 ≤ length L) × (passes B h L ≡ true)
    go None e = absurd (none-some L e)
    go (Some M) e =
        either (ltb (length M) 1)
        (λ t. absurd (none-some L (rw t at e)))
        (λ f. either (passes B h M)
        (λ t. let same : M ≡ L = same_Some _ _ (rw (f, t) at e) in (ap Some same, rw (← same) (ltb-false _ _ f), rw (← same) t))
        (λ n. absurd (none-some L (rw (f, n) at e))))

-- the same at a cursor
pub some_edits : (B : Board) (h : Roster) (limit : Option ℕ) (order : List ℕ) (c : CycleWindowCursor) (L : List Edit) → reinsert_at B h limit order c ≡ Some L → 1 ≤ length L
unfolding reinsert_at
some_edits B h limit order c L m = (move_told B h limit c.variant (window_at order c) L m).1

-- the window that the code has
pub window_given : (B : Board) (h : Roster) (limit : Option ℕ) (order : List ℕ) (c : CycleWindowCursor) (W : List ℕ) → W ≡ window_at order c → (O U O' U' : List ℕ) (r : ℕ)
    → GivenBack (reinsert_move B h limit c.variant W) O U O' U' r → GivenBack (reinsert_at B h limit order c) O U O' U' r
unfolding reinsert_at
window_given B h limit order c W x O U O' U' r g = rw x at g
