-- A list that sets one row to what it holds: it changes nothing, and touches what the row touches. What a row's parts come to. Assumes nothing.
use Prim.Native.Nat.{ℕ, ◌<◌}
use mathlib.Core.Path.{◌≡◌, refl, sym, ap, fun_ext, ◌∙◌}
use mathlib.Core.Bool.{Bool, true, false, not, ◌&&◌, ◌||◌}
use mathlib.Core.List.{[], ◌∷◌}
use lib.Dec.{eqb}
use borrow.Author.Tests.{lt-ltb, eqb-true, eqb-false, ne_eqb, not-true, not-false}
use Rattle.basics.specs.Tests.{all, distinct}
use Rattle.basics.specs.Edits.{edits, Listed}
use Rattle.basics.proofs.Bools.{either}
use Rattle.rules.specs.Board.{Board, empty, legal_or_empty}
use Rattle.rules.specs.Roster.{Roster, after}
use Rattle.rules.specs.FinalTest.{key_at, place_at, at_edits, capacity_passes, edges_pass}
use Rattle.rules.specs.Sound.{held_legal, sound_at}
use Rattle.rules.proofs.Rosters.{put_same, put_other}

twice : (b : Bool) → (b && b) && true ≡ b
twice true = refl
twice false = refl

module _ (B : Board) (h : Roster) (r v : ℕ) (e : v ≡ h r) where
  unchanged : after h (edits (r ∷ []) (v ∷ [])) ≡ h
  unfolding after edits
  unchanged = fun_ext (λ i. either (eqb i r) (λ t. rw (eqb-true i r t) (put_same h r v ∙ e)) (λ n. put_other h r v (eqb-false i r n)))

  key_touched : capacity_passes B h (edits (r ∷ []) (v ∷ [])) ≡ key_at B h r (h r)
  unfolding capacity_passes at_edits edits all
  key_touched = rw (unchanged, e) (twice (key_at B h r (h r)))

  place_touched : edges_pass B h (edits (r ∷ []) (v ∷ [])) ≡ place_at B h r (h r)
  unfolding edges_pass at_edits edits all
  place_touched = rw (unchanged, e) (twice (place_at B h r (h r)))

  -- the holding, its key, its place, in turn
  module _ (a : Bool) (g : a ≡ eqb v empty || B.legal r v) where
    held-is : held_legal B h r ≡ a
    unfolding held_legal
    held-is = sym (g ∙ ap (λ (x : ℕ). eqb x empty || B.legal r x) e)

    pub holding_stops : not a ≡ true → false ≡ sound_at B h r
    holding_stops t = rw (held-is, not-true a t)

    module _ (t : not a ≡ false) (b : Bool) (f : b ≡ capacity_passes B h (edits (r ∷ []) (v ∷ []))) where
      pub key-stops : not b ≡ true → false ≡ sound_at B h r
      key-stops u = rw (held-is, not-false a t, ← key_touched, ← f, not-true b u)

      pub place_decides : not b ≡ false → (d : Bool) → d ≡ edges_pass B h (edits (r ∷ []) (v ∷ [])) → d ≡ sound_at B h r
      place_decides u d p = rw (held-is, not-false a t, ← key_touched, ← f, not-false b u) (p ∙ place_touched)

-- what is looked up of a value that is one
pub value-told : (may : ℕ → Bool) (legal : ℕ → ℕ → Bool) (r v : ℕ) → (v ≡ empty → ⊥) → (b : Bool) → b ≡ legal_or_empty may legal r v → b ≡ eqb v empty || legal r v
unfolding legal_or_empty
value-told may legal r v n b e = rw (ne_eqb v empty n) (rw (ne_eqb v empty n) at e)

pub one_listed : (n r v : ℕ) → r < n → Listed n (r ∷ []) (v ∷ [])
unfolding all distinct Rattle.basics.specs.Tests.among
one_listed n r v l = record { in_range = rw (lt-ltb r n l); once = refl; as_many = refl }
