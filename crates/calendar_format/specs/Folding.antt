-- Lines that are folded, and unfolding them. docs/RULES.md, 13.5.
use Rattle.std.specs.Prelude.{ℕ, zero, suc, ◌≡◌, Bool, true, false, cond, ◌&&◌, ◌||◌, List, [], ◌∷◌, eqb}

-- a space or a tab
unfoldable pub is_blank : ℕ → Bool
is_blank b = eqb b 32 || eqb b 9

-- a fold stands in front: a carriage return, a line feed and a blank
unfoldable pub fold_here : List ℕ → Bool
fold_here [] = false
fold_here (a ∷ []) = false
fold_here (a ∷ b ∷ []) = false
fold_here (a ∷ b ∷ c ∷ l) = eqb a 13 && (eqb b 10 && is_blank c)

-- the octets without folds, the first k left out
unfoldable pub unfold_by : ℕ → List ℕ → List ℕ
unfold_by k [] = []
unfold_by zero (a ∷ l) = let more = unfold_by zero l in cond (fold_here (a ∷ l)) (unfold_by 2 l) (a ∷ more)
unfold_by (suc k) (a ∷ l) = unfold_by k l

-- one pass, left to right: what is joined is not looked at again
abbrev pub unfolded : List ℕ → List ℕ
unfolded l = unfold_by 0 l

-- no fold stands anywhere
unfoldable pub no_fold : List ℕ → Bool
no_fold [] = true
no_fold (a ∷ l) = cond (fold_here (a ∷ l)) false (no_fold l)

-- the second list is the first one with folds put in, anywhere
pub data Folded : List ℕ → List ℕ → Type 0 where
  done : Folded [] []
  octet : {w l : List ℕ} (a : ℕ) → Folded w l → Folded (a ∷ w) (a ∷ l)
  fold : {w l : List ℕ} (c : ℕ) → is_blank c ≡ true → Folded w l → Folded w (13 ∷ 10 ∷ c ∷ l)
