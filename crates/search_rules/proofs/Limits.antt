-- A search depends on its limit by what rows offer under it alone. Assumes nothing.
use Prim.Native.Nat.{ℕ, zero, suc, ◌+◌}
use mathlib.Core.Path.{◌≡◌, refl, ap, fun_ext, ◌∙◌}
use mathlib.Core.Bool.{Bool}
use mathlib.Core.List.{List, [], ◌∷◌}
use Rattle.std.specs.Prelude.{Option, None, Some}
use Rattle.basics.specs.Edits.{Edit}
use Rattle.rules.specs.Board.{Board, limited}
use Rattle.rules.specs.Roster.{Roster, after}
use Rattle.search_rules.specs.Blockers.{first_required}
use Rattle.search_rules.specs.Search.{Terms, Reply, enter, closed, walk, make_way, descend, within, try_row}

module _ (B : Board) (h : Roster) (displace : Bool) (budget : ℕ) (l l' : Option ℕ) (same : (b : ℕ) → limited l (B.candidates b) ≡ limited l' (B.candidates b)) where
  abbrev q : Terms
  q = record { displace = displace; limit = l; budget = budget }

  abbrev q' : Terms
  q' = record { displace = displace; limit = l'; budget = budget }

  walk_same : (held : ℕ) (try : ℕ → ℕ → Reply) (xs : List ℕ) → walk q held try xs ≡ walk q' held try xs
  unfolding walk
  walk_same held try [] = fun_ext (λ n. refl)
  walk_same held try (a ∷ more) = fun_ext (λ n. rw (walk_same held try more) refl)

  way_same : (try : ℕ → ℕ → List Edit → ℕ → Reply) (r v n : ℕ) (L : List Edit) (o : Option ℕ) → make_way B h q try r v n L o ≡ make_way B h q' try r v n L o
  unfolding make_way
  way_same try r v n L None = refl
  way_same try r v n L (Some b) =
      ap (λ (f : List ℕ → ℕ → Reply). f (limited l (B.candidates b)) n) (fun_ext (walk_same (after h L b) (λ (a m : ℕ). closed B h r v (try b a L m))))
      ∙ ap (λ (xs : List ℕ). walk q' (after h L b) (λ (a m : ℕ). closed B h r v (try b a L m)) xs n) (same b)

  descend-same : (try : ℕ → ℕ → List Edit → ℕ → Reply) (visiting : ℕ → Bool) (r v n : ℕ) → descend B h q try visiting r v n ≡ descend B h q' try visiting r v n
  unfolding descend
  descend-same try visiting r v n = fun_ext (λ L. rw (way_same try r v n L (first_required B (after h L) r v)) refl)

  pub try_same : (d : ℕ) (visiting : ℕ → Bool) → try_row B h q d visiting ≡ try_row B h q' d visiting
  unfolding try_row enter
  try_same zero visiting = fun_ext (λ r. fun_ext (λ v. fun_ext (λ L. fun_ext (λ n. refl))))
  try_same (suc d) visiting =
      fun_ext (λ r. fun_ext (λ v. fun_ext (λ L. fun_ext (λ n. rw (try_same d (within r visiting), descend-same (try_row B h q' d (within r visiting)) visiting r v (n + 1)) refl))))
