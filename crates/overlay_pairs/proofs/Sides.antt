-- A test of a number where there is one. Assumes nothing.
use Prim.Native.Nat.{ℕ, ◌<◌, ◌^◌}
use mathlib.Core.Path.{◌≡◌, refl, sym, ap, ◌∙◌}
use mathlib.Core.Logic.{◌↔◌}
use mathlib.Core.Bool.{Bool, true, false, cond, ◌&&◌}
use mathlib.Core.List.{List}
use Rattle.std.specs.Prelude.{Option, None, Some}
use Rattle.std.proofs.lemmas.Option.{none-some, same_Some}
use lib.ListN.{get_or}
use Rattle.assignment_tables.specs.declared.Shape.{Shape}
use Rattle.assignment_tables.specs.Cells.{cell_flag, cell_key}
use Rattle.assignment_tables.specs.Tables.{sequence_at}
use Rattle.overlay_pairs.specs.Pairs.{if_any}

-- ---- where there is a number

pub any_iff : (o : Option ℕ) (q : ℕ → Bool) → if_any o q ≡ true ↔ ((s : ℕ) → o ≡ Some s → q s ≡ true)
unfolding if_any
any_iff None q = (λ t s e. absurd (none-some s e), λ f. refl)
any_iff (Some n) q = (λ t s e. ap q (sym (same_Some n s e)) ∙ t, λ f. f n refl)

pub any_same : (o x : Option ℕ) (q : ℕ → Bool) (b : Bool) → b ≡ if_any x q → x ≡ o → b ≡ if_any o q
any_same o x q b f e = rw e at f

module _ (o : Option ℕ) (q : ℕ → Bool) (x : Option ℕ) (e : x ≡ o) where
  pub any_at : (n : ℕ) → x ≡ Some n → (b : Bool) → b ≡ q n → b ≡ if_any o q
  unfolding if_any
  any_at n f b g = found o (sym e ∙ f)
    where
      found : (o : Option ℕ) → o ≡ Some n → b ≡ if_any o q
      found None z = cc
      found (Some m) z = cc

  pub any_none : x ≡ None → true ≡ if_any o q
  unfolding if_any
  any_none f = lost o (sym e ∙ f)
    where
      lost : (o : Option ℕ) → o ≡ None → true ≡ if_any o q
      lost None z = refl
      lost (Some m) z = cc

  -- and then another test
  pub any_and_at : (y : Bool) (n : ℕ) → x ≡ Some n → (b : Bool) → b ≡ q n && y → b ≡ if_any o q && y
  any_and_at y n f b g = g ∙ ap (λ (z : Bool). z && y) (any_at n f (q n) refl)

  pub any_and_none : (y : Bool) → x ≡ None → (b : Bool) → b ≡ y → b ≡ if_any o q && y
  any_and_none y f b g = g ∙ ap (λ (z : Bool). z && y) (any_none f)

-- ---- sequences are cells of the keys

pub small-sequences : (S : Shape) (m k : List ℕ) → ((i : ℕ) → get_or k i 0 < 2 ^ 64) → (r v s : ℕ) → sequence_at S m k r v ≡ Some s → s < 2 ^ 64
unfolding cell_key
small-sequences S m k f r v s = go (cell_flag _ _ _ m r v) _
  where
    go : (b : Bool) (i : ℕ) → cond b (Some (get_or k i 0)) None ≡ Some s → s < 2 ^ 64
    go true i e = rw (← same_Some _ _ e) (f i)
    go false i e = absurd (none-some s e)
