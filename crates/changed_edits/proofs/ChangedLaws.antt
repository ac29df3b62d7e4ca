-- What is kept of a list: edits of it alone, and each changes its row. Assumes nothing.
use mathlib.Core.Path.{◌≡◌, refl, sym, ap, subst, ◌∙◌}
use mathlib.Core.Logic.{⊎_elim}
use mathlib.Core.Bool.{true, false}
use mathlib.Core.List.Memᴰ.{cases_cons}
use mathlib.Core.List.Memᴰ.{head as here}
use mathlib.Core.List.Memᴰ.{not-nil}
use mathlib.Core.List.Memᴰ.{tail as there}
use mathlib.Core.List.{List, [], ◌∷◌}
use lib.Dec.{eqb}
use borrow.Author.Tests.{eqb-false}
use Rattle.basics.specs.Edits.{Edit}
use Rattle.basics.proofs.Bools.{either}
use Rattle.basics.proofs.Lists.{◌∈◌}
use Rattle.rules.specs.Roster.{Roster}
use Rattle.changed_edits.specs.Changed.{changed}

module _ (h : Roster) where
  changed_none : changed h [] ≡ []
  unfolding changed
  changed_none = refl

  changed_drops : (x : Edit) (L : List Edit) → eqb x.value (h x.row) ≡ true → changed h (x ∷ L) ≡ changed h L
  unfolding changed
  changed_drops x L t = rw t

  changed_keeps : (x : Edit) (L : List Edit) → eqb x.value (h x.row) ≡ false → changed h (x ∷ L) ≡ x ∷ changed h L
  unfolding changed
  changed_keeps x L f = rw f

  pub changed-from : (L : List Edit) (e : Edit) → e ∈ changed h L → (e ∈ L) × (e.value ≡ h e.row → ⊥)
  changed-from [] e m = absurd (not-nil (subst (λ (l : List Edit). e ∈ l) changed_none m))
  changed-from (x ∷ L) e m =
      either (eqb x.value (h x.row))
      (λ t. let r = changed-from L e (subst (λ (l : List Edit). e ∈ l) (changed_drops x L t) m) in (there r.0, r.1))
      (λ f.
      ⊎_elim
      (λ q. (here q, λ g. eqb-false x.value (h x.row) f (ap (λ (y : Edit). y.value) (sym q) ∙ g ∙ ap (λ (y : Edit). h y.row) q)))
      (λ n. let r = changed-from L e n in (there r.0, r.1))
      (cases_cons (subst (λ (l : List Edit). e ∈ l) (changed_keeps x L f) m)))
