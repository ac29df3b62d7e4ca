-- Who is there, and whether a row at a side refuses. Assumes nothing.
use Prim.Native.Nat.{ℕ}
use mathlib.Core.Path.{◌≡◌, refl, sym, ap, ◌∙◌}
use mathlib.Core.Bool.{Bool, true, false, not, cond, ◌||◌}
use mathlib.Core.List.{List}
use Rattle.basics.specs.Tests.{all}
use Rattle.basics.proofs.Bools.{not_not}
use Rattle.assignment_tables.specs.declared.Shape.{Shape}
use Rattle.assignment_tables.specs.Tables.{edge_at}
use Rattle.path_blockers.specs.Seeking.{sides_allow}
use Rattle.path_blockers.proofs.SoughtLaws.{unseen, pair_right, pair_left, below_refuses, both_allow}
use Rattle.path_clearance.specs.Clearance.{stays}

-- ---- who is there

module _ (required : ℕ → Bool) (on : Bool) (o : ℕ) where
  pub there_on : on ≡ true → (b : Bool) → b ≡ required o → b ≡ stays required on o
  unfolding stays
  there_on t b e = rw t e

  pub there_off : on ≡ false → true ≡ stays required on o
  unfolding stays
  there_off f = rw f

-- ---- who refuses

module _ (x right : Bool) (e f : Bool) where
  pub absent : (b : Bool) → b ≡ x → not b ≡ true → false ≡ not (not x || cond right e f)
  absent b p t = ap not (unseen x right e f b p t)

  pub refused-right : (b : Bool) → b ≡ x → not b ≡ false → right ≡ true → (c : Bool) → c ≡ e → not c ≡ not (not x || cond right e f)
  refused-right b p t q c z = ap not (pair_right x right e f b p t q c z)

  pub refused-left : (b : Bool) → b ≡ x → not b ≡ false → right ≡ false → (c : Bool) → c ≡ f → not c ≡ not (not x || cond right e f)
  refused-left b p t q c z = ap not (pair_left x right e f b p t q c z)

-- an answer turned round
pub turned : (b x : Bool) → b ≡ not x → not b ≡ x
turned b x e = ap not e ∙ not_not x

module _ (S : Shape) (m : List ℕ) (seen : ℕ → Bool) (r : ℕ) (below above : List ℕ) (b : Bool) (e : b ≡ not (all (λ (o : ℕ). not (seen o) || edge_at S m o r) below)) where
  pub refused-below : b ≡ true → true ≡ not (sides_allow S m seen r below above)
  refused-below t = ap not (below_refuses S m seen r below above _ refl (sym e ∙ t))

  pub refused-above : b ≡ false → (d : Bool) → d ≡ not (all (λ (o : ℕ). not (seen o) || edge_at S m r o) above) → d ≡ not (sides_allow S m seen r below above)
  refused-above f d g = g ∙ ap not (both_allow S m seen r below above _ refl (sym e ∙ f) _ refl)
