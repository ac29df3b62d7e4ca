-- What is remembered stays allowed. Assumes nothing.
use Prim.Native.Nat.{ℕ, ◌<◌}
use mathlib.Core.Path.{◌≡◌, sym, ◌∙◌}
use mathlib.Core.Logic.{⊎_elim}
use mathlib.Core.Bool.{Bool, true, false, not, ◌&&◌}
use mathlib.Core.List.{List}
use lib.Dec.{eqb}
use lib.ListN.{length}
use borrow.Author.Tests.{eqb-true, not-false}
use Rattle.basics.proofs.Bools.{clash, and_left, and_right, or_cases}
use Rattle.assignment_tables.specs.declared.Shape.{Shape}
use Rattle.assignment_tables.specs.Tables.{edge_at}
use Rattle.judged_pairs.specs.Judged.{is_judged, none_judged, judged_with}
use Rattle.judged_pairs.proofs.Pairs.{none_judged_lem, judged_with_lem}
use Rattle.overlay_pairs.specs.Pairs.{Recalled}

pub recalled_none : (S : Shape) (m J : List ℕ) → J ≡ none_judged → Recalled S m J
recalled_none S m J e = rw e (record { right = λ n l r hl hr t. absurd (clash t (none_judged_lem l r)) })

-- a memory of another length
pub recalled_short : (S : Shape) (m J : List ℕ) → (length J ≡ 256 → ⊥) → Recalled S m J
recalled_short S m J d = record { right = λ n. absurd (d n) }

module _ (S : Shape) (m J : List ℕ) (w : Recalled S m J) (long : length J ≡ 256) (l r : ℕ) (hl : l < 128) (hr : r < 128) (b : Bool) (e : b ≡ is_judged J l r) where
  pub recalled_pair : b ≡ true → true ≡ edge_at S m l r
  recalled_pair t = sym (w.right long l r hl hr (sym e ∙ t))

  pub recalled_more : b ≡ false → (d : Bool) → d ≡ edge_at S m l r → not d ≡ false → (K : List ℕ) → K ≡ judged_with J l r → Recalled S m K
  recalled_more f d j t K q =
      rw q (record {
        right = λ n x y hx hy z. ⊎_elim
            (λ s. let a = eqb-true x l (and_left (eqb x l) _ s) in
            let c = eqb-true y r (and_right (eqb x l) _ s) in
            rw (a, c) (sym j ∙ not-false d t))
            (w.right long x y hx hy)
            (or_cases (eqb x l && eqb y r) _ (sym (judged_with_lem J l r x y long hl hr hy (sym e ∙ f)) ∙ z));
      })
