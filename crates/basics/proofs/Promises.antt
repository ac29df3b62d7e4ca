-- Promises that determine their result: what the theorems of every `Determined` cite. Assumes nothing.
use mathlib.Core.Path.{◌≡◌, sym, ap, ◌∙◌}
use Rattle.basics.specs.Promises.{◌&◌}

-- two that are one thing are alike
pub alike : {A : Type 0} {x r s : A} → r ≡ x → s ≡ x → r ≡ s
alike p q = p ∙ sym q

-- so are two that are made in one way of things that are alike
pub alike_by : {A B : Type 0} (g : A → B) {x y : A} {u v : B} → x ≡ y → u ≡ g x → v ≡ g y → u ≡ v
alike_by g e p q = p ∙ ap g e ∙ sym q

pub both : {A B : Type 0} {x y : A} {u v : B} → x ≡ y → u ≡ v → (x & u) ≡ (y & v)
both p q = λ i. (p i, q i)
