-- What a clause says of an answer that is an option, once its case is known. Assumes nothing.
use mathlib.Core.Path.{◌≡◌, sym, subst}
use Rattle.std.specs.Prelude.{Option, None, MatchOption}

-- where there is none: P
pub none_so : {A : Type 0} {r : Option A} (P : Type 0) (Q : A → Type 0) → r ≡ None → P → MatchOption r P Q
none_so {A} P Q e p = subst (λ (o : Option A). MatchOption o P Q) (sym e) p
