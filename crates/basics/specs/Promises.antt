-- What it means that a promise determines its result.
use Rattle.std.specs.Prelude.{◌≡◌}

-- at most one result meets the promise
abbrev pub OneAnswer : {A : Type 0} → (A → Type 0) → Type 0
OneAnswer {A} P = (r s : A) → P r → P s → r ≡ s

-- A function's contract as the checker reads it off the source, its `Reads.Post`, speaks of lifetimes, arguments, the result, and the parameters at exit. Such a contract
-- fixes what is seen of the last two if no two outcomes of one call that both meet it differ there
abbrev pub Fixes : {K : Type 0} {A R E X : K → Type 0} → ((κs : K) → A κs → R κs → E κs → Type 0) → ((κs : K) → R κs → E κs → X κs) → Type 0
Fixes {K} {A} {R} {E} Post seen =
    (κs : K) (a : A κs) (r s : R κs) (e f : E κs) → Post κs a r e → Post κs a s f → seen κs r e ≡ seen κs s f

-- it fixes the result
abbrev pub FixesAnswer : {K : Type 0} {A R E : K → Type 0} → ((κs : K) → A κs → R κs → E κs → Type 0) → Type 0
FixesAnswer {K} {A} {R} {E} Post = (κs : K) (a : A κs) (r s : R κs) (e f : E κs) → Post κs a r e → Post κs a s f → r ≡ s

-- two things that are seen
infixr 3 ◌&◌
abbrev pub ◌&◌ : {A B : Type 0} → A → B → A × B
x & y = (x, y)
