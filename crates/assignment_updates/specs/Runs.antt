-- Runs of accepted refreshes. docs/RULES.md, 2.7.
use Rattle.std.specs.Prelude.{ℕ, ◌≡◌, List, ℤ, Ok}
use Rattle.assignment_tables.specs.declared.Shape.{Shape}
use Rattle.assignment_state.specs.Admission.{Ready}
use Rattle.assignment_updates.specs.Refresh.{refreshed}

-- the slices R and M are reached from admitted ones by refreshes that were all accepted
pub data Reached (S : Shape) (m k : List ℕ) (p : List ℤ) : List ℕ → List ℕ → Type 0 where
  begun : {R M : List ℕ} → Ready S m k p R M → Reached S m k p R M
  refreshed_by : {R M : List ℕ} (rs vs : List ℕ) → Reached S m k p R M → (refreshed S m k p R M rs vs).answer ≡ Ok tt
      → Reached S m k p (refreshed S m k p R M rs vs).records (refreshed S m k p R M rs vs).members
