-- Runs that mix accepted refreshes and applications, whatever these answer. docs/RULES.md, 2.7 and 3.11.
use Rattle.std.specs.Prelude.{ℕ, ◌≡◌, List, ℤ, Ok}
use Rattle.assignment_tables.specs.declared.Shape.{Shape}
use Rattle.assignment_state.specs.Admission.{Ready}
use Rattle.assignment_updates.specs.Refresh.{refreshed}
use Rattle.applied_lists.specs.Applying.{applying}

-- the slices R and M are kept from admitted ones on
pub data Kept (S : Shape) (m k : List ℕ) (p : List ℤ) : List ℕ → List ℕ → Type 0 where
  loaded : {R M : List ℕ} → Ready S m k p R M → Kept S m k p R M
  by_refresh : {R M : List ℕ} (rs vs : List ℕ) → Kept S m k p R M → (refreshed S m k p R M rs vs).answer ≡ Ok tt
      → Kept S m k p (refreshed S m k p R M rs vs).records (refreshed S m k p R M rs vs).members
  by_applying : {R M : List ℕ} (rs vs : List ℕ) → Kept S m k p R M
      → Kept S m k p (applying S m k p R M rs vs).records (applying S m k p R M rs vs).members
