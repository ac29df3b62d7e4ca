-- What was written lies within the output. Assumes nothing.
use Prim.Native.Nat.{ℕ, ◌≤◌}
use mathlib.Core.Path.{◌≡◌, subst}
use mathlib.Core.Bool.{Bool}
use mathlib.Core.List.{List}
use lib.ListN.{length}
use Rattle.std.specs.Prelude.{Ok}
use Rattle.refusals.specs.Refusals.{Answered}
use Rattle.listing.specs.FileListing.{ListingIs}
use Rattle.listing.proofs.Suffices.{written-within}

-- what the listing's answer counts is there
pub all-written : (input O : List ℕ) (b : Bool) (O' : List ℕ) (r : Answered ℕ) (n : ℕ) → ListingIs input O b O' r → r ≡ Ok n → n ≤ length O'
all-written input O b O' r n h e = written-within input O b O' n (subst (ListingIs input O b O') e h)
