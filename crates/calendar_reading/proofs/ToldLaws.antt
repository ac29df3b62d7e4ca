-- Whether an octet is left, as a test. Assumes nothing.
use mathlib.Core.Path.{◌≡◌, refl}
use mathlib.Core.Bool.{Bool, true, false, not}
use mathlib.Core.List.{List}
use Prim.Native.Nat.{ℕ}
use Rattle.std.specs.Prelude.{Option, None, Some, is_some}
use Rattle.basics.proofs.Bools.{clash}
use Rattle.calendar_reading.specs.declared.octets.Octet.{Octet}
use Rattle.calendar_reading.specs.Places.{OctetIs, nothing}

pub none_there : (bytes l : List ℕ) (r : Option Octet) → OctetIs bytes l r → (b : Bool) → is_some r ≡ not b → b ≡ nothing l
unfolding nothing
none_there bytes l None p true e = rw p
none_there bytes l None p false e = absurd (clash e refl)
none_there bytes l (Some o) p true e = absurd (clash refl e)
none_there bytes l (Some o) p false e = rw p.1
