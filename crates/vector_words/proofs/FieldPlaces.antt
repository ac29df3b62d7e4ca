-- A field ends within the bytes that it stands in. Assumes nothing.
use Prim.Native.Nat.{ℕ, ◌+◌, ◌-◌, ◌≤◌}
use mathlib.Core.Path.{◌≡◌}
use mathlib.Core.List.{List}
use native.Mathlib.Omega.{arith}
use lib.ListN.{length, drop, length-drop}
use Rattle.decimals.specs.Fields.{front}
use Rattle.decimals.proofs.FieldLaws.{front_short}

pub field_within : (bytes : List ℕ) (from end : ℕ) → from ≤ length bytes → end ≡ from + length (front (drop from bytes)) → end ≤ length bytes
field_within bytes from end h e =
    let short : length (front (drop from bytes)) ≤ length (drop from bytes) = front_short (drop from bytes) in
    let rest : length (drop from bytes) ≡ length bytes - from = length-drop from bytes in
    omega (arith, short, rest)
