-- Bytes that begin with the header. Assumes nothing.
use Prim.Native.Nat.{ℕ}
use mathlib.Core.Path.{◌≡◌, sym, ap, ◌∙◌}
use mathlib.Core.Bool.{Bool, true, false}
use mathlib.Core.List.{List}
use Rattle.std.specs.Prelude.{None}
use Rattle.std.specs.Bool.{Decides}
use Rattle.std.specs.Cmp.Lexicographic.{pointwise}
use Rattle.std.proofs.lemmas.Bool.Decides.{Decides-eqb}
use Rattle.std.proofs.lemmas.Slice.Eq.{slice_eq-Decides}
use lib.Dec.{eqb}
use lib.ListN.{length, take, drop}
use Rattle.basics.proofs.Bools.{clash}
use Rattle.listing_format.specs.Format.{header}
use Rattle.listing_format.specs.Parsing.{after_line, after_header}
use Rattle.listing_format.proofs.ReadBack.{header_long, header_read, header_unread}

module _ (bytes : List ℕ) (b : Bool) (e : b ≡ pointwise eqb header (take (length header) bytes)) where
  decides : Decides b (header ≡ take 31 bytes)
  decides = slice_eq-Decides Decides-eqb header (take 31 bytes) b (e ∙ ap (λ (k : ℕ). pointwise eqb header (take k bytes)) header_long)

  pub header_there : b ≡ true → after_header bytes ≡ after_line (drop 31 bytes)
  header_there t = header_read bytes (sym (decides.0 t))

  pub header_not_there : b ≡ false → after_header bytes ≡ None
  header_not_there f = header_unread bytes (λ h. clash (decides.1 (sym h)) f)
