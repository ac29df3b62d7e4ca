-- `listing_reading::header::after_header` meets its contract: the text that is compared is the header. Assumes nothing.
use Prim.Native.Nat.{ℕ}
use mathlib.Core.Path.{sym, subst}
use mathlib.Core.List.{List}
use Rattle.std.specs.Prelude.{Option}
use Rattle.listing_format.specs.Format.{header}
use Rattle.listing_fields.specs.Places.{PlaceIs}
use Rattle.listing_reading.proofs.HeaderLaws.{header_there, header_not_there}
use Rattle.listing_reading.proofs.header.after_header.Goals as goal

pub returns-then-not-starts_with : goal.returns-then-not-starts_with
unfolding header
returns-then-not-starts_with c = header_not_there _ _ c.starts_with.ensures.value c.if-not-starts_with.true

pub returns : goal.returns
unfolding header
returns c = let e = header_there c.args.bytes.now _ c.starts_with.ensures.value c.if-not-starts_with.false in
    subst (λ (l : Option (List ℕ)). PlaceIs c.args.bytes.now l c.after_line.result) (sym e) c.after_line.ensures
