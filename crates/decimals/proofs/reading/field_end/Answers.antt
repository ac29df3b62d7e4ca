-- `decimals::reading::field_end` meets its contract. Assumes nothing.
use Prim.Native.Nat.{ℕ, ◌+◌, ◌-◌}
use mathlib.Core.Path.{◌≡◌, ap, ◌∙◌}
use mathlib.Core.List.{List}
use native.Mathlib.Omega.{arith}
use lib.ListN.{length, drop, take, length-drop}
use lib.Seq.{take_all}
use Rattle.std.specs.Prelude.{unwrap_or}
use Rattle.std.specs.List.{position}
use Rattle.decimals.specs.Fields.{ends, front}
use Rattle.decimals.proofs.FieldLaws.{field_long}
use Rattle.decimals.proofs.reading.field_end.Goals as goal

pub returns : goal.returns
returns c =
    let l = drop c.args.from c.args.bytes.now in
    let m = take (length c.args.bytes.now - c.args.from) l in
    let whole : m ≡ l = take_all _ l (omega (arith, length-drop c.args.from c.args.bytes.now)) in
    let long : c.unwrap_or.result ≡ unwrap_or (position ends m) (length m) = c.unwrap_or.ensures ∙ ap (λ o. unwrap_or o (length m)) c.first_end.ensures in
    ap (λ (n : ℕ). c.args.from + n) (long ∙ field_long m ∙ ap (λ (xs : List ℕ). length (front xs)) whole)
