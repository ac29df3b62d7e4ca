-- `calendar_reading::octets::after_text` meets its contract. The loop's invariant: what is left of the text is looked for at the place. Assumes nothing.
use Prim.Native.Nat.{◌≤◌}
use mathlib.Core.Path.{◌≡◌}
use lib.ListN.{length, drop}
use Rattle.calendar_format.specs.Texts.{after}
use Rattle.calendar_reading.specs.Places.{from}
use Rattle.calendar_reading.proofs.octets.after_text.Given as goal

abbrev pub invariant-loop-sought : goal.invariant-loop-sought
invariant-loop-sought l = (l.place ≤ length l.bytes) × (after l.text (from l.bytes l.at) ≡ after (drop l.sought-index l.text) (from l.bytes l.place))
