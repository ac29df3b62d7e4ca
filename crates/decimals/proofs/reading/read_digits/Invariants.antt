-- `decimals::reading::read_digits` meets its contract. The loop's invariant: reading all comes to reading what is left behind the number so far. Assumes nothing.
use mathlib.Core.Path.{◌≡◌}
use lib.ListN.{drop}
use Rattle.decimals.specs.Reading.{read_on}
use Rattle.decimals.proofs.reading.read_digits.Given as goal

abbrev pub invariant-loop-byte : goal.invariant-loop-byte
invariant-loop-byte l = read_on 0 l.field ≡ read_on l.number (drop l.byte-index l.field)
