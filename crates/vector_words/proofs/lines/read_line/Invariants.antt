-- `vector_words::lines::read_line` meets its contract. The loop's invariant: reading all comes to reading from here on. Assumes nothing.
use mathlib.Core.Path.{◌≡◌}
use Rattle.vector_words.specs.Lines.{read_words, read_line}
use Prim.Native.Nat.{◌-◌}
use Rattle.vector_words.proofs.lines.read_line.Given as goal

abbrev pub invariant-loop-n : goal.invariant-loop-n
invariant-loop-n l = read_line l.text l.from l.initial.words ≡ read_words l.text (32768 - l.n) l.at l.n l.words
