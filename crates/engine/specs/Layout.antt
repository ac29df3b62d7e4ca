-- The number of the layout in which tables, index, edits and cursor are lent. Raised with every change of it. docs/RULES.md, 1.11.
use Rattle.std.specs.Prelude.{ℕ}

abbrev pub layout_number : ℕ
layout_number = 1
