-- What a C caller hands in as numbers. docs/RULES.md, 1.
use Rattle.std.specs.Prelude.{ℕ}
use Rattle.assignment_tables.specs.declared.Shape.{Shape}

-- the shape, from three numbers
abbrev pub shaped : ℕ → ℕ → ℕ → Shape
shaped rows values rule = record { rows = rows; values = values; edge_rule = rule }
