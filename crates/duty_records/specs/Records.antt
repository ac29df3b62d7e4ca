-- Duties as lines of text: what the program that reads a calendar writes. docs/RULES.md, 13.10.
use Rattle.std.specs.Prelude.{ℕ, List, [], ◌∷◌, ◌++◌}
use Rattle.decimals.specs.Decimals.{digits}
use Rattle.listing_format.specs.Format.{comma, line_end}
use Rattle.calendar_format.specs.Format.{Duty}

-- row,day
unfoldable pub duty_header : List ℕ
duty_header = 114 ∷ 111 ∷ 119 ∷ 44 ∷ 100 ∷ 97 ∷ 121 ∷ []

unfoldable pub duty_line : Duty → List ℕ
duty_line x = digits x.row ++ (comma ∷ (digits x.day ++ line_end))

unfoldable pub duty_lines : List Duty → List ℕ
duty_lines [] = []
duty_lines (x ∷ D) = duty_line x ++ duty_lines D

-- the header, and a line for each duty
unfoldable pub duties_text : List Duty → List ℕ
duties_text D = (duty_header ++ line_end) ++ duty_lines D
