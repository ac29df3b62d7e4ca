-- Which lists are given back. docs/RULES.md, 6.7, 8.4 and 9.5.
use Rattle.std.specs.Prelude.{cond, List, length, ltb, Option, None, Some}
use Rattle.basics.specs.Edits.{Edit}
use Rattle.rules.specs.Board.{Board}
use Rattle.rules.specs.Roster.{Roster}
use Rattle.rules.specs.FinalTest.{passes}

-- a list that passes the final test is a move
unfoldable pub passing : Board → Roster → List Edit → Option (List Edit)
passing B h L = cond (passes B h L) (Some L) None

-- 9.5: a list with an edit that passes the final test is a move
unfoldable pub move_in : Board → Roster → List Edit → Option (List Edit)
move_in B h L = cond (ltb (length L) 1) None (passing B h L)
