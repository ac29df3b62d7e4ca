-- What the listing program writes. docs/RULES.md, 12.4.
use Rattle.std.specs.Prelude.{ℕ, ◌+◌, List, [], ◌∷◌, ◌++◌}
use Rattle.basics.specs.Edits.{Edit}
use Rattle.decimals.specs.Decimals.{digits}
use Rattle.listing_format.specs.Format.{comma, line_end}

-- scalar_assignment_augmenting_rematch
unfoldable pub reason : List ℕ
reason =
    115 ∷ 99 ∷ 97 ∷ 108 ∷ 97 ∷ 114 ∷ 95 ∷ 97 ∷ 115 ∷ 115 ∷ 105 ∷ 103 ∷ 110 ∷ 109 ∷ 101 ∷ 110 ∷ 116 ∷ 95 ∷ 97 ∷ 117 ∷ 103 ∷ 109 ∷ 101 ∷ 110 ∷ 116 ∷ 105 ∷ 110 ∷ 103 ∷ 95 ∷ 114 ∷ 101 ∷ 109 ∷ 97 ∷ 116 ∷ 99 ∷ 104 ∷ []

-- reason,move,row,value
unfoldable pub output_header : List ℕ
output_header =
    114 ∷ 101 ∷ 97 ∷ 115 ∷ 111 ∷ 110 ∷ 44 ∷ 109 ∷ 111 ∷ 118 ∷ 101 ∷ 44 ∷ 114 ∷ 111 ∷ 119 ∷ 44 ∷ 118 ∷ 97 ∷ 108 ∷ 117 ∷ 101 ∷ []

-- refused,
unfoldable pub refused_word : List ℕ
refused_word = 114 ∷ 101 ∷ 102 ∷ 117 ∷ 115 ∷ 101 ∷ 100 ∷ 44 ∷ []

-- 12.4: an edit of the move with this number
unfoldable pub edit_line : ℕ → Edit → List ℕ
edit_line number e = reason ++ (comma ∷ (digits number ++ (comma ∷ (digits e.row ++ (comma ∷ (digits e.value ++ line_end))))))

-- 12.4: a record for each edit
unfoldable pub move_lines : ℕ → List Edit → List ℕ
move_lines number [] = []
move_lines number (e ∷ L) = edit_line number e ++ move_lines number L

-- 12.4: moves, the first of which has this number
unfoldable pub moves_from : ℕ → List (List Edit) → List ℕ
moves_from number [] = []
moves_from number (L ∷ moves) = move_lines number L ++ moves_from (number + 1) moves

-- 12.4: the whole output: the header, and the moves counted from 1
unfoldable pub listing_text : List (List Edit) → List ℕ
listing_text moves = output_header ++ line_end ++ moves_from 1 moves

-- 12.4: what a refusal writes instead
unfoldable pub refusal_text : ℕ → List ℕ
refusal_text number = refused_word ++ (digits number ++ line_end)
