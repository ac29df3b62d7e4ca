-- A question's line.
use Rattle.std.specs.Prelude.{ℕ, List, get_or, min}
use Rattle.vector_answers.specs.declared.Question.{Question}
use Rattle.vector_words.specs.Words.{ahead, part_of, counted}

-- the parts one behind the other
unfoldable pub read_question : List ℕ → Question
read_question line =
    let numbers = counted line 1 in
    let first_list = counted line numbers.to in
    let second_list = counted line first_list.to in
    let told = counted line (ahead second_list.to 4) in
    let first_front = counted line told.to in
    let second_front = counted line first_front.to in
    record { entry = get_or line 0 0; numbers = numbers; first_list = first_list; second_list = second_list; rooms = second_list.to; told = told; first_front = first_front; second_front = second_front; index = second_front.to }

-- a number that the entry is handed
unfoldable pub number_of : List ℕ → Question → ℕ → ℕ
number_of line question at = get_or (part_of line question.numbers) at 0

-- how many cells of an output are lent
unfoldable pub first_room : List ℕ → Question → ℕ
first_room line question = min (get_or line question.rooms 0) 140

unfoldable pub second_room : List ℕ → Question → ℕ
second_room line question = min (get_or line (ahead question.rooms 1) 0) 140

unfoldable pub code_of : List ℕ → Question → ℕ
code_of line question = get_or line (ahead question.rooms 2) 0

unfoldable pub flag_of : List ℕ → Question → ℕ
flag_of line question = get_or line (ahead question.rooms 3) 0
