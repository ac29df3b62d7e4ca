-- A question's line, read part by part. Assumes nothing.
use Prim.Native.Nat.{ℕ}
use mathlib.Core.Path.{◌≡◌}
use mathlib.Core.List.{List}
use lib.ListN.{get_or}
use Rattle.vector_words.specs.declared.Part.{Part}
use Rattle.vector_words.specs.Words.{ahead, counted}
use Rattle.vector_answers.specs.declared.Question.{Question}
use Rattle.vector_answers.specs.Questions.{read_question}

-- the parts of a question, each behind the one before
pub question_read : (line : List ℕ) (numbers first second told front last : Part) (entry behind : ℕ)
    → numbers ≡ counted line 1 → first ≡ counted line numbers.to → second ≡ counted line first.to → behind ≡ ahead second.to 4
    → told ≡ counted line behind → front ≡ counted line told.to → last ≡ counted line front.to → entry ≡ get_or line 0 0
    → ◌≡◌ {A = Question} (record { entry = entry; numbers = numbers; first_list = first; second_list = second; rooms = second.to; told = told; first_front = front; second_front = last; index = last.to }) (read_question line)
unfolding read_question
question_read line numbers first second told front last entry behind n f s b t g l e = rw (l, g, t, b, s, f, n, e)
