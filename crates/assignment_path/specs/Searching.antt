-- What the entries of the search answer and leave in their outputs, for every input. docs/RULES.md, 6, 7 and 11.
use Rattle.std.specs.Prelude.{ℕ, ◌≡◌, Bool, true, ◌&&◌, List, length, leb, ℤ, Option, None, Some, Ok, Err}
use Rattle.refusals.specs.Refusals.{Checked, Answered}
use Rattle.refusals.specs.declared.Refusal.{Refusal}
use Rattle.refusals.specs.Answers.{then_unless, then_room, unless_refused}
use Rattle.basics.specs.Edits.{Edit, rows_of, values_of}
use Rattle.refusals.specs.declared.Refusal.TheVariants as refusal
use Rattle.outputs.specs.Outputs.{fronted}
use Rattle.assignment_tables.specs.declared.Shape.{Shape}
use Rattle.assignment_tables.specs.Tables.{board}
use Rattle.assignment_index.specs.Index.{roster_in}
use Rattle.assignment_state.specs.Admission.{admission}
use Rattle.search_rules.specs.Search.{Request, Reply, search}
use Rattle.path_entry.specs.declared.Trail.{Trail}
use Rattle.search_codes.specs.declared.Search.{Search}
use Rattle.search_codes.specs.declared.Search.TheVariants as answer
use Rattle.path_entry.specs.Trails.{terms, reply_in, Between}

-- a request, as the code has it
abbrev pub request : ℕ → ℕ → ℕ → Bool → Option ℕ → ℕ → Request
request row value depth displace limit budget = record { row = row; value = value; depth = depth; terms = terms displace limit budget }

-- the trail of a search is the reply, and its list stands in the slices
pub record Discovered (a : Reply) (rs vs : List ℕ) (t : Trail) : Type 0 where
  pub reply : reply_in t rs vs ≡ a
  pub between : Between 0 137 t
  pub rows_long : length rs ≡ 137
  pub values_long : length vs ≡ 137

-- an answer, and what stands in the outputs then
pub record Searched : Type 0 where
  pub answer : Answered Search
  pub rows : List ℕ
  pub values : List ℕ

abbrev pub leaves : Answered Search → List ℕ → List ℕ → Searched
leaves a O W = record { answer = a; rows = O; values = W }

-- 11.13: a move fills the front of the outputs, and no move leaves them as they were
unfoldable pub moving : ℕ → Option (List Edit) → List ℕ → List ℕ → Searched
moving n None O W = leaves (Ok (answer.NoMove n)) O W
moving n (Some L) O W = leaves (Ok (answer.Move (length L) n)) (fronted (rows_of L) O) (fronted (values_of L) W)

-- 6.7: a search's reply is answered by its move
abbrev pub replying : Reply → List ℕ → List ℕ → Searched
replying a O W = moving a.asks a.found O W

-- 11.7, 11.9, 11.11: the first of the refusals 1, 2, 3, 6, 8 and 7, if there is one
unfoldable pub search_refusal : Shape → List ℕ → List ℕ → List ℤ → List ℕ → List ℕ → ℕ → List ℕ → List ℕ → Checked
search_refusal S m k p R M depth O W =
    then_room (then_unless refusal.Depth (admission S m k p R M true) (leb depth 8)) (leb S.rows (length O) && leb S.rows (length W))

unfoldable pub answering : Reply → List ℕ → List ℕ → Checked → Searched
answering a O W = unless_refused (λ (r : Refusal). leaves (Err r) O W) (replying a O W)

-- 6: the search as an entry
unfoldable pub searching : Shape → List ℕ → List ℕ → List ℤ → List ℕ → List ℕ → ℕ → ℕ → ℕ → Bool → Option ℕ → ℕ → List ℕ → List ℕ → Searched
searching S m k p R M row value depth displace limit budget O W =
    answering (search (board S m k) (roster_in S.rows R) (request row value depth displace limit budget)) O W (search_refusal S m k p R M depth O W)
