-- What is given back, a list or none, in the fronts of two outputs, and the room that it needs. docs/RULES.md, 11.13.
use Rattle.std.specs.Prelude.{ℕ, ◌≤◌, ◌≡◌, List, length, Option, None, Some}
use Rattle.basics.specs.Edits.{Edit, rows_of, values_of}
use Rattle.outputs.specs.Outputs.{fronted}

-- each output has room for so many
pub record Roomy (n : ℕ) (O U : List ℕ) : Type 0 where
  pub rows : n ≤ length O
  pub values : n ≤ length U

-- a list leaves its number of edits, its rows and its values in front of the outputs; where there is none they are as they were

abbrev pub edit_count : Option (List Edit) → ℕ
edit_count None = 0
edit_count (Some L) = length L

abbrev pub rows_left : Option (List Edit) → List ℕ → List ℕ
rows_left None O = O
rows_left (Some L) O = fronted (rows_of L) O

abbrev pub values_left : Option (List Edit) → List ℕ → List ℕ
values_left None O = O
values_left (Some L) O = fronted (values_of L) O

pub record GivenBack (m : Option (List Edit)) (O U O' U' : List ℕ) (n : ℕ) : Type 0 where
  pub number : n ≡ edit_count m
  pub rows : O' ≡ rows_left m O
  pub values : U' ≡ values_left m U
