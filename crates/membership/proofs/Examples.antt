-- What the definitions say of a few small tables, by computation. Assumes nothing.
use mathlib.Core.Path.{◌≡◌, refl}
use mathlib.Core.List.{[], ◌∷◌}
use Rattle.basics.specs.Tests.{all_of_below}
use Rattle.basics.specs.Sorting.{insert_sorted, sort}
use Rattle.sorted_cells.specs.Codes.{key, row_of}
use Rattle.membership.specs.Cells.{cells, rows_under}
use Rattle.membership.specs.Canonical.{is_member, member_codes, membership_of, key_rows}

-- the rows 0, 2 and 3 are members, by the keys 5, 2 and 5
pub by_one_part : membership_of 0 (1 ∷ 0 ∷ 1 ∷ 1 ∷ []) (5 ∷ 9 ∷ 2 ∷ 5 ∷ []) (5 ∷ 9 ∷ 2 ∷ 5 ∷ []) 4 ≡ 3 ∷ 2 ∷ 0 ∷ 3 ∷ 0 ∷ []
unfolding membership_of member_codes is_member cells row_of key sort insert_sorted all_of_below
by_one_part = refl

-- all rows are members, by a key of two parts
pub by_two_parts : membership_of 9 (1 ∷ 1 ∷ 0 ∷ 1 ∷ []) (1 ∷ 1 ∷ 0 ∷ 1 ∷ []) (7 ∷ 6 ∷ 8 ∷ 6 ∷ []) 4 ≡ 4 ∷ 2 ∷ 1 ∷ 3 ∷ 0 ∷ []
unfolding membership_of member_codes is_member cells row_of key sort insert_sorted all_of_below
by_two_parts = refl

-- the members under the key 5, and what a lookup in the slice of the first example picks
pub under_five : key_rows 0 (1 ∷ 0 ∷ 1 ∷ 1 ∷ []) (5 ∷ 5 ∷ 2 ∷ 5 ∷ []) (5 ∷ 5 ∷ 2 ∷ 5 ∷ []) 5 5 4 ≡ 0 ∷ 3 ∷ []
unfolding key_rows is_member all_of_below
under_five = refl

pub picked : rows_under (5 ∷ 9 ∷ 2 ∷ 5 ∷ []) (5 ∷ 9 ∷ 2 ∷ 5 ∷ []) 5 5 (2 ∷ 0 ∷ 3 ∷ []) ≡ 0 ∷ 3 ∷ []
unfolding rows_under
picked = refl
