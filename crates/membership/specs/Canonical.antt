-- The membership that the tables of a roster give: flags say which rows are members, and hs and ls are their keys.
use Rattle.std.specs.Prelude.{ℕ, ◌+◌, ◌≤◌, ◌≡◌, Bool, not, ◌&&◌, ◌||◌, List, map, ltb, eqb, length, get_or}
use Rattle.basics.specs.Tests.{all_of_below}
use Rattle.basics.specs.Sorting.{sort}
use Rattle.membership.specs.Cells.{code_at, cells, has_key}

-- the three tables are of one length, at most 128
pub record Tables (flags hs ls : List ℕ) : Type 0 where
  pub small : length flags ≤ 128
  pub highs : length hs ≡ length flags
  pub lows : length ls ≡ length flags

-- the row r is a member: its flag is not the number that means absent
unfoldable pub is_member : ℕ → List ℕ → ℕ → Bool
is_member absent flags r = not (eqb (get_or flags r absent) absent)

-- the codes of the members among the rows below n, in order
unfoldable pub member_codes : ℕ → List ℕ → List ℕ → List ℕ → ℕ → List ℕ
member_codes absent flags hs ls n = sort ltb (map (code_at hs ls) (all_of_below n (is_member absent flags)))

-- their membership
unfoldable pub membership_of : ℕ → List ℕ → List ℕ → List ℕ → ℕ → List ℕ
membership_of absent flags hs ls n = cells n (member_codes absent flags hs ls n)

-- the row r is a member under the key (h, l)
abbrev pub is_under : ℕ → List ℕ → List ℕ → List ℕ → ℕ → ℕ → ℕ → Bool
is_under absent flags hs ls h l r = is_member absent flags r && has_key hs ls h l r

-- the members under the key (h, l), in the order of the rows
unfoldable pub key_rows : ℕ → List ℕ → List ℕ → List ℕ → ℕ → ℕ → ℕ → List ℕ
key_rows absent flags hs ls h l n = all_of_below n (is_under absent flags hs ls h l)

-- the entry at place k of m is a member, and it stands behind the entry before it
unfoldable pub entry_fits : ℕ → List ℕ → List ℕ → List ℕ → List ℕ → ℕ → Bool
entry_fits absent flags hs ls m k =
    is_member absent flags (get_or m (k + 1) 0)
    && (eqb k 0 || is_member absent flags (get_or m k 0) && ltb (code_at hs ls (get_or m k 0)) (code_at hs ls (get_or m (k + 1) 0)))
