-- Records in cells, seven for each. docs/RULES.md, 12.2.
use Rattle.std.specs.Prelude.{ℕ, ◌+◌, ◌*◌, ◌≤◌, ◌≡◌, cond, List, [], ◌∷◌, ◌++◌, eqb, length, get_or, Option, None, Some, unwrap_or, MatchOption}
use Rattle.outputs.specs.Outputs.{fronted}
use Rattle.listing_format.specs.Format.{Record, Accepted}

-- whether a key is there
abbrev pub flag : Option ℕ → ℕ
flag None = 0
flag (Some n) = 1

-- a record's seven cells
abbrev pub cells_of : Record → List ℕ
cells_of r = r.row ∷ r.value ∷ r.now ∷ flag r.capacity ∷ unwrap_or r.capacity 0 ∷ flag r.sequence ∷ unwrap_or r.sequence 0 ∷ []

-- the cells of records, one after another
unfoldable pub written : List Record → List ℕ
written [] = []
written (r ∷ rs) = cells_of r ++ written rs

-- a key that two cells say
abbrev pub key_in : ℕ → ℕ → Option ℕ
key_in given number = cond (eqb given 0) None (Some number)

-- the record in the cells of a place
abbrev pub record_in : List ℕ → ℕ → Record
record_in cells i = record {
  row = get_or cells (i * 7) 0;
  value = get_or cells (i * 7 + 1) 0;
  now = get_or cells (i * 7 + 2) 0;
  capacity = key_in (get_or cells (i * 7 + 3) 0) (get_or cells (i * 7 + 4) 0);
  sequence = key_in (get_or cells (i * 7 + 5) 0) (get_or cells (i * 7 + 6) 0);
}

-- the input is short enough, and there are cells for all that it can hold
pub record Ready (bytes cells : List ℕ) : Type 0 where
  pub short : length bytes ≤ 65536
  pub room : 51100 ≤ length cells

-- records were read, and stand in front of the cells; every cell behind is as it was
pub record Held (read : Option (List Record)) (before after : List ℕ) (count : ℕ) : Type 0 where
  pub list : List Record
  pub number : count ≡ length list
  pub few : count ≤ 7300
  pub is : read ≡ Some list
  pub cells : after ≡ fronted (written list) before

abbrev pub RecordsAre : Option (List Record) → List ℕ → List ℕ → Option ℕ → Type 0
RecordsAre read before after count = MatchOption count (read ≡ None) (λ (n : ℕ). Held read before after n)

-- 12.1, 12.2: the input is the file of the records that stand in front of the cells; or it is the file of none
pub record Roster (bytes before after : List ℕ) (count : ℕ) : Type 0 where
  pub list : List Record
  pub number : count ≡ length list
  pub accepted : Accepted bytes list
  pub cells : after ≡ fronted (written list) before

abbrev pub RosterIs : List ℕ → List ℕ → List ℕ → Option ℕ → Type 0
RosterIs bytes before after count = MatchOption count ((rs : List Record) → Accepted bytes rs → ⊥) (λ (n : ℕ). Roster bytes before after n)
