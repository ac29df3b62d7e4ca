-- An edit list lent as records of a row and a value: its two lists, and how they are gathered. docs/RULES.md, 3.10.
use Rattle.std.specs.Prelude.{ℕ, ◌+◌, cond, List, [], ◌∷◌, map, set, replicate, ltb}
use Rattle.edit_records.specs.declared.Edit.{Edit}
use Rattle.edit_records.specs.declared.Gathered.{Gathered}

-- 3.10: the rows of the records, and the value beside each
abbrev pub rows_in : List Edit → List ℕ
rows_in es = map (λ (e : Edit). e.row) es

abbrev pub values_in : List Edit → List ℕ
values_in es = map (λ (e : Edit). e.value) es

-- ---- how they are gathered: 129 records at most

unfoldable pub none_gathered : Gathered
none_gathered = record { rows = replicate 129 0; values = replicate 129 0; count = 0 }

-- the record at the next place of both lists
abbrev pub placed : Gathered → Edit → Gathered
placed g e = record {
  rows = set g.rows g.count e.row;
  values = set g.values g.count e.value;
  count = g.count + 1;
}

unfoldable pub one_more : Gathered → Edit → Gathered
one_more g e = cond (ltb g.count 129) (placed g e) g

-- one record after the other
abbrev pub all_more : Gathered → List Edit → Gathered
all_more g [] = g
all_more g (e ∷ es) = all_more (one_more g e) es

unfoldable pub gathered : List Edit → Gathered
gathered es = all_more none_gathered es
