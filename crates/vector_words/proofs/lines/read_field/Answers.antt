-- `vector_words::lines::read_field` meets its contract. Assumes nothing.
use Rattle.vector_words.proofs.LineLaws.{field_past, field_there}
use borrow.Author.Rules.{rules}
use Rattle.vector_words.proofs.FieldPlaces.{field_within}
use Rattle.vector_words.proofs.lines.read_field.Goals as goal

pub returns-then-text-from : goal.returns-then-text-from
returns-then-text-from c = search (rules, field_past)

pub slice_bounds-read_decimal-end : goal.slice_bounds-read_decimal-end
slice_bounds-read_decimal-end c = search (rules, field_within)

pub returns : goal.returns
returns c = search (rules, field_there)
