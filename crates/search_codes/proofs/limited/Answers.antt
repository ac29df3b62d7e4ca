-- `search_codes::limited` meets its contract. Assumes nothing.
use borrow.Author.Tests.{eq-eqb, ne_eqb}
use Rattle.search_codes.specs.Codes.{limited}
use Rattle.search_codes.proofs.limited.Goals as goal

pub returns-then-most-eq-EMPTY : goal.returns-then-most-eq-EMPTY
unfolding limited
returns-then-most-eq-EMPTY c = rw (eq-eqb _ _ c.if-most-eq-EMPTY.true)

pub returns : goal.returns
unfolding limited
returns c = rw (ne_eqb _ _ c.if-most-eq-EMPTY.false)
