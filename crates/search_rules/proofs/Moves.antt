-- What is known of every move of the search, and so what need not be asked of it again. Assumes nothing.
-- The original asks three things when it builds a move of a list: that it is not empty, that no row stands twice, and that every value is legal.
-- Whoever applies the move needs them: an empty move would be a step that changes nothing, a row twice would be two old values to put back.
-- All three hold already: the first of every list found, the other two of every list that passed the final test.
use Prim.Native.Nat.{◌+◌, ◌≤◌}
use mathlib.Core.Path.{◌≡◌, ap}
use mathlib.Core.Bool.{true}
use mathlib.Core.List.{List}
use Rattle.std.specs.Prelude.{Option, None, Some}
use Rattle.std.proofs.lemmas.Option.{none-some, same_Some}
use lib.ListN.{length}
use Rattle.basics.specs.Tests.{distinct}
use Rattle.basics.specs.Edits.{Edit, rows_of}
use Rattle.basics.proofs.Bools.{either, and_left, and_right}
use Rattle.basics.proofs.Lists.{◌∈◌, all_at_lem}
use lib.Dec.{ltb}
use Rattle.rules.specs.Board.{Board, value_legal}
use Rattle.rules.specs.Roster.{Roster}
use Rattle.rules.specs.FinalTest.{edit_reads, reads, passes}
use Rattle.search_rules.specs.Search.{Request, discover, tested, search}
use Rattle.search_rules.specs.Lifted.{Plain}
use Rattle.search_rules.proofs.Bounds.{discover_short}

tested-is : (B : Board) (h : Roster) (o : Option (List Edit)) (L : List Edit) → tested B h o ≡ Some L → (o ≡ Some L) × (passes B h L ≡ true)
unfolding tested
tested-is B h None L e = absurd (none-some _ e)
tested-is B h (Some M) L e =
    either (passes B h M)
    (λ t. let q = same_Some M L (rw t at e) in (ap Some q, rw q at t))
    (λ f. absurd (none-some _ (rw f at e)))

module _ (B : Board) (h : Roster) (q : Request) (L : List Edit) (e : (search B h q).found ≡ Some L) where
  found : ((discover B h q).found ≡ Some L) × (passes B h L ≡ true)
  unfolding search
  found = tested-is B h (discover B h q).found L e

  -- every move passes the final test
  pub move_passes : passes B h L ≡ true
  move_passes = found.1

  move_reads : reads B L ≡ true
  unfolding passes
  move_reads = and_left (reads B L) _ move_passes

  pub move_distinct : distinct (rows_of L) ≡ true
  unfolding reads
  move_distinct = and_left (distinct (rows_of L)) _ move_reads

  pub move_legal : (d : Edit) → d ∈ L → value_legal B d.row d.value ≡ true
  unfolding reads edit_reads
  move_legal d m = and_right (ltb d.row B.rows) _ (all_at_lem (edit_reads B) (and_right (distinct (rows_of L)) _ move_reads) m)

  -- the raw list is the move, so its bound is the move's
  pub move_short : Plain B → (1 ≤ length L) × (length L ≤ B.rows + q.depth + 1)
  move_short plain = discover_short B h q plain L found.0
