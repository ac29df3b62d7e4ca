-- Demand 3 holds of every board and every roster. Assumes nothing.
use Rattle.rules.specs.Board.{Board}
use Rattle.rules.specs.Roster.{Roster}
use Rattle.soundness.specs.Demand3.{Demand3}
use Rattle.soundness.proofs.Exact.{exact}
use Rattle.soundness.proofs.Order.{order}
use Rattle.soundness.proofs.Join.{joined, after-join}
use Rattle.soundness.proofs.Undo.{undone, after-undo}

pub demand3 : (B : Board) (h : Roster) → Demand3 B h
demand3 B h = record {
  exact = exact B h;
  order = λ L M. order B h;
  joins = λ L M. (joined B h L M, after-join M h L);
  undoes = λ L. (undone B h L, after-undo h L);
}
