-- `vector_boards::board::change_table` meets its contract. Assumes nothing.
use mathlib.Core.Path.{◌≡◌}
use native.Mathlib.Omega.{arith}
use Rattle.vector_boards.proofs.LentLaws.{this-changed, other_kept}
use Rattle.vector_boards.proofs.board.change_table.Goals as goal

pub returns-in-0 : goal.returns-in-0
returns-in-0 c = let a = c.args in let k : a.table ≡ 0 = c.in-0.is in (this-changed a.table 0 a.marks.now a.at _ k _ c.set_mark.ensures, other_kept a.table 1 a.keys.now a.at _ (λ e. omega arith), other_kept a.table 2 a.ranks.now a.at _ (λ e. omega arith))

pub returns-in-1 : goal.returns-in-1
returns-in-1 c = let a = c.args in let k : a.table ≡ 1 = c.in-1.is in (other_kept a.table 0 a.marks.now a.at _ (λ e. omega arith), this-changed a.table 1 a.keys.now a.at _ k _ c.set_cell.ensures, other_kept a.table 2 a.ranks.now a.at _ (λ e. omega arith))

pub returns-in-2 : goal.returns-in-2
returns-in-2 c = let a = c.args in let k : a.table ≡ 2 = c.in-2.is in (other_kept a.table 0 a.marks.now a.at _ (λ e. omega arith), other_kept a.table 1 a.keys.now a.at _ (λ e. omega arith), this-changed a.table 2 a.ranks.now a.at _ k _ c.set_rank.ensures)

pub returns-in_default : goal.returns-in_default
returns-in_default c = let a = c.args in (other_kept a.table 0 a.marks.now a.at _ (λ e. omega arith), other_kept a.table 1 a.keys.now a.at _ (λ e. omega arith), other_kept a.table 2 a.ranks.now a.at _ (λ e. omega arith))
