-- `vector_boards::board::change_index` meets its contract. Assumes nothing.
use mathlib.Core.Path.{◌≡◌}
use native.Mathlib.Omega.{arith}
use Rattle.vector_boards.proofs.LentLaws.{this-changed, other_kept}
use Rattle.vector_boards.proofs.board.change_index.Goals as goal

pub returns-in-3 : goal.returns-in-3
returns-in-3 c = let a = c.args in let k : a.table ≡ 3 = c.in-3.is in (this-changed a.table 3 a.records.now a.at _ k _ c.set_cell.ensures, other_kept a.table 4 a.members.now a.at _ (λ e. omega arith), other_kept a.table 5 a.roster.now a.at _ (λ e. omega arith))

pub returns-in-4 : goal.returns-in-4
returns-in-4 c = let a = c.args in let k : a.table ≡ 4 = c.in-4.is in (other_kept a.table 3 a.records.now a.at _ (λ e. omega arith), this-changed a.table 4 a.members.now a.at _ k _ c.set_cell-in-4.ensures, other_kept a.table 5 a.roster.now a.at _ (λ e. omega arith))

pub returns-in-5 : goal.returns-in-5
returns-in-5 c = let a = c.args in let k : a.table ≡ 5 = c.in-5.is in (other_kept a.table 3 a.records.now a.at _ (λ e. omega arith), other_kept a.table 4 a.members.now a.at _ (λ e. omega arith), this-changed a.table 5 a.roster.now a.at _ k _ c.set_cell-in-5.ensures)

pub returns-in_default : goal.returns-in_default
returns-in_default c = let a = c.args in (other_kept a.table 3 a.records.now a.at _ (λ e. omega arith), other_kept a.table 4 a.members.now a.at _ (λ e. omega arith), other_kept a.table 5 a.roster.now a.at _ (λ e. omega arith))
