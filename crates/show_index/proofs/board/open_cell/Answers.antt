-- `show_index::board::open_cell` meets its contract. Assumes nothing.
use Rattle.show_index.proofs.PackLaws.{cell_packed}
use native.Mathlib.Omega.{arith}
use lib.ListN.{length-set}
use Rattle.show_index.proofs.board.open_cell.Goals as goal

pub bounds-marks-legal : goal.bounds-marks-legal
bounds-marks-legal c = simp length-set (omega arith)

pub bounds-marks-given : goal.bounds-marks-given
bounds-marks-given c = simp length-set (omega arith)

pub returns : goal.returns
returns c = let a = c.args in cell_packed a.row a.value _ _ _ _ _ _ _ _ a.marks.now a.keys.now c.candidates_start.ensures c.legal_start.ensures c.capacity_given_start.ensures c.capacity_start.ensures c.cell-candidate.ensures.0 c.cell-legal.ensures.0 c.cell-given.ensures.0 c.cell-key.ensures.0
