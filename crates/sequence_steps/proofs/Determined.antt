-- No second result meets a contract of this crate. Assumes nothing.
use mathlib.Core.List.{[]}
use Rattle.basics.specs.Promises.{FixesAnswer}
use Rattle.basics.proofs.Promises.{alike}
use Rattle.rules.specs.Board.{Board}
use Rattle.assignment_tables.specs.Tables.{board}
use Rattle.sequence_steps.proofs

-- sequences stand beside each other alike on every board, so any one tells
some_board : Board
some_board = board (record { rows = 0; values = 0; edge_rule = 0 }) [] []

pub sequence-below : FixesAnswer proofs.sequence_below.Reads.Post
sequence-below κs a r s e f p q = alike (p some_board) (q some_board)

pub sequence-above : FixesAnswer proofs.sequence_above.Reads.Post
sequence-above κs a r s e f p q = alike (p some_board) (q some_board)
