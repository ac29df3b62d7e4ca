use native.Mathlib.Omega.{arith}
use Rattle.written_text.proofs.WroteLaws.{joined, called_otherwise}
use Rattle.duty_records.proofs.LineLaws.{text_pieces}
use Rattle.duty_records.proofs.write_duties.Goals as goal

pub returns : goal.returns
returns c = record { wrote = called_otherwise _ _ _ _ _ _ (text_pieces _) (joined _ _ _ _ _ _ _ _ c.write_bytes-next.ensures c.write_lines.ensures.wrote); upper_bound = omega (arith, c.write_lines.ensures.upper_bound, c.write_bytes-next.ensures.place) }
