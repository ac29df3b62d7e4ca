-- `assignment_tables::candidates::candidate_count` meets its contract. Assumes nothing.
use Rattle.assignment_tables.proofs.candidates.candidate_count.Goals as goal

pub returns : goal.returns
returns c = cc
