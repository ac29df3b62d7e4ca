-- `path_steps::judge::is_legal` meets its contract. Assumes nothing.
use Rattle.path_steps.proofs.judge.is_legal.Goals as goal

pub returns : goal.returns
returns c = cc
