-- `path_steps::judge::by_holders` meets its contract: what was found among the holders, concluded. Assumes nothing.
use Rattle.path_steps.proofs.JudgeLaws.{concluded-among}
use Rattle.path_steps.proofs.judge.by_holders.Goals as goal

pub returns : goal.returns
returns c = concluded-among _ _ _ _ _ c.found_among.ensures _ _ c.conclude.ensures
