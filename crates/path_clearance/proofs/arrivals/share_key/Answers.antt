-- `path_clearance::arrivals::share_key` meets its contract. Assumes nothing.
use mathlib.Core.Path.{sym, ◌∙◌}
use Rattle.path_clearance.proofs.ArrivalLaws.{shares_at, shares-nothing}
use Rattle.path_clearance.proofs.arrivals.share_key.Goals as goal

pub returns : goal.returns
returns c = shares_at _ _ _ (sym c.capacity_key.ensures ∙ c.in-Some.is) _ c.has_key.ensures

pub returns-in_default : goal.returns-in_default
returns-in_default c = shares-nothing _ _ (sym c.capacity_key.ensures ∙ c.in_default.is)
