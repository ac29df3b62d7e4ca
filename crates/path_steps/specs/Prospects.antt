-- What a row and a value come to on the way down. docs/RULES.md, 6.2.
use Rattle.std.specs.Prelude.{ℕ, Bool, cond, Option, None, Some}
use Rattle.rules.specs.Board.{Board}
use Rattle.rules.specs.Roster.{Roster}
use Rattle.search_rules.specs.Blockers.{is_free, first_required}
use Rattle.search_rules.specs.Lifted.{bare}
use Rattle.path_steps.specs.declared.Prospect.{Prospect}
use Rattle.path_steps.specs.declared.Prospect.TheVariants as prospect

-- 6.2: a blocker to make way, if there is one
unfoldable pub blocked_by : Option ℕ → Prospect
blocked_by None = prospect.Fails
blocked_by (Some b) = prospect.Blocked b

-- 6.2: a value that is not legal fails, a row that nobody blocks is free, and else the first required blocker decides
unfoldable pub prospect_of : Board → Bool → Roster → ℕ → ℕ → Prospect
prospect_of B on h r v =
    cond (B.legal r v) (cond (is_free B (bare B on h) r v) prospect.Free (blocked_by (first_required B (bare B on h) r v))) prospect.Fails
