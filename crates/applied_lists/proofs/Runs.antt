-- After any run that mixes refreshes and applications the index is the one that building afresh would write. Assumes nothing.
use Prim.Native.Nat.{ℕ}
use mathlib.Core.Path.{◌≡◌}
use mathlib.Core.Logic.{⊎_elim}
use mathlib.Core.List.{List}
use lib.ListN.{length}
use lib.IntN.{ℤ}
use Rattle.std.specs.Prelude.{Ok}
use Rattle.assignment_tables.specs.declared.Shape.{Shape}
use Rattle.assignment_index.specs.Columns.{column, records_length, members_length}
use Rattle.assignment_updates.specs.Refresh.{built}
use Rattle.assignment_updates.specs.Runs.{Reached, begun, refreshed_by}
use Rattle.assignment_updates.proofs.Runs.{run_afresh}
use Rattle.assignment_overlay.specs.Verdicts.{final_verdict}
use Rattle.passed_lists.specs.Passed.{Feasible}
use Rattle.passed_lists.proofs.Passed.{passed}
use Rattle.applied_lists.specs.Runs.{Kept, loaded, by_refresh, by_applying}
use Rattle.applied_lists.proofs.ApplyLaws.{yes_or_not}
use Rattle.applied_lists.proofs.OneAct.{refreshed-then, as_it_was}

-- an application is an accepted refresh, or nothing at all
pub kept_reached : (S : Shape) (m k : List ℕ) (p : List ℤ) {R M : List ℕ} → Kept S m k p R M → Reached S m k p R M
kept_reached S m k p (loaded w) = begun w
kept_reached S m k p (by_refresh rs vs t q) = refreshed_by rs vs (kept_reached S m k p t) q
kept_reached S m k p (by_applying {R} {M} rs vs t) =
    let before = kept_reached S m k p t in
    ⊎_elim
    (λ (y : Feasible S m k p R M rs vs). rw (refreshed-then S m k p R M rs vs y) (refreshed_by rs vs before ((passed S m k p R M).taken rs vs y)))
    (λ n. let (records, members) = as_it_was S m k p R M rs vs n in rw (records, members) before)
    (yes_or_not (final_verdict S m k p R M rs vs))

-- 2.7, 3.11
pub kept_afresh : (S : Shape) (m k : List ℕ) (p : List ℤ) {R M : List ℕ} → Kept S m k p R M
    → (R' M' : List ℕ) → length R' ≡ records_length S.rows → length M' ≡ members_length S.rows
    → built S m k p (column S.rows 0 R) R' M' ≡ record { answer = Ok tt; records = R; members = M }
kept_afresh S m k p t = run_afresh S m k p (kept_reached S m k p t)
