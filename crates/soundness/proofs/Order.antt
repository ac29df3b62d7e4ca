-- The order of a list's edits is indifferent, from every roster, sound or not. Assumes nothing.
use mathlib.Core.Path.{◌≡◌, sym, ap, ◌∙◌, fun_ext}
use mathlib.Core.Bool.{true}
use mathlib.Core.List.{List}
use Rattle.basics.specs.Tests.{among, distinct}
use Rattle.basics.specs.Edits.{Edit, rows_of}
use Rattle.basics.specs.Sorting.{Reordered}
use Rattle.basics.proofs.Bools.{either, same_test}
use Rattle.basics.proofs.Reordered.{back, member_reordered, all_reordered, among_reordered, distinct_reordered}
use Rattle.rules.specs.Board.{Board}
use Rattle.rules.specs.Roster.{Roster, after}
use Rattle.rules.specs.FinalTest.{edit_reads, reads, may_become, at_edits, capacity_passes, edges_pass, passes}
use Rattle.basics.proofs.Edits.{reordered_rows}
use Rattle.rules.proofs.Rosters.{untouched, touched, listed}
use Rattle.rules.proofs.Passing.{passes_iff}

pub after_reordered : (h : Roster) {L M : List Edit} → Reordered L M → distinct (rows_of L) ≡ true → after h L ≡ after h M
after_reordered h {L} {M} p d = fun_ext (λ r. either (among r (rows_of L))
    (λ t. let (e, m, at, holds) = touched h L r t in
    holds ∙ sym (listed h (sym (distinct_reordered (reordered_rows p)) ∙ d) (member_reordered p m)) ∙ ap (after h M) at)
    (λ n. untouched h L n ∙ sym (untouched h M (sym (among_reordered r (reordered_rows p)) ∙ n))))

module _ (B : Board) (h : Roster) where
  passes_reordered : {L M : List Edit} → Reordered L M → passes B h L ≡ true → passes B h M ≡ true
  unfolding passes reads capacity_passes edges_pass at_edits
  passes_reordered {L} {M} p t =
      let d = distinct_reordered (reordered_rows p) in
      let s = after_reordered h p ((passes_iff B h L).0 t).0.apart in
      rw (← d, ← all_reordered (edit_reads B) p, ← all_reordered (may_become B h) p, ← s, ← all_reordered _ p, ← all_reordered _ p) t

  pub order : {L M : List Edit} → Reordered L M → (passes B h L ≡ passes B h M) × (passes B h L ≡ true → after h L ≡ after h M)
  order {L} p =
      (same_test _ _ (passes_reordered p) (passes_reordered (back p)), λ t. after_reordered h p ((passes_iff B h L).0 t).0.apart)
