-- Trying a row and walking its blocker's alternatives meet their contracts: the depth falls from a row to its blocker. Assumes nothing.
use Prim.Native.Nat.{◌+◌}
use mathlib.Core.Path.{refl, sym, ◌∙◌}
use Rattle.std.specs.Prelude.{Some}
use native.Mathlib.Omega.{arith}
use borrow.Author.Tests.{lt-ltb, le-ltb}
use Rattle.assignment_tables.specs.Tables.{the_board}
use Rattle.assignment_index.specs.Index.{the_roster}
use Rattle.assignment_index.proofs.Changes.{records_long}
use Rattle.path_steps.proofs.PlainLaws.{board_plain}
use Rattle.path_steps.specs.Lists.{front}
use Rattle.word_bits.specs.Marks.{marked}
use Rattle.path_entry.specs.Trails.{terms}
use Rattle.offered_values.proofs.OfferLaws.{offered_few}
use Rattle.path_entry.proofs.TrailLaws.{between_within}
use Rattle.path_entry.proofs.EnterLaws.{settled_told, stuck-blocked}
use Rattle.path_walk.proofs.WalkLaws.{hopeless_misses, ceiling_positive, stuck-lifted, stuck_few, stuck_required, stuck-room, walked, closed-told, closed-miss, walking-begins, same_list, walking-ends, walking-room, walking-stops, walking_skips, walking_missed, walking-closed, walking_on}
use Rattle.path_walk.proofs.walk.+try_row_walk_alternatives.Goals as goal

pub try_row-enter-requires : goal.try_row-enter-requires
try_row-enter-requires t c = record { indexed = c.requires.searchable.index; lifted = c.requires.lifted; roomy = c.requires.roomy; asks_bound = omega (arith, c.requires.depth_bound.1, ceiling_positive 64 c.args.depth); recalls = c.requires.recalls }

pub try_row-visit-requires : goal.try_row-visit-requires
try_row-visit-requires t c = let B = the_board c.args.tables.now in
    let h = the_roster c.args.tables.now c.args.index.now in
    let q = terms c.args.displace (Some c.args.limit) c.args.budget in
    let plain = board_plain c.args.tables.now.shape c.args.tables.now.marks.now c.args.tables.now.keys.now c.requires.searchable.index.marked in
    let e = c.enter in
    let k = stuck-blocked B h q c.args.depth (marked c.args.visiting) c.args.row c.args.value (front c.args.listed c.args.list_rows.now c.args.list_values.now) c.args.asks c.args.listed c.args.list_rows.now c.args.list_values.now _ _ e.result (e.ensures.enters (Some c.args.limit)) _ c.in-Stuck.is in
    (omega (arith, plain.row_within _ _ k.legal, c.requires.searchable.index.marked.small.few_rows), k.unvisited)

pub try_row-overflow_sub-depth : goal.try_row-overflow_sub-depth
try_row-overflow_sub-depth t c = let B = the_board c.args.tables.now in
    let h = the_roster c.args.tables.now c.args.index.now in
    let q = terms c.args.displace (Some c.args.limit) c.args.budget in
    let e = c.enter in
    let k = stuck-blocked B h q c.args.depth (marked c.args.visiting) c.args.row c.args.value (front c.args.listed c.args.list_rows.now c.args.list_values.now) c.args.asks c.args.listed c.args.list_rows.now c.args.list_values.now _ _ e.result (e.ensures.enters (Some c.args.limit)) _ c.in-Stuck.is in
    k.deeper

pub try_row-candidate_values-requires : goal.try_row-candidate_values-requires
try_row-candidate_values-requires t c = record { marked = c.requires.searchable.index.marked; marks_value = c.requires.searchable.candidates_fit }

pub try_row-held_value-requires : goal.try_row-held_value-requires
try_row-held_value-requires t c = let B = the_board c.args.tables.now in
    let h = the_roster c.args.tables.now c.args.index.now in
    let q = terms c.args.displace (Some c.args.limit) c.args.budget in
    let plain = board_plain c.args.tables.now.shape c.args.tables.now.marks.now c.args.tables.now.keys.now c.requires.searchable.index.marked in
    let e = c.enter in
    let k = stuck-blocked B h q c.args.depth (marked c.args.visiting) c.args.row c.args.value (front c.args.listed c.args.list_rows.now c.args.list_values.now) c.args.asks c.args.listed c.args.list_rows.now c.args.list_values.now _ _ e.result (e.ensures.enters (Some c.args.limit)) _ c.in-Stuck.is in
    (omega (arith, records_long c.args.tables.now.shape _ _ _ _ c.requires.searchable.index), plain.required_within _ (stuck_required B h q plain c.args.depth (marked c.args.visiting) c.args.row c.args.value (front c.args.listed c.args.list_rows.now c.args.list_values.now) c.args.asks c.args.listed c.args.list_rows.now c.args.list_values.now _ _ _ c.requires.lifted k))

pub try_row-walk_alternatives-requires : goal.try_row-walk_alternatives-requires
try_row-walk_alternatives-requires t c = let B = the_board c.args.tables.now in
    let h = the_roster c.args.tables.now c.args.index.now in
    let q = terms c.args.displace (Some c.args.limit) c.args.budget in
    let plain = board_plain c.args.tables.now.shape c.args.tables.now.marks.now c.args.tables.now.keys.now c.requires.searchable.index.marked in
    let e = c.enter in
    let k = stuck-blocked B h q c.args.depth (marked c.args.visiting) c.args.row c.args.value (front c.args.listed c.args.list_rows.now c.args.list_values.now) c.args.asks c.args.listed c.args.list_rows.now c.args.list_values.now _ _ e.result (e.ensures.enters (Some c.args.limit)) _ c.in-Stuck.is in
    let room = c.requires.roomy in (
      omega (arith, k.deeper),
      (
        c.requires.searchable,
        (
          stuck-lifted B h q plain c.args.depth (marked c.args.visiting) c.args.row c.args.value (front c.args.listed c.args.list_rows.now c.args.list_values.now) c.args.asks c.args.listed c.args.list_rows.now c.args.list_values.now _ _ _ c.requires.lifted k,
          (
            record {
              rows_long = e.auto.list_rows ∙ room.rows_long;
              values_long = e.auto.list_values ∙ room.values_long;
              within = omega (arith, stuck_few B h q plain c.args.depth (marked c.args.visiting) c.args.row c.args.value (front c.args.listed c.args.list_rows.now c.args.list_values.now) c.args.asks c.args.listed c.args.list_rows.now c.args.list_values.now _ _ _ c.requires.lifted k, c.requires.searchable.index.marked.small.few_rows);
            },
            (rw c.candidate_values.ensures (offered_few c.args.tables.now.shape c.args.tables.now.marks.now (Some c.args.limit) _ c.requires.searchable.candidates_fit), ((omega (arith, c.requires.depth_bound.0, k.deeper), stuck-room B h q plain c.args.depth (marked c.args.visiting) c.args.row c.args.value (front c.args.listed c.args.list_rows.now c.args.list_values.now) c.args.asks c.args.listed c.args.list_rows.now c.args.list_values.now _ _ _ c.requires.lifted k c.requires.depth_bound.1), e.ensures.recalls_2)),
          ),
        ),
      ),
    )

pub try_row-returns-in-Settled : goal.try_row-returns-in-Settled
try_row-returns-in-Settled t c = record {
  tells = let B = the_board c.args.tables.now in
      let h = the_roster c.args.tables.now c.args.index.now in
      let q = terms c.args.displace (Some c.args.limit) c.args.budget in
      let e = c.enter in
      settled_told B h q c.args.depth (marked c.args.visiting) c.args.row c.args.value (front c.args.listed c.args.list_rows.now c.args.list_values.now) c.args.asks c.args.listed c.args.list_rows.now c.args.list_values.now _ _ e.result (e.ensures.enters (Some c.args.limit)) _ c.in-Settled.is;
  recalls_2 = c.enter.ensures.recalls_2;
}

pub try_row-returns-in-Stuck : goal.try_row-returns-in-Stuck
try_row-returns-in-Stuck t c = record {
  tells = let B = the_board c.args.tables.now in
      let h = the_roster c.args.tables.now c.args.index.now in
      let q = terms c.args.displace (Some c.args.limit) c.args.budget in
      let plain = board_plain c.args.tables.now.shape c.args.tables.now.marks.now c.args.tables.now.keys.now c.requires.searchable.index.marked in
      let e = c.enter in
      let k = stuck-blocked B h q c.args.depth (marked c.args.visiting) c.args.row c.args.value (front c.args.listed c.args.list_rows.now c.args.list_values.now) c.args.asks c.args.listed c.args.list_rows.now c.args.list_values.now _ _ e.result (e.ensures.enters (Some c.args.limit)) _ c.in-Stuck.is in
      walked B h q plain c.args.depth (marked c.args.visiting) c.args.row c.args.value (front c.args.listed c.args.list_rows.now c.args.list_values.now) c.args.asks c.args.listed c.args.list_rows.now c.args.list_values.now _ _ _ c.requires.lifted k _ c.visit.ensures _ _ _ _ c.held_value.ensures _ c.candidate_values.ensures c.walk_alternatives.ensures.tells;
  recalls_2 = c.walk_alternatives.ensures.recalls_2;
}

pub walk_alternatives-loop-i-init : goal.walk_alternatives-loop-i-init
walk_alternatives-loop-i-init t c = let B = the_board c.args.tables.now in
    let h = the_roster c.args.tables.now c.args.index.now in
    let q = terms c.args.displace (Some c.args.limit) c.args.budget in
    (walking-begins B h q c.args.depth (marked c.args.visiting) c.args.row c.args.value c.args.blocker c.args.held c.args.alternatives.now c.args.asked c.args.listed c.args.list_rows.now c.args.list_values.now c.requires.roomy, refl, c.requires.recalls)

pub walk_alternatives-overflow_add-asked : goal.walk_alternatives-overflow_add-asked
walk_alternatives-overflow_add-asked t c = let l = c.loop-i in
    let B = the_board c.args.tables.now in
    let h = the_roster c.args.tables.now c.args.index.now in
    let q = terms c.args.displace (Some c.args.limit) c.args.budget in
    omega (arith, walking-room B h q c.args.depth (marked c.args.visiting) c.args.row c.args.value c.args.blocker c.args.held c.args.alternatives.now c.args.asked c.args.listed c.args.list_rows.now c.args.list_values.now l.list_rows l.list_values l.asked l.i l.invariant.0 c.loop-i-test.true c.requires.alternatives_len_bound c.requires.depth_bound.1)

pub walk_alternatives-returns-then-budget-asked : goal.walk_alternatives-returns-then-budget-asked
walk_alternatives-returns-then-budget-asked t c = record {
  tells = let l = c.loop-i in
      let B = the_board c.args.tables.now in
      let h = the_roster c.args.tables.now c.args.index.now in
      let q = terms c.args.displace (Some c.args.limit) c.args.budget in
      walking-stops B h q c.args.depth (marked c.args.visiting) c.args.row c.args.value c.args.blocker c.args.held c.args.alternatives.now c.args.asked c.args.listed c.args.list_rows.now c.args.list_values.now l.list_rows l.list_values l.asked l.i l.invariant.0 c.loop-i-test.true (lt-ltb _ _ c.if-budget-asked.true) _;
  recalls_2 = c.loop-i.invariant.2;
}

pub walk_alternatives-bounds-alternatives-i : goal.walk_alternatives-bounds-alternatives-i
walk_alternatives-bounds-alternatives-i t c = omega (arith, c.loop-i-test.true)

pub walk_alternatives-overflow_cast-other : goal.walk_alternatives-overflow_cast-other
walk_alternatives-overflow_cast-other t c = omega (arith, c.type_inv.alternatives c.loop-i.i)

pub walk_alternatives-overflow_step-i : goal.walk_alternatives-overflow_step-i
walk_alternatives-overflow_step-i t c = omega (arith, c.loop-i-test.true)

pub walk_alternatives-loop-i-smaller-then-other-held : goal.walk_alternatives-loop-i-smaller-then-other-held
walk_alternatives-loop-i-smaller-then-other-held t c = omega (arith, c.loop-i-test.true)

pub walk_alternatives-loop-i-preserved-then-other-held : goal.walk_alternatives-loop-i-preserved-then-other-held
walk_alternatives-loop-i-preserved-then-other-held t c = let l = c.loop-i in
    let B = the_board c.args.tables.now in
    let h = the_roster c.args.tables.now c.args.index.now in
    let q = terms c.args.displace (Some c.args.limit) c.args.budget in
    (walking_skips B h q c.args.depth (marked c.args.visiting) c.args.row c.args.value c.args.blocker c.args.held c.args.alternatives.now c.args.asked c.args.listed c.args.list_rows.now c.args.list_values.now l.list_rows l.list_values l.asked l.i l.invariant.0 c.loop-i-test.true (le-ltb _ _ c.if-budget-asked.false) c.if-other-held.true, l.invariant.1, l.invariant.2)

pub walk_alternatives-hopeless-requires : goal.walk_alternatives-hopeless-requires
walk_alternatives-hopeless-requires t c = record { indexed = c.requires.searchable.index; recalls = c.loop-i.invariant.2 }

pub walk_alternatives-overflow_add-asked-then-hopeless : goal.walk_alternatives-overflow_add-asked-then-hopeless
walk_alternatives-overflow_add-asked-then-hopeless t c = let l = c.loop-i in
    let B = the_board c.args.tables.now in
    let h = the_roster c.args.tables.now c.args.index.now in
    let q = terms c.args.displace (Some c.args.limit) c.args.budget in
    omega (arith, walking-room B h q c.args.depth (marked c.args.visiting) c.args.row c.args.value c.args.blocker c.args.held c.args.alternatives.now c.args.asked c.args.listed c.args.list_rows.now c.args.list_values.now l.list_rows l.list_values l.asked l.i l.invariant.0 c.loop-i-test.true c.requires.alternatives_len_bound c.requires.depth_bound.1, ceiling_positive 64 c.args.depth)

pub walk_alternatives-overflow_step-i-then-hopeless : goal.walk_alternatives-overflow_step-i-then-hopeless
walk_alternatives-overflow_step-i-then-hopeless t c = omega (arith, c.loop-i-test.true)

pub walk_alternatives-loop-i-smaller-then-hopeless : goal.walk_alternatives-loop-i-smaller-then-hopeless
walk_alternatives-loop-i-smaller-then-hopeless t c = omega (arith, c.loop-i-test.true)

pub walk_alternatives-loop-i-preserved-then-hopeless : goal.walk_alternatives-loop-i-preserved-then-hopeless
walk_alternatives-loop-i-preserved-then-hopeless t c = let l = c.loop-i in
    let B = the_board c.args.tables.now in
    let h = the_roster c.args.tables.now c.args.index.now in
    let q = terms c.args.displace (Some c.args.limit) c.args.budget in
    let asked = c.hopeless in
    let misses = hopeless_misses c.args.tables.now.shape c.args.tables.now.marks.now c.args.tables.now.keys.now h q c.requires.searchable.index.marked l.memo c.args.depth (marked c.args.visiting) c.args.blocker _ (front c.args.listed c.args.list_rows.now c.args.list_values.now) (l.asked + 1) l.invariant.2 c.requires.lifted (sym asked.ensures.value ∙ c.if-hopeless.true) in (
      walking_missed B h q c.args.depth (marked c.args.visiting) c.args.row c.args.value c.args.blocker c.args.held c.args.alternatives.now c.args.asked c.args.listed c.args.list_rows.now c.args.list_values.now l.list_rows l.list_values l.asked l.i l.invariant.0 c.loop-i-test.true (le-ltb _ _ c.if-budget-asked.false) c.if-other-held.false (λ b. offered_few c.args.tables.now.shape c.args.tables.now.marks.now (Some c.args.limit) b c.requires.searchable.candidates_fit) _ (closed-miss B h c.args.row c.args.value _ _ misses) l.list_rows l.list_values l.invariant.0.rows_long l.invariant.0.values_long refl refl,
      asked.auto.memo ∙ l.invariant.1,
      asked.ensures.recalls_2,
    )

pub walk_alternatives-try_row-tried-requires : goal.walk_alternatives-try_row-tried-requires
walk_alternatives-try_row-tried-requires t c = let l = c.loop-i in
    let B = the_board c.args.tables.now in
    let h = the_roster c.args.tables.now c.args.index.now in
    let q = terms c.args.displace (Some c.args.limit) c.args.budget in (omega arith, (c.requires.searchable, (rw (same_list B h q c.args.depth (marked c.args.visiting) c.args.row c.args.value c.args.blocker c.args.held c.args.alternatives.now c.args.asked c.args.listed c.args.list_rows.now c.args.list_values.now l.list_rows l.list_values l.asked l.i l.invariant.0) c.requires.lifted, (record { rows_long = l.invariant.0.rows_long; values_long = l.invariant.0.values_long; within = c.requires.roomy.within }, ((omega (arith, c.requires.depth_bound.0), walking-room B h q c.args.depth (marked c.args.visiting) c.args.row c.args.value c.args.blocker c.args.held c.args.alternatives.now c.args.asked c.args.listed c.args.list_rows.now c.args.list_values.now l.list_rows l.list_values l.asked l.i l.invariant.0 c.loop-i-test.true c.requires.alternatives_len_bound c.requires.depth_bound.1), c.hopeless.ensures.recalls_2)))))

pub walk_alternatives-close_path-requires : goal.walk_alternatives-close_path-requires
walk_alternatives-close_path-requires t c = let l = c.loop-i in
    let o = c.try_row-tried in record { indexed = c.requires.searchable.index; roomy = record { rows_long = o.auto.list_rows ∙ l.invariant.0.rows_long; values_long = o.auto.list_values ∙ l.invariant.0.values_long; within = omega arith }; between = between_within c.args.listed 0 (c.args.tables.now.shape.rows + c.args.depth + 1) 136 (omega arith) (omega (arith, c.requires.searchable.index.marked.small.few_rows, c.requires.depth_bound.0)) o.result o.ensures.tells.between }

pub walk_alternatives-returns-in-Found : goal.walk_alternatives-returns-in-Found
walk_alternatives-returns-in-Found t c = record {
  tells = let l = c.loop-i in
      let B = the_board c.args.tables.now in
      let h = the_roster c.args.tables.now c.args.index.now in
      let q = terms c.args.displace (Some c.args.limit) c.args.budget in
      let o = c.try_row-tried in
      let p = c.close_path in
      walking-closed B h q c.args.depth (marked c.args.visiting) c.args.row c.args.value c.args.blocker c.args.held c.args.alternatives.now c.args.asked c.args.listed c.args.list_rows.now c.args.list_values.now l.list_rows l.list_values l.asked l.i l.invariant.0 c.loop-i-test.true (le-ltb _ _ c.if-budget-asked.false) c.if-other-held.false _ _ p.result (closed-told B h c.args.row c.args.value _ c.args.listed (c.args.tables.now.shape.rows + c.args.depth + 1) l.list_rows l.list_values _ _ _ _ o.result p.result o.ensures.tells p.ensures (c.args.tables.now.shape.rows + c.args.depth + 2) (omega arith)) _ c.in-Found.is;
  recalls_2 = c.try_row-tried.ensures.recalls_2;
}

pub walk_alternatives-overflow_step-i-in-loop-i : goal.walk_alternatives-overflow_step-i-in-loop-i
walk_alternatives-overflow_step-i-in-loop-i t c = omega (arith, c.loop-i-test.true, c.requires.alternatives_len_bound)

pub walk_alternatives-loop-i-smaller : goal.walk_alternatives-loop-i-smaller
walk_alternatives-loop-i-smaller t c = omega (arith, c.loop-i-test.true)

pub walk_alternatives-loop-i-preserved : goal.walk_alternatives-loop-i-preserved
walk_alternatives-loop-i-preserved t c = let l = c.loop-i in
    let B = the_board c.args.tables.now in
    let h = the_roster c.args.tables.now c.args.index.now in
    let q = terms c.args.displace (Some c.args.limit) c.args.budget in
    let o = c.try_row-tried in
    let p = c.close_path in (
      walking_on B h q c.args.depth (marked c.args.visiting) c.args.row c.args.value c.args.blocker c.args.held c.args.alternatives.now c.args.asked c.args.listed c.args.list_rows.now c.args.list_values.now l.list_rows l.list_values l.asked l.i l.invariant.0 c.loop-i-test.true (le-ltb _ _ c.if-budget-asked.false) c.if-other-held.false _ _ p.result (closed-told B h c.args.row c.args.value _ c.args.listed (c.args.tables.now.shape.rows + c.args.depth + 1) l.list_rows l.list_values _ _ _ _ o.result p.result o.ensures.tells p.ensures (c.args.tables.now.shape.rows + c.args.depth + 2) (omega arith)) (λ b. offered_few c.args.tables.now.shape c.args.tables.now.marks.now (Some c.args.limit) b c.requires.searchable.candidates_fit) (p.auto.list_rows ∙ o.auto.list_rows ∙ l.invariant.0.rows_long) (p.auto.list_values ∙ o.auto.list_values ∙ l.invariant.0.values_long) _ c.in-Missed.is,
      o.auto.memo ∙ c.hopeless.auto.memo ∙ l.invariant.1,
      o.ensures.recalls_2,
    )

pub walk_alternatives-returns : goal.walk_alternatives-returns
walk_alternatives-returns t c = record {
  tells = let l = c.loop-i in
      let B = the_board c.args.tables.now in
      let h = the_roster c.args.tables.now c.args.index.now in
      let q = terms c.args.displace (Some c.args.limit) c.args.budget in
      walking-ends B h q c.args.depth (marked c.args.visiting) c.args.row c.args.value c.args.blocker c.args.held c.args.alternatives.now c.args.asked c.args.listed c.args.list_rows.now c.args.list_values.now l.list_rows l.list_values l.asked l.i l.invariant.0 c.loop-i-test.false _;
  recalls_2 = c.loop-i.invariant.2;
}
