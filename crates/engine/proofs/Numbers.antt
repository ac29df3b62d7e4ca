-- The number of every entry's answer: that of the first refusal, or 0; and of the answers that tell one, the number that a caller finds written. By the definitions that the exports' promises
-- cite, from each case of an answer to its number and values. Assumes nothing.
use Prim.Native.Nat.{ℕ, min}
use mathlib.Core.Path.{◌≡◌, refl}
use mathlib.Core.Bool.{Bool, true, false, cond, ◌&&◌}
use mathlib.Core.List.{List}
use Rattle.std.specs.Prelude.{Option, None, Some, Ok, Err}
use lib.ListN.{length}
use lib.Dec.{eqb, ltb, leb}
use lib.IntN.{ℤ}
use borrow.Author.Tests.{ne_eqb}
use Rattle.std.specs.Result.{result_and, result_unwrap_or}
use Rattle.refusals.specs.declared.Refusal.{Refusal}
use Rattle.refusals.proofs.Numbers.{never_0}
use Rattle.refusals.specs.Codes.{yes_flag, code}
use Rattle.basics.specs.Tests.{bit}
use Rattle.basics.specs.Edits.{Edit, edits}
use Rattle.basics.proofs.Bools.{either}
use Rattle.refusals.specs.Refusals.{number as refusal_number, Checked}
use Rattle.rules.specs.Sound.{sound_test}
use Rattle.rules.specs.FinalTest.{passes}
use Rattle.rules.specs.Reinsertion.{reinserts}
use Rattle.refusals.specs.Answers.{then_room, unless_refused}
use Rattle.search_rules.specs.Search.{Reply, search}
use Rattle.search_rules.specs.Ceiling.{ask_ceiling}
use Rattle.assignment_tables.specs.declared.Shape.{Shape}
use Rattle.assignment_tables.specs.Tables.{board, ranks_of}
use Rattle.assignment_index.specs.Index.{roster_in}
use Rattle.assignment_state.specs.Admission.{admission}
use Rattle.assignment_overlay.specs.Verdicts.{final_verdict, reinsert_verdict}
use Rattle.sound_rosters.specs.SoundVerdict.{sound_verdict}
use Rattle.applied_lists.specs.Applying.{applying}
use Rattle.applied_lists.proofs.OneAct.{same_verdict}
use Rattle.assignment_conflicts.specs.Conflicts.{conflict_holders}
use Rattle.assignment_conflicts.specs.Listing as conflicts
use Rattle.assignment_order.specs.Positions.{assigned_rows}
use Rattle.assignment_order.specs.Ordered as order
use Rattle.calendar_format.specs.Format.{Duty, object}
use Rattle.calendar_format.specs.Reading.{duties_in}
use Rattle.driver_calendar.specs.Calendars as calendar
use Rattle.calendar_reading.specs.Reading as duties
use Rattle.window_kinds.specs.declared.CycleWindowCursor.{CycleWindowCursor}
use Rattle.window_kinds.specs.Kinds.{Kind, new_by, step_by}
use Rattle.window_kinds.specs.Stepping.{Stepping, answer_of, answering}
use Rattle.assignment_cycle.specs.Windows.{rematch_step}
use Rattle.assignment_cycle.specs.Stepping.{step_refusal, stepping_by}
use Rattle.assignment_walk.specs.Runs as walk
use Rattle.ejection_turns.specs.Ejection.{ejection}
use Rattle.assignment_ejection.specs.Ejected as ejected
use Rattle.assignment_path.specs.Searching as searched
use Rattle.search_ceiling.specs.Answer.{ceiling_answer}
use Rattle.search_codes.specs.Codes.{search_asks}

not_zero : (r : Refusal) → eqb (refusal_number r) 0 ≡ false
not_zero r = ne_eqb (refusal_number r) 0 (never_0 r)

-- a refusal tells its number, and an answer 0
number : {A : Type 0} (told : A → ℕ) (refuse : Refusal → A) (answer : A) → ((r : Refusal) → told (refuse r) ≡ refusal_number r) → told answer ≡ 0 → (a : Checked) → told (unless_refused refuse answer a) ≡ code a
unfolding unless_refused
number told refuse answer f z (Ok x) = z
number told refuse answer f z (Err r) = f r

-- what is written is the answer's, and what was there where it is refused
written : {A : Type 0} (read : A → ℕ) (refuse : Refusal → A) (answer : A) (before : ℕ) → ((r : Refusal) → read (refuse r) ≡ before) → (a : Checked)
    → read (unless_refused refuse answer a) ≡ cond (eqb (code a) 0) (read answer) before
unfolding unless_refused
written read refuse answer before f (Ok x) = refl
written read refuse answer before f (Err r) = rw (not_zero r) (f r)

-- ---- the tests: 1 for yes, 0 for no

verdict_number : (a : Checked) (b : Bool) → code (result_and a (Ok b)) ≡ code a
verdict_number (Ok x) b = refl
verdict_number (Err r) b = refl

verdict_written : (a : Checked) (b : Bool) (before : ℕ) → yes_flag (result_and a (Ok b)) before ≡ cond (eqb (code a) 0) (bit b) before
verdict_written (Ok x) true before = refl
verdict_written (Ok x) false before = refl
verdict_written (Err r) b before = rw (not_zero r)

module _ (S : Shape) (m k : List ℕ) (p : List ℤ) (R M : List ℕ) where
  module _ (rs vs : List ℕ) where
    abbrev own : Checked
    own = admission S m k p R M (eqb (length rs) (length vs))

    pub final_number : code (final_verdict S m k p R M rs vs) ≡ code own
    unfolding final_verdict
    final_number = verdict_number _ _

    pub final_written : (before : ℕ) → yes_flag (final_verdict S m k p R M rs vs) before
        ≡ cond (eqb (code own) 0) (bit (passes (board S m k) (roster_in S.rows R) (edits rs vs))) before
    unfolding final_verdict
    final_written before = verdict_written _ _ before

    -- a list that is applied has the final test's numbers
    pub apply_number : code (applying S m k p R M rs vs).answer ≡ code own
    apply_number = rw same_verdict final_number

    pub apply_written : (before : ℕ) → yes_flag (applying S m k p R M rs vs).answer before
        ≡ cond (eqb (code own) 0) (bit (passes (board S m k) (roster_in S.rows R) (edits rs vs))) before
    apply_written before = rw same_verdict (final_written before)

    module _ (r v : ℕ) where
      pub reinsert_number : code (reinsert_verdict S m k p R M rs vs r v) ≡ code own
      unfolding reinsert_verdict
      reinsert_number = verdict_number _ _

      pub reinsert_written : (before : ℕ) → yes_flag (reinsert_verdict S m k p R M rs vs r v) before
          ≡ cond (eqb (code own) 0) (bit (reinserts (board S m k) (roster_in S.rows R) (edits rs vs) r v)) before
      unfolding reinsert_verdict
      reinsert_written before = verdict_written _ _ before

  pub sound_number : code (sound_verdict S m k p R M) ≡ code (admission S m k p R M true)
  unfolding sound_verdict
  sound_number = verdict_number _ _

  pub sound_written : (before : ℕ) → yes_flag (sound_verdict S m k p R M) before
      ≡ cond (eqb (code (admission S m k p R M true)) 0) (bit (sound_test (board S m k) (roster_in S.rows R))) before
  unfolding sound_verdict
  sound_written before = verdict_written _ _ before

  -- ---- lists: how many there are

  module _ (K O : List ℕ) where
    abbrev conflicts_refused : Checked
    conflicts_refused = then_room (admission S m k p R M true) (leb S.rows (length K) && leb S.rows (length O))

    pub conflicts_number : code (conflicts.listing S m k p R M K O).answer ≡ code conflicts_refused
    unfolding conflicts.listing
    conflicts_number = number (λ (x : conflicts.Listing). code x.answer) _ _ (λ n. refl) refl conflicts_refused

    pub conflicts_written : (before : ℕ) → result_unwrap_or (conflicts.listing S m k p R M K O).answer before
        ≡ cond (eqb (code conflicts_refused) 0) (length (conflict_holders (board S m k) (ranks_of S m p) (roster_in S.rows R))) before
    unfolding conflicts.listing
    conflicts_written before = written (λ (x : conflicts.Listing). result_unwrap_or x.answer before) _ _ before (λ n. refl) conflicts_refused

  module _ (v : ℕ) (s O : List ℕ) where
    abbrev calendar_refused : Checked
    calendar_refused = calendar.calendar_refusal (admission S m k p R M true) (calendar.duties (board S m k) (roster_in S.rows R) v) s O

    pub calendar_number : code (calendar.calendaring S m k p R M v s O).answer ≡ code calendar_refused
    unfolding calendar.calendar_left
    calendar_number = number (λ (x : calendar.Left). code x.answer) _ _ (λ n. refl) refl calendar_refused

    pub calendar_written : (before : ℕ) → result_unwrap_or (calendar.calendaring S m k p R M v s O).answer before
        ≡ cond (eqb (code calendar_refused) 0) (length (object s (calendar.duties (board S m k) (roster_in S.rows R) v))) before
    unfolding calendar.calendar_left
    calendar_written before = written (λ (x : calendar.Left). result_unwrap_or x.answer before) _ _ before (λ n. refl) calendar_refused

  module _ (offset : ℕ) (O : List ℕ) where
    abbrev order-refused : Checked
    order-refused = then_room (admission S m k p R M true) (leb S.rows (length O))

    pub order_number : code (order.ordering S m k p R M offset O).answer ≡ code order-refused
    unfolding order.ordering
    order_number = number (λ (x : order.Left). code x.answer) _ _ (λ n. refl) refl order-refused

    pub order-written : (before : ℕ) → result_unwrap_or (order.ordering S m k p R M offset O).answer before
        ≡ cond (eqb (code order-refused) 0) (length (assigned_rows (board S m k) (ranks_of S m p) (roster_in S.rows R) offset)) before
    unfolding order.ordering
    order-written before = written (λ (x : order.Left). result_unwrap_or x.answer before) _ _ before (λ n. refl) order-refused

  -- ---- windows

  pub step_number : (K : Kind) (move : CycleWindowCursor → Option (List Edit)) (W : List ℕ) (c : CycleWindowCursor) (O U : List ℕ)
      → code (stepping_by K move S m k p R M W c O U).step.answer ≡ code (step_refusal K S m k p R M W c O U)
  unfolding stepping_by answering
  step_number K move W c O U = number (λ (x : Stepping). code x.step.answer) _ _ (λ n. refl)
      (told (step_by K move (length W) c).move) (step_refusal K S m k p R M W c O U)
    where
      told : (o : Option (List Edit)) → code (answer_of o) ≡ 0
      told None = refl
      told (Some L) = refl

  pub walk_number : (W : List ℕ) (c : CycleWindowCursor) (O U N : List ℕ) → code (walk.walking S m k p R M W c O U N).walk.answer ≡ code (walk.walk_refusal S m k p R M W c O U N)
  unfolding walk.walking walk.resumed
  walk_number W c O U N =
      number (λ (x : walk.Left). code x.walk.answer) _ _ (λ n. refl)
      (told (walk.run (rematch_step (board S m k) (roster_in S.rows R) W) (length N) (min (length O) (length U)) c)) (walk.walk_refusal S m k p R M W c O U N)
    where
      told : (r : walk.Run) → code (walk.resumed 0 0 r O U N).walk.answer ≡ 0
      told r = refl

  pub ejection_number : (W : List ℕ) (attempt : ℕ) (limit : Option ℕ) (O U : List ℕ) → code (ejected.ejecting S m k p R M W attempt limit O U).answer
      ≡ code (then_room (admission S m k p R M (leb (length W) 128)) (leb (length W) (length O) && leb (length W) (length U)))
  unfolding ejected.ejecting
  ejection_number W attempt limit O U =
      number (λ (x : ejected.Left). code x.answer) _ _ (λ n. refl)
      (told (ejection (board S m k) (roster_in S.rows R) limit attempt W)) _
    where
      told : (o : Option (List Edit)) → code (ejected.given o O U).answer ≡ 0
      told None = refl
      told (Some L) = refl

  -- ---- the search

  module _ (row value depth : ℕ) (displace : Bool) (limit : Option ℕ) (budget : ℕ) (O W : List ℕ) where
    abbrev search-refused : Checked
    search-refused = searched.search_refusal S m k p R M depth O W

    abbrev reply : Reply
    reply = search (board S m k) (roster_in S.rows R) (searched.request row value depth displace limit budget)

    pub search_number : code (searched.searching S m k p R M row value depth displace limit budget O W).answer ≡ code search-refused
    unfolding searched.searching searched.answering searched.moving unless_refused
    search_number = told search-refused
      where
        moved : (o : Option (List Edit)) → code (searched.moving reply.asks o O W).answer ≡ 0
        moved None = refl
        moved (Some L) = refl

        told : (a : Checked) → code (searched.answering reply O W a).answer ≡ code a
        told (Ok x) = moved reply.found
        told (Err r) = refl

    pub asks_written : (before : ℕ) → search_asks (searched.searching S m k p R M row value depth displace limit budget O W).answer before
        ≡ cond (eqb (code search-refused) 0) reply.asks before
    unfolding searched.searching searched.answering searched.moving unless_refused
    asks_written before = told search-refused
      where
        moved : (o : Option (List Edit)) → search_asks (searched.moving reply.asks o O W).answer before ≡ reply.asks
        moved None = refl
        moved (Some L) = refl

        told : (a : Checked) → search_asks (searched.answering reply O W a).answer before ≡ cond (eqb (code a) 0) reply.asks before
        told (Ok x) = moved reply.found
        told (Err r) = rw (not_zero r)

pub cursor_number : (least count size : ℕ) → code (new_by least count size) ≡ cond (leb count 128) 0 1
unfolding new_by
cursor_number least count size = either (leb count 128) (λ t. rw t) (λ f. rw f)

pub ceiling_number : (c d : ℕ) → code (ceiling_answer c d) ≡ cond (ltb 64 c) 2 (cond (ltb 8 d) 8 0)
unfolding ceiling_answer
ceiling_number c d = either (ltb 64 c) (λ t. rw t) (λ f. rw f (either (ltb 8 d) (λ t. rw t) (λ g. rw g)))

pub ceiling_written : (c d before : ℕ) → result_unwrap_or (ceiling_answer c d) before ≡ cond (ltb 64 c) before (cond (ltb 8 d) before (ask_ceiling c d))
unfolding ceiling_answer
ceiling_written c d before = either (ltb 64 c) (λ t. rw t) (λ f. rw f (either (ltb 8 d) (λ t. rw t) (λ g. rw g)))

-- ---- a calendar that is read: 13 for what is no calendar of ours, then 7

module _ (input O U : List ℕ) where
  abbrev pub read_refused : Option (List Duty) → ℕ
  read_refused None = 13
  read_refused (Some D) = cond (leb (length D) (length O) && leb (length D) (length U)) 0 7

  reads_number : (o : Option (List Duty)) → code (duties.given_if o O U).answer ≡ read_refused o
  unfolding duties.given_if duties.given
  reads_number None = refl
  reads_number (Some D) = either (leb (length D) (length O) && leb (length D) (length U)) (λ t. rw t) (λ f. rw f)

  pub reading_number : code (duties.reading input O U).answer ≡ read_refused (duties_in input)
  reading_number = reads_number (duties_in input)

  -- how many duties are told; a refusal leaves what was there
  abbrev pub counted : Option (List Duty) → ℕ → ℕ
  counted None before = before
  counted (Some D) before = cond (leb (length D) (length O) && leb (length D) (length U)) (length D) before

  reads-written : (o : Option (List Duty)) (before : ℕ) → result_unwrap_or (duties.given_if o O U).answer before ≡ counted o before
  unfolding duties.given_if duties.given
  reads-written None before = refl
  reads-written (Some D) before = either (leb (length D) (length O) && leb (length D) (length U)) (λ t. rw t) (λ f. rw f)

  pub reading-written : (before : ℕ) → result_unwrap_or (duties.reading input O U).answer before ≡ counted (duties_in input) before
  reading-written before = reads-written (duties_in input) before
