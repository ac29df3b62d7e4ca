-- Codes and numbers of an answer are those of whatever the answer equals. Assumes nothing.
use Prim.Native.Nat.{ℕ}
use mathlib.Core.Path.{◌≡◌, ap, ◌∙◌}
use mathlib.Core.List.{List}
use mathlib.Core.Bool.{Bool}
use Rattle.std.specs.Result.{result_unwrap_or}
use Rattle.std.specs.Prelude.{Option}
use Rattle.refusals.specs.Refusals.{Answered}
use Rattle.refusals.specs.Codes.{yes_flag, some_flag, some_count, code}
use Rattle.assignment_conflicts.specs.Listing.{Listing, leaves}
use Rattle.search_codes.specs.declared.Search.{Search}
use Rattle.assignment_path.specs.Searching as search
use Rattle.assignment_order.specs.Ordered as order
use Rattle.driver_calendar.specs.Calendars as calendar
use Rattle.calendar_reading.specs.Reading as duties
use Rattle.window_kinds.specs.declared.CycleWindowCursor.{CycleWindowCursor}
use Rattle.window_kinds.specs.declared.Step.{Step}
use Rattle.window_kinds.specs.Stepping as step
use Rattle.walk_answers.specs.declared.Walk.{Walk}
use Rattle.assignment_walk.specs.Runs as walk
use Rattle.walk_answers.specs.Codes.{walk_flag, walk_moves, walk_edits}
use Rattle.assignment_ejection.specs.Ejected as ejection
use Rattle.search_codes.specs.Codes.{search_flag, search_count, search_asks}
use Rattle.applied_lists.specs.Applying as apply
use Rattle.engine.specs.Told.{judged, verdict_told, altered, apply_told, ordered, order_told, begun, new_cursor_told, walked, step_told, traversed, walk_told, lifted, ejection_told, sought, search_told, exported, calendar_told, imported, duties_told}

pub verdict_told_lem : (v w : Answered Bool) (before coded flag : ℕ) → v ≡ w → coded ≡ code v → flag ≡ yes_flag v before
    → (coded ≡ code w) × (flag ≡ yes_flag w before)
verdict_told_lem v w before coded flag e c f = (c ∙ ap code e, f ∙ ap (λ (x : Answered Bool). yes_flag x before) e)

-- the same as one thing
pub judged-told : (v w : Answered Bool) (before coded flag : ℕ) → v ≡ w → coded ≡ code v → flag ≡ yes_flag v before → judged coded flag ≡ verdict_told w before
judged-told v w before coded flag e c f =
    let same : judged coded flag ≡ verdict_told v before = λ i. judged (c i) (f i) in
    same ∙ ap (λ (x : Answered Bool). verdict_told x before) e

-- a list tested and applied, and the index
pub apply_told_lem : (v : Answered Bool) (R M : List ℕ) (w : apply.Applied) (before coded flag : ℕ) → apply.leaves v R M ≡ w → coded ≡ code v → flag ≡ yes_flag v before
    → altered coded flag R M ≡ apply_told w before
apply_told_lem v R M w before coded flag e c f =
    let same : altered coded flag R M ≡ apply_told (apply.leaves v R M) before = λ i. altered (c i) (f i) R M in
    same ∙ ap (λ (x : apply.Applied). apply_told x before) e

-- the answer of a listing, and its outputs
pub conflicts_told : (a : Answered ℕ) (K O : List ℕ) (w : Listing) (before coded count : ℕ)
    → leaves a K O ≡ w
    → coded ≡ code a
    → count ≡ result_unwrap_or a before
    → (coded ≡ code w.answer) × ((count ≡ result_unwrap_or w.answer before) × ((K ≡ w.keys) × (O ≡ w.rows)))
conflicts_told a K O w before coded count e c n =
    (c ∙ ap (λ (x : Listing). code x.answer) e, (n ∙ ap (λ (x : Listing). result_unwrap_or x.answer before) e, (ap (λ (x : Listing). x.keys) e, ap (λ (x : Listing). x.rows) e)))

-- the order, and its output
pub order-told : (a : Answered ℕ) (O : List ℕ) (w : order.Left) (before coded count : ℕ)
    → order.leaves a O ≡ w
    → coded ≡ code a
    → count ≡ result_unwrap_or a before
    → ordered coded count O ≡ order_told w before
order-told a O w before coded count e c n =
    let same : ordered coded count O ≡ order_told (order.leaves a O) before = λ i. ordered (c i) (n i) O in
    same ∙ ap (λ (x : order.Left). order_told x before) e

pub new_cursor-told : (a w : Answered CycleWindowCursor) (before at : CycleWindowCursor) (coded : ℕ)
    → a ≡ w
    → coded ≡ code a
    → at ≡ result_unwrap_or a before
    → begun coded at ≡ new_cursor_told w before
new_cursor-told a w before at coded e c n =
    let same : begun coded at ≡ new_cursor_told a before = λ i. begun (c i) (n i) in
    same ∙ ap (λ (x : Answered CycleWindowCursor). new_cursor_told x before) e

-- a step with its cursor, and its outputs
pub step-told : (s : Step) (O U : List ℕ) (w : step.Stepping) (flag number coded moved count : ℕ)
    → step.leaves s O U ≡ w
    → coded ≡ code s.answer
    → moved ≡ some_flag s.answer flag
    → count ≡ some_count s.answer number
    → walked coded moved count s.next O U ≡ step_told w flag number
step-told s O U w flag number coded moved count e c m n =
    let same : walked coded moved count s.next O U ≡ step_told (step.leaves s O U) flag number = λ i. walked (c i) (m i) (n i) s.next O U in
    same ∙ ap (λ (x : step.Stepping). step_told x flag number) e

-- the same for whatever the limit equals
pub limited-step-told : (s : Step) (O U : List ℕ) (w : Option ℕ → step.Stepping) (l l' : Option ℕ) (flag number coded moved count : ℕ)
    → l ≡ l'
    → step.leaves s O U ≡ w l
    → coded ≡ code s.answer
    → moved ≡ some_flag s.answer flag
    → count ≡ some_count s.answer number
    → walked coded moved count s.next O U ≡ step_told (w l') flag number
limited-step-told s O U w l l' flag number coded moved count f e = step-told s O U (w l') flag number coded moved count (e ∙ ap w f)

-- a walk with its cursor, and its outputs
pub walk-told : (s : Walk) (O U N : List ℕ) (w : walk.Left) (flag many all coded done moves edits : ℕ)
    → walk.leaves s O U N ≡ w
    → coded ≡ code s.answer
    → done ≡ walk_flag s.answer flag
    → moves ≡ walk_moves s.answer many
    → edits ≡ walk_edits s.answer all
    → traversed coded done moves edits s.next O U N ≡ walk_told w flag many all
walk-told s O U N w flag many all coded done moves edits e c d m n =
    let same : traversed coded done moves edits s.next O U N ≡ walk_told (walk.leaves s O U N) flag many all = λ i. traversed (c i) (d i) (m i) (n i) s.next O U N in
    same ∙ ap (λ (x : walk.Left). walk_told x flag many all) e

-- an ejection, for whatever the limit equals, and its outputs
pub ejection-told : (a : Answered (Option ℕ)) (O U : List ℕ) (w : Option ℕ → ejection.Left) (l l' : Option ℕ) (flag number coded listed count : ℕ)
    → l ≡ l'
    → ejection.leaves a O U ≡ w l
    → coded ≡ code a
    → listed ≡ some_flag a flag
    → count ≡ some_count a number
    → lifted coded listed count O U ≡ ejection_told (w l') flag number
ejection-told a O U w l l' flag number coded listed count f e c m n =
    let same : lifted coded listed count O U ≡ ejection_told (ejection.leaves a O U) flag number = λ i. lifted (c i) (m i) (n i) O U in
    same ∙ ap (λ (x : ejection.Left). ejection_told x flag number) (e ∙ ap w f)

-- a search, for whatever displacement and limit equal, and its outputs
pub search-told : (a : Answered Search) (O U : List ℕ) (w : Bool → Option ℕ → search.Searched) (d d' : Bool) (l l' : Option ℕ) (flag number edits coded found asks count : ℕ)
    → d ≡ d'
    → l ≡ l'
    → search.leaves a O U ≡ w d l
    → coded ≡ code a
    → found ≡ search_flag a flag
    → asks ≡ search_asks a number
    → count ≡ search_count a edits
    → sought coded found asks count O U ≡ search_told (w d' l') flag number edits
search-told a O U w d d' l l' flag number edits coded found asks count g f e c m q n =
    let same : sought coded found asks count O U ≡ search_told (search.leaves a O U) flag number edits = λ i. sought (c i) (m i) (q i) (n i) O U in
    let asked : w d l ≡ w d' l' = λ i. w (g i) (f i) in
    same ∙ ap (λ (x : search.Searched). search_told x flag number edits) (e ∙ asked)

-- a calendar, written or read
pub calendar_told_lem : (a : Answered ℕ) (O : List ℕ) (w : calendar.Left) (before coded count : ℕ)
    → calendar.leaves a O ≡ w
    → coded ≡ code a
    → count ≡ result_unwrap_or a before
    → exported coded count O ≡ calendar_told w before
calendar_told_lem a O w before coded count e c n =
    let same : exported coded count O ≡ calendar_told (calendar.leaves a O) before = λ i. exported (c i) (n i) O in
    same ∙ ap (λ (x : calendar.Left). calendar_told x before) e

pub duties-told : (a : Answered ℕ) (O U : List ℕ) (w : duties.Left) (before coded count : ℕ)
    → duties.leaves a O U ≡ w
    → coded ≡ code a
    → count ≡ result_unwrap_or a before
    → imported coded count O U ≡ duties_told w before
duties-told a O U w before coded count e c n =
    let same : imported coded count O U ≡ duties_told (duties.leaves a O U) before = λ i. imported (c i) (n i) O U in
    same ∙ ap (λ (x : duties.Left). duties_told x before) e
