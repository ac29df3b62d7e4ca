-- The search by path, as a function of the board, the roster and the request. docs/RULES.md, 6 and 7.
-- The search's own changes to the roster are those of its list: a row has what the list gives it last. Going back to a shorter list undoes both.
use Rattle.std.specs.Prelude.{ℕ, zero, suc, ◌+◌, Bool, false, not, cond, ◌&&◌, ◌||◌, List, [], ◌∷◌, ◌++◌, map, eqb, ltb, Option, None, Some}
use Rattle.basics.specs.Edits.{Edit}
use Rattle.rules.specs.Board.{Board, empty, limited}
use Rattle.rules.specs.Roster.{Roster, after}
use Rattle.rules.specs.FinalTest.{passes}
use Rattle.search_rules.specs.Blockers.{is_free, displaceable_blockers, first_required}

-- what stays the same through a search: whether optional rows may be displaced, the limit on candidates, the budget of asks
pub record Terms : Type 0 where
  pub displace : Bool
  pub limit : Option ℕ
  pub budget : ℕ

pub record Request : Type 0 where
  pub row : ℕ
  pub value : ℕ
  pub depth : ℕ
  pub terms : Terms

-- how many asks were made in all, and the list, where one was found
pub record Reply : Type 0 where
  pub asks : ℕ
  pub found : Option (List Edit)

abbrev pub miss : ℕ → Reply
miss n = record { asks = n; found = None }

abbrev pub hit : ℕ → List Edit → Reply
hit n L = record { asks = n; found = Some L }

abbrev pub edit : ℕ → ℕ → Edit
edit r v = record { row = r; value = v }

-- 7.2: the n-th ask is answered "stop"
abbrev pub stops : Terms → ℕ → Bool
stops q n = ltb q.budget n

-- 6.4: the list with the blockers emptied that may be
unfoldable pub displaced : Board → Bool → Roster → ℕ → ℕ → List Edit → List Edit
displaced B on h r v L = cond on (L ++ map (λ (o : ℕ). edit o empty) (displaceable_blockers B (after h L) r v)) L

-- 6.2: ask, legality, displacement, acceptance; `deeper` is what follows for a row that is still blocked
unfoldable pub enter : Board → Roster → Terms → ℕ → ℕ → List Edit → ℕ → (List Edit → Reply) → Reply
enter B h q r v L n deeper =
    let made = displaced B q.displace h r v L in
    let blocked = deeper made in
    cond (stops q (n + 1)) (miss (n + 1))
    (cond (B.legal r v)
    (cond (is_free B (after h made) r v) (hit (n + 1) (made ++ (edit r v ∷ []))) blocked)
    (miss (n + 1)))

-- 6.5: what an alternative found serves if r is then free
unfoldable pub closes : Board → Roster → ℕ → ℕ → Option (List Edit) → Option (List Edit)
closes B h r v None = None
closes B h r v (Some L) = cond (is_free B (after h L) r v) (Some (L ++ (edit r v ∷ []))) None

-- what was found, else what comes next
unfoldable pub or_else : Reply → (ℕ → Reply) → Reply
or_else a next = elim a.found as (λ _. Reply) [ None ↦ next a.asks | Some L ↦ hit a.asks L ]

-- 6.5, 7.1: each alternative in order, but for the value held, and one ask before each; `try` is one alternative's try
unfoldable pub walk : Terms → ℕ → (ℕ → ℕ → Reply) → List ℕ → ℕ → Reply
walk q held try [] n = miss n
walk q held try (a ∷ more) n =
    let skipped = walk q held try more (n + 1) in
    let tried = or_else (try a (n + 1)) (walk q held try more) in
    cond (stops q (n + 1)) (miss (n + 1)) (cond (eqb a held) skipped tried)

-- 6.5: what a blocker offers
abbrev pub offers : Board → Terms → ℕ → List ℕ
offers B q b = limited q.limit (B.candidates b)

-- an alternative's reply, once the row r that it makes way for is looked at again
unfoldable pub closed : Board → Roster → ℕ → ℕ → Reply → Reply
closed B h r v a = record { asks = a.asks; found = closes B h r v a.found }

-- 6.2: a blocker, if there is one, walks its alternatives, each tried by `try`
unfoldable pub make_way : Board → Roster → Terms → (ℕ → ℕ → List Edit → ℕ → Reply) → ℕ → ℕ → ℕ → List Edit → Option ℕ → Reply
make_way B h q try r v n L None = miss n
make_way B h q try r v n L (Some b) = walk q (after h L b) (λ (a m : ℕ). closed B h r v (try b a L m)) (offers B q b) n

-- 6.2: the first required blocker does, for a row that is not being tried further up
unfoldable pub descend : Board → Roster → Terms → (ℕ → ℕ → List Edit → ℕ → Reply) → (ℕ → Bool) → ℕ → ℕ → ℕ → List Edit → Reply
descend B h q try visiting r v n L =
    let way = make_way B h q try r v n L (first_required B (after h L) r v) in cond (visiting r) (miss n) way

-- the rows being tried further up, once r is one of them
abbrev pub within : ℕ → (ℕ → Bool) → ℕ → Bool
within r visiting o = eqb o r || visiting o

-- 6.2: trying a row at a depth, from a list and a number of asks; `visiting` are the rows being tried further up
unfoldable pub try_row : Board → Roster → Terms → ℕ → (ℕ → Bool) → ℕ → ℕ → List Edit → ℕ → Reply
try_row B h q zero visiting r v L n = enter B h q r v L n (λ (made : List Edit). miss (n + 1))
try_row B h q (suc d) visiting r v L n =
    enter B h q r v L n (descend B h q (try_row B h q d (within r visiting)) visiting r v (n + 1))

-- 6.1: the row holds the value already
unfoldable pub holds_already : Roster → ℕ → ℕ → Bool
holds_already h r v = not (eqb v empty) && eqb (h r) v

-- 6, 7.1: one ask at entry, one before the first try
unfoldable pub discover : Board → Roster → Request → Reply
discover B h q =
    let begun = try_row B h q.terms q.depth (λ (o : ℕ). false) q.row q.value [] 2 in
    cond (stops q.terms 1) (miss 1) (cond (holds_already h q.row q.value) (miss 1) (cond (stops q.terms 2) (miss 2) begun))

-- 6.7: a found list is a move only if it passes the final test
unfoldable pub tested : Board → Roster → Option (List Edit) → Option (List Edit)
tested B h None = None
tested B h (Some L) = cond (passes B h L) (Some L) None

unfoldable pub search : Board → Roster → Request → Reply
search B h q = record { asks = (discover B h q).asks; found = tested B h (discover B h q).found }
