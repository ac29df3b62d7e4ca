-- From the trail of a search to its answer and outputs, and from a refusal. Assumes nothing.
use Prim.Native.Nat.{ℕ, ◌≤◌, ◌<◌}
use mathlib.Core.Path.{◌≡◌, refl, sym, ◌∙◌}
use mathlib.Core.Bool.{Bool, true, false, ◌&&◌}
use mathlib.Core.List.{List, []}
use Rattle.std.specs.Prelude.{None, Some, Option, Ok, Err}
use native.Mathlib.Omega.{arith}
use lib.ListN.{length, take}
use lib.Seq.{length-take-le}
use lib.Dec.{eqb, leb}
use lib.IntN.{ℤ}
use borrow.Author.Tests.{eq-eqb, ne_eqb, le-leb, lt-leb, lt-ltb, le-ltb}
use Rattle.refusals.specs.Refusals.{Checked, Answered}
use Rattle.refusals.specs.declared.Refusal.{Refusal}
use Rattle.refusals.proofs.AnswerLaws.{stays-refused, says_no, says_yes, refused-before, refused-room, not_refused}
use Rattle.refusals.specs.Answers.{then_unless}
use Rattle.basics.specs.Edits.{Edit, rows_of, values_of, edits}
use Rattle.basics.proofs.Bools.{either}
use Rattle.refusals.specs.declared.Refusal.TheVariants as refusal
use Rattle.rules.specs.Board.{Board, empty}
use Rattle.rules.specs.Roster.{Roster}
use Rattle.rules.specs.FinalTest.{passes}
use Rattle.outputs.specs.Outputs.{fronted}
use Rattle.outputs.specs.Giving.{GivenBack}
use Rattle.given_lists.specs.Passing.{passing}
use Rattle.given_lists.proofs.GivingLaws.{passing-yes, passing_no}
use Rattle.assignment_tables.specs.declared.Shape.{Shape}
use Rattle.assignment_tables.specs.Tables.{board}
use Rattle.assignment_tables.specs.Refusal.{all_candidates_fit}
use Rattle.assignment_state.specs.Admission.{admission}
use Rattle.search_rules.specs.Search.{Request, Reply, miss, try_row, holds_already, discover, tested, search}
use Rattle.path_steps.specs.Lists.{front}
use Rattle.path_entry.specs.declared.Path.{Path}
use Rattle.path_entry.specs.declared.Trail.{Trail}
use Rattle.path_entry.specs.declared.Trail.TheVariants as trail
use Rattle.search_codes.specs.declared.Search.{Search}
use Rattle.search_codes.specs.declared.Search.TheVariants as answer
use Rattle.word_bits.specs.Marks.{no_row}
use Rattle.path_entry.specs.Trails.{terms, reply_in, Between, Told}
use Rattle.assignment_path.specs.Searching.{Discovered, Searched, leaves, moving, replying, search_refusal, answering}
use Rattle.search_rules.specs.Lifted.{Plain}
use Rattle.search_rules.proofs.Bounds.{discover_short}
use Rattle.search_rules.proofs.Limits.{try_same}
use Rattle.path_entry.proofs.TrailLaws.{between_within, found_between}
use Rattle.offered_values.specs.Offers.{most_offered}
use Rattle.offered_values.proofs.OfferLaws.{offered-all}

-- ---- discovering

module _ (B : Board) (h : Roster) (q : Request) (rs vs : List ℕ) (long : length rs ≡ 137) (many : length vs ≡ 137) where
  missed_is : (n : ℕ) → discover B h q ≡ miss n → Discovered (discover B h q) rs vs (trail.Missed n)
  unfolding reply_in Between
  missed_is n e = record { reply = sym e; between = tt; rows_long = long; values_long = many }

  pub stopped-first : q.terms.budget < 1 → Discovered (discover B h q) rs vs (trail.Missed 1)
  unfolding discover
  stopped-first l = missed_is 1 (rw (lt-ltb q.terms.budget 1 l))

  module _ (goes : 1 ≤ q.terms.budget) (b : Bool) (e : b ≡ holds_already h q.row q.value) where
    pub held_already : b ≡ true → Discovered (discover B h q) rs vs (trail.Missed 1)
    unfolding discover
    held_already y = missed_is 1 (rw (le-ltb q.terms.budget 1 goes, sym e ∙ y))

    pub stopped-second : b ≡ false → q.terms.budget < 2 → Discovered (discover B h q) rs vs (trail.Missed 2)
    unfolding discover
    stopped-second n l = missed_is 2 (rw (le-ltb q.terms.budget 1 goes, sym e ∙ n, lt-ltb q.terms.budget 2 l))

    pub tried_out : b ≡ false → 2 ≤ q.terms.budget → (visiting : ℕ → Bool) → visiting ≡ no_row → (rs₀ vs₀ : List ℕ) (bound : ℕ) → bound ≤ 137 → (t : Trail)
        → Told (try_row B h q.terms q.depth visiting q.row q.value [] 2) 0 bound rs₀ vs₀ rs vs t → Discovered (discover B h q) rs vs t
    unfolding discover
    tried_out n l visiting f rs₀ vs₀ bound small t w =
        rw (le-ltb q.terms.budget 1 goes, sym e ∙ n, le-ltb q.terms.budget 2 l, ← f)
        (record { reply = w.reply; between = between_within 0 0 bound 137 (omega arith) small t w.between; rows_long = long; values_long = many })

-- ---- the limit as a number

pub told-limited : (S : Shape) (m k : List ℕ) (h : Roster) (displace : Bool) (l : Option ℕ) (budget : ℕ) → all_candidates_fit S m ≡ true
    → (n : ℕ) → n ≡ most_offered l → (depth : ℕ) (visiting : ℕ → Bool) (r v : ℕ) (L : List Edit) (asks listed bound : ℕ) (rs vs rs' vs' : List ℕ) (t : Trail)
    → Told (try_row (board S m k) h (terms displace (Some n) budget) depth visiting r v L asks) listed bound rs vs rs' vs' t
    → Told (try_row (board S m k) h (terms displace l budget) depth visiting r v L asks) listed bound rs vs rs' vs' t
told-limited S m k h displace l budget fit n e depth visiting r v L asks listed bound rs vs rs' vs' t w =
    rw (← try_same (board S m k) h displace budget (Some (most_offered l)) l (λ o. offered-all S m l o fit) depth visiting) (rw e at w)

pub holds_not : (h : Roster) (r v : ℕ) → v ≡ empty → false ≡ holds_already h r v
unfolding holds_already
holds_not h r v e = rw (eq-eqb v empty e)

pub holds-is : (h : Roster) (r v x : ℕ) → (v ≡ empty → ⊥) → x ≡ h r → eqb x v ≡ holds_already h r v
unfolding holds_already
holds-is h r v x n e = rw (ne_eqb v empty n, e)

-- ---- giving back

-- a list that has an edit is no move where none is given back
module _ (B : Board) (h : Roster) (L : List Edit) (edited : 1 ≤ length L) (asks : ℕ) (O W O' W' : List ℕ) (n : ℕ) (g : GivenBack (passing B h L) O W O' W' n) where
  none_given : n ≡ 0 → leaves (Ok (answer.NoMove asks)) O' W' ≡ moving asks (tested B h (Some L)) O W
  unfolding tested moving
  none_given z =
      either (passes B h L)
      (λ y. let k : GivenBack (Some L) O W O' W' n = rw (passing-yes B h L y) at g in
      let e : n ≡ length L = k.number in
      absurd (omega arith))
      (λ f. let k : GivenBack None O W O' W' n = rw (passing_no B h L f) at g in
      let x : O' ≡ O = k.rows in
      let y : W' ≡ W = k.values in
      rw (f, x, y))

  one_given : (n ≡ 0 → ⊥) → leaves (Ok (answer.Move n asks)) O' W' ≡ moving asks (tested B h (Some L)) O W
  unfolding tested moving
  one_given z =
      either (passes B h L)
      (λ t. let k : GivenBack (Some L) O W O' W' n = rw (passing-yes B h L t) at g in
      let e : n ≡ length L = k.number in
      let x : O' ≡ fronted (rows_of L) O = k.rows in
      let y : W' ≡ fronted (values_of L) W = k.values in
      rw (t, e, x, y))
      (λ f. let k : GivenBack None O W O' W' n = rw (passing_no B h L f) at g in absurd (z k.number))

-- ---- the search

module _ (B : Board) (h : Roster) (q : Request) (rs vs : List ℕ) (t : Trail) (w : Discovered (discover B h q) rs vs t) (O W : List ℕ) where
  pub none_found : (n : ℕ) → t ≡ trail.Missed n → leaves (Ok (answer.NoMove n)) O W ≡ replying (search B h q) O W
  unfolding search tested moving reply_in
  none_found n f = rw (← w.reply, f)

  module _ (plain : Plain B) (path : Path) (f : t ≡ trail.Found path) (O' W' : List ℕ) (n : ℕ) (g : GivenBack (passing B h (front path.length rs vs)) O W O' W' n) where
    found : (discover B h q).found ≡ Some (front path.length rs vs)
    unfolding reply_in
    found = rw (← w.reply, f)

    edited : 1 ≤ length (front path.length rs vs)
    edited = (discover_short B h q plain (front path.length rs vs) found).0

    answers_so : (r : Answered Search) → leaves r O' W' ≡ moving path.asks (tested B h (Some (front path.length rs vs))) O W → leaves r O' W' ≡ replying (search B h q) O W
    unfolding search reply_in
    answers_so r e = e ∙ rw (← w.reply, f)

    pub not_given : n ≡ 0 → leaves (Ok (answer.NoMove path.asks)) O' W' ≡ replying (search B h q) O W
    not_given z = answers_so _ (none_given B h (front path.length rs vs) edited path.asks O W O' W' n g z)

    pub given : (n ≡ 0 → ⊥) → leaves (Ok (answer.Move n path.asks)) O' W' ≡ replying (search B h q) O W
    given z = answers_so _ (one_given B h (front path.length rs vs) edited path.asks O W O' W' n g z)

-- ---- the entry

module _ (S : Shape) (m k : List ℕ) (p : List ℤ) (R M : List ℕ) (depth : ℕ) (a : Reply) (O W : List ℕ) where
  abbrev Answer : Searched
  Answer = answering a O W (search_refusal S m k p R M depth O W)

  abbrev said : Refusal → Searched
  said r = leaves (Err r) O W

  abbrev room : Bool
  room = leb S.rows (length O) && leb S.rows (length W)

  module _ (x : Checked) (f : x ≡ admission S m k p R M true) where
    abbrev before : Checked
    before = then_unless refusal.Depth x (leb depth 8)

    pub not_admitted : (r : Refusal) → x ≡ Err r → leaves (Err r) O W ≡ Answer
    unfolding search_refusal answering
    not_admitted r z = rw (← f) (refused-before said (replying a O W) before room r (stays-refused refusal.Depth x (leb depth 8) r z))

    module _ (z : x ≡ Ok tt) where
      pub too_deep : 8 < depth → leaves (Err refusal.Depth) O W ≡ Answer
      unfolding search_refusal answering
      too_deep l = rw (← f) (refused-before said (replying a O W) before room refusal.Depth (says_no refusal.Depth x (leb depth 8) z (lt-leb depth 8 l)))

      module _ (d : depth ≤ 8) where
        deep_enough : before ≡ Ok tt
        deep_enough = says_yes refusal.Depth x (leb depth 8) z (le-leb depth 8 d)

        pub rows_short : length O < S.rows → leaves (Err refusal.Room) O W ≡ Answer
        unfolding search_refusal answering
        rows_short l = rw (← f) (refused-room said (replying a O W) before room deep_enough (rw (lt-leb S.rows (length O) l)))

        pub values_short : S.rows ≤ length O → length W < S.rows → leaves (Err refusal.Room) O W ≡ Answer
        unfolding search_refusal answering
        values_short i l = rw (← f) (refused-room said (replying a O W) before room deep_enough (rw (le-leb S.rows (length O) i, lt-leb S.rows (length W) l)))

        pub answered : S.rows ≤ length O → S.rows ≤ length W → (r : Answered Search) (O' W' : List ℕ) → leaves r O' W' ≡ replying a O W → leaves r O' W' ≡ Answer
        unfolding search_refusal answering
        answered i j r O' W' g = g ∙ rw (← f) (not_refused said (replying a O W) before room deep_enough (rw (le-leb S.rows (length O) i, le-leb S.rows (length W) j)))

-- ---- the list before the first try

pub front_none : (rs vs : List ℕ) → front 0 rs vs ≡ []
unfolding edits
front_none rs vs = refl

-- ---- a found list as parts of the slices

module _ (a : Reply) (rs vs : List ℕ) (t : Trail) (w : Discovered a rs vs t) (path : Path) (f : t ≡ trail.Found path) where
  pub rows_room : path.length ≤ length rs
  rows_room = omega (arith, (found_between 0 137 t path f w.between).1, w.rows_long)

  pub values-room : path.length ≤ length vs
  values-room = omega (arith, (found_between 0 137 t path f w.between).1, w.values_long)

  pub rows_part : path.length ≡ length (take path.length rs)
  rows_part = sym (length-take-le path.length rs rows_room)

  pub values-part : path.length ≡ length (take path.length vs)
  values-part = sym (length-take-le path.length vs values-room)
