-- The stages of a listing put together: what each hands to the next, and what stands in the outputs then. Assumes nothing.
use Prim.Native.Nat.{ℕ, ◌≤◌, ◌<◌}
use mathlib.Core.Path.{◌≡◌, sym, ap, ap₂, ◌∙◌}
use mathlib.Core.Bool.{Bool, true, ◌&&◌}
use mathlib.Core.List.{List, map}
use native.Mathlib.Omega.{arith}
use lib.ListN.{length, get_or, take, drop, length-append, length-drop, length-map}
use lib.Dec.{leb, lit<}
use lib.IntN.{ℤ}
use lib.Seq.{sets, take_at}
use borrow.Author.Tests.{le-leb, lt-leb}
use Rattle.std.specs.Prelude.{Ok, Err}
use Rattle.refusals.specs.Refusals.{Checked}
use Rattle.refusals.specs.declared.Refusal.{Refusal}
use Rattle.basics.specs.Tests.{all_of_below}
use Rattle.basics.specs.Sorting.{Order, Apart, Reordered}
use Rattle.basics.proofs.Bools.{and_false}
use Rattle.basics.proofs.Lists.{◌∈◌, at_place}
use Rattle.basics.proofs.Below.{all_of_below_iff}
use Rattle.basics.proofs.Reordered.{back, reordered_length, member_reordered}
use Rattle.refusals.specs.declared.Refusal.TheVariants as refusal
use Rattle.assignment_tables.specs.declared.Shape.{Shape}
use Rattle.assignment_tables.specs.Tables.{board, ranks_of}
use Rattle.assignment_index.specs.Index.{roster_in}
use Rattle.assignment_index.proofs.Changes.{part-now}
use Rattle.assignment_state.specs.Admission.{admission, Ready}
use Rattle.assignment_state.proofs.AdmitLaws.{ready}
use Rattle.outputs.specs.Outputs.{fronted}
use Rattle.refusals.proofs.AnswerLaws.{refused-before, refused-room, not_refused}
use Rattle.assignment_conflicts.specs.Conflicts.{conflict_holders, conflict_keys}
use Rattle.row_order.specs.declared.Ranking.TheVariants as ranking
use Rattle.row_order.specs.Orders.{Ordering}
use Rattle.row_order.proofs.OrderLaws.{row-order}
use Rattle.row_order.proofs.SortLaws.{few_rows, chosen_reordered, chosen_apart}
use Rattle.conflict_leaders.specs.Leaders.{Counting, recorded_key, crowded, conflict_order, leads, leaders}
use Rattle.conflict_leaders.proofs.LeaderLaws.{chosen_iff}
use Rattle.assignment_conflicts.specs.Recorded.{Reading, crowded_rows, sharers_of, in_turn}
use Rattle.assignment_conflicts.specs.Listing.{Listing, leaves, listed, listing, Filled}
use Rattle.outputs.proofs.Writing.{sets_front, sets_over}
use Rattle.assignment_conflicts.proofs.GatherLaws.{gathered_reordered}
use Rattle.assignment_conflicts.proofs.LeaderLaws.{turns_gather, leaders_fewer}
use Rattle.assignment_conflicts.proofs.RecordLaws.{recorded_held, rows_in_conflict}

-- the front of a slice that has one
front-is : (xs s t : List ℕ) (n : ℕ) → n ≡ length xs → t ≡ fronted xs s → take n t ≡ xs
front-is xs s t n e f = ap (take n) f ∙ take_at xs (drop (length xs) s) n (sym e)

front_fits : (xs s t : List ℕ) → t ≡ fronted xs s → length xs ≤ length t
front_fits xs s t f = rw f (omega (arith, length-append xs (drop (length xs) s)))

-- ---- the stages

module _ (S : Shape) (m k : List ℕ) (p : List ℤ) (R M : List ℕ) (w : Ready S m k p R M) where
  abbrev n : ℕ
  n = S.rows

  abbrev key : ℕ → ℕ
  key = recorded_key n R

  abbrev T : List ℕ
  T = crowded_rows S m p R n

  abbrev L : List ℕ
  L = leaders S m p R

  abbrev brings : ℕ → List ℕ
  brings = sharers_of S m p R

  abbrev G : List ℕ
  G = in_turn brings L

  pub ordering : Ordering S m p
  ordering = record { marked = w.tables.marked; ranks_long = w.tables.ranks_long }

  pub counting : Counting n R M
  counting = record {
    few = w.tables.marked.small.few_rows;
    records_long = w.records_long;
    members_long = w.members_long;
    part = part-now S m k R M w.index 0 (lit< tt);
  }

  abbrev before : ℕ → ℕ → Bool
  before = conflict_order S m p

  order : Order before
  order = row-order S m p ranking.Conflict

  rows_reordered : Reordered (all_of_below n (crowded n R)) T
  rows_reordered = chosen_reordered before order (crowded n R) n

  rows_apart : Apart T
  rows_apart = chosen_apart before order (crowded n R) n

  brought_reordered : Reordered T G
  brought_reordered = rw (turns_gather n R before order) (gathered_reordered key T rows_apart)

  holders_are : G ≡ conflict_holders (board S m k) (ranks_of S m p) (roster_in n R)
  unfolding conflict_holders
  holders_are = turns_gather n R before order ∙ rw (recorded_held S m k p R M w, rows_in_conflict S m k p R M w)

  few : length T ≤ n
  few = few_rows before order (crowded n R) n

  few_brought : length G ≤ n
  few_brought = omega (arith, few, reordered_length brought_reordered)

  few_leaders : length L ≤ length G
  few_leaders = leaders_fewer n R before order

  reading : (xs ys : List ℕ) → ys ≡ xs → ((z : ℕ) → z ∈ xs → z < n) → Reading n R ys
  reading xs ys e f = record {
    few = w.tables.marked.small.few_rows;
    records_long = w.records_long;
    within = rw e (λ i l. f (get_or xs i 0) (at_place 0 xs i l));
  }

  leader_row : (z : ℕ) → z ∈ L → z < n
  leader_row z m = ((chosen_iff n R before order (leads before n R) z).0 m).0

  brought_row : (z : ℕ) → z ∈ G → z < n
  brought_row z m = ((all_of_below_iff (crowded n R) n z).0 (member_reordered (back rows_reordered) (member_reordered (back brought_reordered) m))).0

  module _ (K O : List ℕ) (l : (n ≤ length K) × (n ≤ length O)) (x : ℕ) (K₁ : List ℕ) (a : (x ≡ length L) × (K₁ ≡ fronted L K)) where
    sorted_is : take x K₁ ≡ L
    sorted_is = front-is L K K₁ x a.0 a.1

    pub sorted_within : x ≤ length K₁
    sorted_within = rw a.0 (front_fits L K K₁ a.1)

    pub sorted_long : x ≡ length (take x K₁)
    sorted_long = a.0 ∙ sym (ap length sorted_is)

    pub gather_asks : Ordering S m p × Counting n R M × Reading n R (take x K₁) × (length (in_turn brings (take x K₁)) ≤ length O)
    gather_asks = (ordering, counting, reading L _ sorted_is leader_row, rw sorted_is (omega (arith, few_brought)))

    module _ (y : ℕ) (O₁ : List ℕ) (b : (y ≡ length (in_turn brings (take x K₁))) × (O₁ ≡ sets O 0 (in_turn brings (take x K₁)))) where
      number_is : y ≡ length G
      number_is = b.0 ∙ rw sorted_is

      gathered-now : O₁ ≡ fronted G O
      gathered-now = b.1 ∙ rw sorted_is (sets_front G O (omega (arith, few_brought)))

      listed-is : take y O₁ ≡ G
      listed-is = front-is G O O₁ y number_is gathered-now

      pub listed-within : y ≤ length O₁
      listed-within = rw number_is (front_fits G O O₁ gathered-now)

      pub listed_long : y ≡ length (take y O₁)
      listed_long = number_is ∙ sym (ap length listed-is)

      pub write_asks : Reading n R (take y O₁) × (length (take y O₁) ≤ length K₁)
      write_asks = (
        reading G _ listed-is brought_row,
        rw (listed-is, a.1) (omega (arith, few_brought, length-append L (drop (length L) K), length-drop (length L) K)),
      )

      keys_are : map key G ≡ conflict_keys (board S m k) (ranks_of S m p) (roster_in n R)
      unfolding conflict_keys
      keys_are = ap₂ map (recorded_held S m k p R M w) holders_are

      pub all_listed : (K₂ : List ℕ) → K₂ ≡ sets K₁ 0 (map key (take y O₁)) → Filled (board S m k) (ranks_of S m p) (roster_in n R) K O K₂ O₁ y
      all_listed K₂ c = record {
        keys =
            c
            ∙ rw (listed-is, a.1) (sets_over (map key G) L K (rw (length-map G key) few_leaders) (rw (length-map G key) (omega (arith, few_brought))))
            ∙ ap (λ (xs : List ℕ). fronted xs K) keys_are;
        rows = gathered-now ∙ ap (λ (xs : List ℕ). fronted xs O) holders_are;
        number = number_is ∙ ap length holders_are;
      }

-- ---- the answers

module _ (S : Shape) (m k : List ℕ) (p : List ℤ) (R M K O : List ℕ) (a : Checked) (e : a ≡ admission S m k p R M true) where
  abbrev said : Refusal → Listing
  said x = leaves (Err x) K O

  abbrev answer : Listing
  answer = listed (board S m k) (ranks_of S m p) (roster_in S.rows R) K O

  abbrev enough : Bool
  enough = leb S.rows (length K) && leb S.rows (length O)

  pub not_admitted : (r : Refusal) → a ≡ Err r → said r ≡ listing S m k p R M K O
  unfolding listing
  not_admitted r z = rw (← e) (refused-before said answer a enough r z)

  module _ (z : a ≡ Ok tt) where
    pub admitted : Ready S m k p R M
    admitted = (ready S m k p R M true (sym e ∙ z)).0

    pub short_keys : length K < S.rows → said refusal.Room ≡ listing S m k p R M K O
    unfolding listing
    short_keys h = rw (← e) (refused-room said answer a enough z (rw (lt-leb _ _ h)))

    pub short_rows : length O < S.rows → said refusal.Room ≡ listing S m k p R M K O
    unfolding listing
    short_rows h = rw (← e) (refused-room said answer a enough z (rw (lt-leb _ _ h, and_false)))

    pub answered : S.rows ≤ length K → S.rows ≤ length O → (x : ℕ) (K' O' : List ℕ) → Filled (board S m k) (ranks_of S m p) (roster_in S.rows R) K O K' O' x
        → leaves (Ok x) K' O' ≡ listing S m k p R M K O
    unfolding listing
    answered h l x K' O' f = rw (f.keys, f.rows, f.number, ← e) (not_refused said answer a enough z (rw (le-leb _ _ h, le-leb _ _ l)))
