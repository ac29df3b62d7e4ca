-- What the list of conflicts is: every row whose key has more holders than places, and no other, each once, those of a key in order; and it is empty
-- exactly where no key has too many holders. Assumes nothing.
use Prim.Native.Nat.{ℕ, ◌≤◌, ◌<◌}
use mathlib.Core.Path.{◌≡◌, refl}
use mathlib.Core.Logic.{◌↔◌}
use mathlib.Core.Bool.{Bool, true}
use mathlib.Core.List.Memᴰ.{head as here}
use mathlib.Core.List.Memᴰ.{not-nil}
use mathlib.Core.List.{List, [], ◌∷◌}
use Rattle.std.specs.Prelude.{Option, None, Some}
use Rattle.std.proofs.lemmas.Option.{none-some, same_Some}
use native.Mathlib.Omega.{arith}
use lib.ListN.{length}
use borrow.Author.Tests.{ltb-true, lt-ltb}
use Rattle.basics.specs.Tests.{all_of_below}
use Rattle.basics.specs.Sorting.{Apart, Reordered, then, rising}
use Rattle.basics.proofs.Bools.{clash, by, and_join}
use Rattle.basics.proofs.Lists.{◌∈◌, all_at_lem, all_of}
use Rattle.basics.proofs.Below.{count_below_pos, count_below_le, all_of_below_iff, all_of_below-length, all_of_below-distinct}
use Rattle.basics.proofs.Reordered.{back, reordered_length, member_reordered, apart_reordered, apart_iff}
use Rattle.basics.proofs.Sorting.{sort_reordered, sort-rising, rising_cons}
use Rattle.rules.specs.Board.{Board, places}
use Rattle.rules.specs.Roster.{Roster, held_capacity, holds, holders}
use Rattle.rules.specs.Ranks.{Ranks, conflict_before}
use Rattle.rules.proofs.Holders.{holds_iff}
use Rattle.rules.proofs.Ranks.{by_conflict}
use Rattle.assignment_conflicts.specs.Conflicts.{overfull, with_key, conflict_rows, held_key, conflict_holders}
use Rattle.assignment_conflicts.proofs.GatherLaws.{with_none, with_here, with_past, by_key, member_with, gathered_reordered}

-- those of one key stay in order
pub with_rising : (before : ℕ → ℕ → Bool) (key : ℕ → ℕ) (k : ℕ) (rs : List ℕ) → rising before rs ≡ true → rising before (with_key key k rs) ≡ true
unfolding rising
with_rising before key k [] h = rw (with_none key k)
with_rising before key k (r ∷ rs) h =
    let s = (rising_cons before r rs).0 h in
    by_key key k r
    (λ e. rw (with_here key k r rs e)
    (and_join (all_of (before r) (with_key key k rs) (λ z m. all_at_lem (before r) s.0 ((member_with key k rs z).0 m).0)) (with_rising before key k rs s.1)))
    (λ n. rw (with_past key k r rs n) (with_rising before key k rs s.1))

no_member : (xs : List ℕ) → ((z : ℕ) → z ∈ xs → ⊥) → xs ≡ []
no_member [] f = refl
no_member (x ∷ xs) f = absurd (f x (here refl))

module _ (B : Board) (P : Ranks) (h : Roster) where
  abbrev over : ℕ → Bool
  over r = overfull B h (held_capacity B h r)

  rows_reordered : Reordered (all_of_below B.rows over) (conflict_rows B P h)
  unfolding conflict_rows
  rows_reordered = sort_reordered (conflict_before B P) (all_of_below B.rows over)

  rows_apart : Apart (all_of_below B.rows over)
  rows_apart = (apart_iff _).0 (all_of_below-distinct over B.rows)

  all_reordered : Reordered (all_of_below B.rows over) (conflict_holders B P h)
  unfolding conflict_holders
  all_reordered = then rows_reordered (gathered_reordered (held_key B h) (conflict_rows B P h) (apart_reordered rows_reordered rows_apart))

  pub over_iff : (r : ℕ) → over r ≡ true ↔ ((k : ℕ) × (held_capacity B h r ≡ Some k) × (places B k < holders B h k))
  unfolding overfull
  over_iff r = go (held_capacity B h r)
    where
      go : (o : Option ℕ) → overfull B h o ≡ true ↔ ((k : ℕ) × (o ≡ Some k) × (places B k < holders B h k))
      go None = (λ t. absurd (clash t refl), λ (k, e, l). absurd (none-some k e))
      go (Some x) = (λ t. (x, refl, ltb-true _ _ t), λ (k, e, l). lt-ltb (places B x) (holders B h x) (rw (same_Some x k e) l))

  pub listed_iff : (z : ℕ) → z ∈ conflict_holders B P h ↔ ((z < B.rows) × (over z ≡ true))
  listed_iff z = (
    λ m. (all_of_below_iff over B.rows z).0 (member_reordered (back all_reordered) m),
    λ p. member_reordered all_reordered ((all_of_below_iff over B.rows z).1 p),
  )

  pub listed-once : Apart (conflict_holders B P h)
  listed-once = apart_reordered all_reordered rows_apart

  pub few_listed : length (conflict_holders B P h) ≤ B.rows
  few_listed = omega (arith, reordered_length all_reordered, all_of_below-length over B.rows, count_below_le over B.rows)

  pub holders_in_order : (k : ℕ) → rising (conflict_before B P) (with_key (held_key B h) k (conflict_rows B P h)) ≡ true
  unfolding conflict_rows
  holders_in_order k = with_rising (conflict_before B P) (held_key B h) k _ (sort-rising (by_conflict B P) (all_of_below B.rows over) rows_apart)

  pub none_iff : conflict_holders B P h ≡ [] ↔ ((k : ℕ) → holders B h k ≤ places B k)
  unfolding holders
  none_iff = (
    λ e k. by (places B k) (holders B h k) (λ l. absurd (held e k l)) (λ l. l),
    λ f. no_member _ (λ z m. let (k, q, l) = (over_iff z).0 ((listed_iff z).0 m).1 in omega (arith, f k)),
  )
    where
      held : conflict_holders B P h ≡ [] → (k : ℕ) → places B k < holders B h k → ⊥
      held e k l =
          let (r, b, t) = (count_below_pos (holds B h k) B.rows).0 (omega arith) in
          not-nil (rw e at ((listed_iff r).1 (b, (over_iff r).1 (k, (holds_iff B h k r).0 t, l))))
