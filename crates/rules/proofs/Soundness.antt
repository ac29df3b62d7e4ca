-- A roster is clear where what each row touches by its own holding passes; then every holding passes there. It is sound where each
-- row's holding is legal too. Assumes nothing.
use Prim.Native.Nat.{ℕ, ◌≤◌, ◌<◌}
use mathlib.Core.Path.{◌≡◌}
use mathlib.Core.Logic.{◌↔◌, ⊎_elim}
use mathlib.Core.Bool.{true, ◌&&◌, ◌||◌}
use native.Mathlib.Nat.{eq-zero-or-pos}
use native.Mathlib.Omega.{arith}
use lib.Dec.{eqb}
use borrow.Author.Tests.{eqb-true, eqb-false}
use Rattle.basics.specs.Tests.{all_below}
use Rattle.basics.proofs.Bools.{either, and_left, and_right, and_join, or_left, or_right, or_cases}
use Rattle.basics.proofs.Below.{all_below_at, all_below_of, count_below_pos}
use Rattle.rules.specs.Board.{Board, empty, places}
use Rattle.rules.specs.Roster.{Roster, holds, holders}
use Rattle.rules.specs.FinalTest.{key_at, place_at}
use Rattle.rules.specs.Sound.{Clear, Sound, held_legal, clear_at, sound_test}
use Rattle.rules.proofs.Holders.{holds_iff, key_at_iff}
use Rattle.rules.proofs.Edges.{place_at_iff, allowed-left}

module _ (B : Board) (h : Roster) where
  pub every_key : Clear B h → (r v : ℕ) → key_at B h r v ≡ true
  every_key clear r v = (key_at_iff B h r v).1 (λ k _. clear.keys k)

  pub every_place : Clear B h → (r v : ℕ) → place_at B h r v ≡ true
  every_place clear r v = (place_at_iff B h r v).1 (λ on s _ l q hl hq _. clear.edges on l q hl hq)

  -- a key that nobody holds has places enough, and one that a row holds is that row's
  own_keys : ((r : ℕ) → r < B.rows → key_at B h r (h r) ≡ true) → (k : ℕ) → holders B h k ≤ places B k
  unfolding holders
  own_keys f k =
      ⊎_elim
      (λ z. omega arith)
      (λ some_row. let (r, l, t) = (count_below_pos (holds B h k) B.rows).0 some_row in (key_at_iff B h r (h r)).0 (f r l) k ((holds_iff B h k r).0 t))
      (eq-zero-or-pos (holders B h k))

  pub clear_iff : all_below B.rows (clear_at B h) ≡ true ↔ Clear B h
  clear_iff = (
    λ t. let own = all_below_at _ B.rows t in
        record {
          keys = own_keys (λ r l. and_left (key_at B h r (h r)) _ (own r l));
          edges = λ on l r hl hr a. allowed-left B h on hl hr a (and_right (key_at B h l (h l)) _ (own l hl));
        },
    λ clear. all_below_of _ B.rows (λ r l. and_join (every_key clear r (h r)) (every_place clear r (h r))),
  )

  pub held_legal_iff : (r : ℕ) → held_legal B h r ≡ true ↔ ((h r ≡ empty → ⊥) → B.legal r (h r) ≡ true)
  unfolding held_legal
  held_legal_iff r = (
    λ t n. ⊎_elim (λ e. absurd (n (eqb-true (h r) empty e))) (λ l. l) (or_cases (eqb (h r) empty) _ t),
    λ f. either (eqb (h r) empty) (λ e. or_left _ _ e) (λ n. or_right (eqb (h r) empty) _ (f (eqb-false (h r) empty n))),
  )

  pub sound_iff : sound_test B h ≡ true ↔ Sound B h
  unfolding sound_test
  sound_iff = (
    λ t. let own = all_below_at _ B.rows t in
        record {
          clear = clear_iff.0 (all_below_of _ B.rows (λ r l. and_right (held_legal B h r) _ (own r l)));
          holdings = λ r l. (held_legal_iff r).0 (and_left (held_legal B h r) _ (own r l));
        },
    λ sound. let each = all_below_at _ B.rows (clear_iff.1 sound.clear) in
        all_below_of _ B.rows (λ r l. and_join ((held_legal_iff r).1 (sound.holdings r l)) (each r l)),
  )
