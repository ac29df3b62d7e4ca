-- Who holds a key, when a key passes, and the net change of its holders: the arrivals of a list less its departures. Assumes nothing.
use Prim.Native.Nat.{ℕ, ◌+◌, ◌≤◌, ◌<◌}
use mathlib.Core.Path.{◌≡◌, refl, sym, ap, ◌∙◌}
use mathlib.Core.Logic.{◌↔◌}
use mathlib.Core.Bool.{true}
use mathlib.Core.List.Memᴰ.{head as here}
use mathlib.Core.List.Memᴰ.{tail as there}
use mathlib.Core.List.{List, [], ◌∷◌}
use Rattle.std.specs.Prelude.{Option, None, Some}
use Rattle.std.proofs.lemmas.Option.{none-some, same_Some}
use native.Mathlib.Omega.{arith}
use lib.IntN.{ℤ, pos, neg_ℤ, ◌+ℤ◌, ◌-ℤ◌, +ℤ_assoc, +ℤ-neg_ℤ_cancel, pos-+ℤ-pos}
use borrow.Author.Tests.{leb-true, le-leb}
use Rattle.basics.specs.Tests.{bit, count, distinct, is}
use Rattle.basics.specs.Edits.{Edit, rows_of}
use Rattle.basics.proofs.Lists.{◌∈◌, count_same, among_not, is_iff, distinct_cons}
use Rattle.basics.proofs.Below.{count_below_change}
use Rattle.rules.specs.Board.{Board, places}
use Rattle.rules.specs.Roster.{Roster, put, after, held_capacity, holds, holders}
use Rattle.rules.specs.FinalTest.{key_passes, key_at}
use Rattle.basics.proofs.Edits.{member_row}
use Rattle.rules.proofs.Rosters.{put_same, put_other}

-- only the row's own value counts
pub holds_alike : (B : Board) (g h : Roster) (k r : ℕ) → g r ≡ h r → holds B g k r ≡ holds B h k r
unfolding holds
holds_alike B g h k r e = ap (λ (v : ℕ). is k (B.capacity r v)) e

module _ (B : Board) (h : Roster) where
  pub holds_iff : (k r : ℕ) → holds B h k r ≡ true ↔ (held_capacity B h r ≡ Some k)
  unfolding holds
  holds_iff k r = is_iff k (held_capacity B h r)

  pub key-passes_iff : (o : Option ℕ) → key_passes B h o ≡ true ↔ ((k : ℕ) → o ≡ Some k → holders B h k ≤ places B k)
  unfolding key_passes
  key-passes_iff None = (λ t k e. absurd (none-some k e), λ f. refl)
  key-passes_iff (Some n) = (λ t k e. rw (← same_Some n k e) (leb-true _ _ t), λ f. le-leb _ _ (f n refl))

  pub key_at_iff : (r v : ℕ) → key_at B h r v ≡ true ↔ ((k : ℕ) → B.capacity r v ≡ Some k → holders B h k ≤ places B k)
  unfolding key_at
  key_at_iff r v = key-passes_iff (B.capacity r v)

-- a + d ≡ b + c, with the change from b to a as a signed number
signed : (a d b c : ℕ) → a + d ≡ b + c → pos b +ℤ (pos c -ℤ pos d) ≡ pos a
signed a d b c e =
    sym (+ℤ_assoc (pos b) (pos c) (neg_ℤ (pos d)))
    ∙ ap (λ (z : ℤ). z -ℤ pos d) (pos-+ℤ-pos b c ∙ ap pos (sym e) ∙ sym (pos-+ℤ-pos a d))
    ∙ +ℤ-neg_ℤ_cancel (pos a) (pos d)

module _ (B : Board) (k : ℕ) where
  -- the edits whose row holds the key before, and those whose row has it under the new value
  abbrev pub departures : Roster → List Edit → ℕ
  departures h L = count (λ (e : Edit). holds B h k e.row) L

  abbrev pub arrivals : List Edit → ℕ
  arrivals L = count (λ (e : Edit). is k (B.capacity e.row e.value)) L

  elsewhere : (h : Roster) (r v i : ℕ) → (i ≡ r → ⊥) → holds B (put h r v) k i ≡ holds B h k i
  elsewhere h r v i n = holds_alike B (put h r v) h k i (put_other h r v n)

  one_edit : (h : Roster) (r v : ℕ) → r < B.rows → holders B (put h r v) k + bit (holds B h k r) ≡ holders B h k + bit (is k (B.capacity r v))
  unfolding holders holds
  one_edit h r v l =
      count_below_change (holds B h k) (holds B (put h r v) k) B.rows r l (λ j _ n. sym (elsewhere h r v j n))
      ∙ ap (λ (w : ℕ). holders B h k + bit (is k (B.capacity r w))) (put_same h r v)

  pub holders_change : (h : Roster) (L : List Edit) → distinct (rows_of L) ≡ true → ((e : Edit) → e ∈ L → e.row < B.rows)
      → holders B (after h L) k + departures h L ≡ holders B h k + arrivals L
  unfolding after count rows_of
  holders_change h [] d f = refl
  holders_change h (e ∷ L) d f =
      let S = put h e.row e.value in
      let (new, rest) = (distinct_cons e.row (rows_of L)).0 d in
      let same : departures S L ≡ departures h L =
      count_same _ _ L (λ g m. elsewhere h e.row e.value g.row (λ q. (among_not e.row (rows_of L)).0 new (rw q at (member_row m)))) in
      omega (arith, one_edit h e.row e.value (f e (here refl)), holders_change S L rest (λ g m. f g (there m)))

  pub holders-signed : (h : Roster) (L : List Edit) → distinct (rows_of L) ≡ true → ((e : Edit) → e ∈ L → e.row < B.rows)
      → pos (holders B h k) +ℤ (pos (arrivals L) -ℤ pos (departures h L)) ≡ pos (holders B (after h L) k)
  holders-signed h L d f = signed (holders B (after h L) k) (departures h L) (holders B h k) (arrivals L) (holders_change h L d f)
