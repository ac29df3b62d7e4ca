-- What passed before a list passes after it: what the list touches it judges anew, and the rest stays as it was. Assumes nothing.
use Prim.Native.Nat.{ℕ, ◌≤◌, ◌<◌}
use mathlib.Core.Path.{◌≡◌, sym, ◌∙◌}
use mathlib.Core.Logic.{◌⊎◌, inl, inr, ⊎_elim}
use mathlib.Core.Bool.{Bool, true}
use mathlib.Core.List.{List}
use Rattle.basics.specs.Edits.{Edit}
use Rattle.basics.proofs.Bools.{either}
use Rattle.basics.proofs.Below.{count_below_else}
use Rattle.rules.specs.Board.{Board, places}
use Rattle.rules.specs.Roster.{Roster, after, holds, holders}
use Rattle.rules.specs.Neighbours.{neighbours}
use Rattle.rules.specs.FinalTest.{key_at, place_at, at_edits}
use Rattle.rules.proofs.Holders.{holds_alike, holds_iff, key_at_iff}
use Rattle.rules.proofs.Edges.{stands_alike, place_at_iff, allowed-left, allowed-right}
use Rattle.rules.proofs.Passing.{judged}

-- a test of holdings lasts: a holding that passed before a list passes after it, if the list's own holdings do
abbrev pub Lasting : (Roster → ℕ → ℕ → Bool) → Type 0
Lasting t = (h : Roster) (L : List Edit) → at_edits (t (after h L)) h L ≡ true → (r v : ℕ) → t h r v ≡ true → t (after h L) r v ≡ true

module _ (B : Board) (h : Roster) (L : List Edit) where
  abbrev S : Roster
  S = after h L

  -- a key has as many holders as it had, or it was judged
  key-judged : at_edits (key_at B S) h L ≡ true → (k : ℕ) → (holders B S k ≡ holders B h k) ⊎ (holders B S k ≤ places B k)
  unfolding holders
  key-judged a k = count_below_else (holds B S k) (holds B h k) B.rows
      (λ r _. ⊎_elim
      (λ same. inl (holds_alike B S h k r same))
      (λ (old, new). either (holds B h k r)
      (λ t. inr ((key_at_iff B S r (h r)).0 old k ((holds_iff B h k r).0 t)))
      (λ f. either (holds B S k r) (λ t. inr ((key_at_iff B S r (S r)).0 new k ((holds_iff B S k r).0 t))) (λ g. inl (g ∙ sym f))))
      (judged (key_at B S) h L a r))

  -- two neighbours hold what they held, or they were judged
  pair_judged : at_edits (place_at B S) h L ≡ true → B.rule ≡ true → (l r : ℕ) → l < B.rows → r < B.rows → neighbours B S l r ≡ true
      → ((S l ≡ h l) × (S r ≡ h r)) ⊎ (B.edge l r ≡ true)
  pair_judged a on l r hl hr n =
      ⊎_elim
      (λ same-l. ⊎_elim (λ same-r. inl (same-l, same-r)) (λ (_, new). inr (allowed-right B S on hl hr n new)) (judged (place_at B S) h L a r))
      (λ (_, new). inr (allowed-left B S on hl hr n new))
      (judged (place_at B S) h L a l)

pub key_lasts : (B : Board) → Lasting (key_at B)
key_lasts B h L a r v t =
    (key_at_iff B (after h L) r v).1 (λ k e. ⊎_elim (λ same. rw same ((key_at_iff B h r v).0 t k e)) (λ x. x) (key-judged B h L a k))

pub place_lasts : (B : Board) → Lasting (place_at B)
place_lasts B h L a r v t =
    let S = after h L in
    (place_at_iff B S r v).1 (λ on s e l q hl hq one n. ⊎_elim
    (λ (same-l, same-q).
    let before = ⊎_elim (λ x. inl (sym (stands_alike B S h v s l same-l) ∙ x)) (λ x. inr (sym (stands_alike B S h v s q same-q) ∙ x)) one in
    (place_at_iff B h r v).0 t on s e l q hl hq before (rw (same-l, same-q) at n))
    (λ x. x)
    (pair_judged B h L a on l q hl hq n))
