-- From a sound roster a list passes exactly when it is proper and the roster after it is sound. Assumes nothing.
use Prim.Native.Nat.{ℕ, ◌<◌}
use mathlib.Core.Path.{◌≡◌, ◌∙◌}
use mathlib.Core.Logic.{◌↔◌, ⊎_elim}
use mathlib.Core.Bool.{Bool, true}
use mathlib.Core.List.{List}
use borrow.Author.Tests.{ne_eqb}
use Rattle.basics.specs.Edits.{Edit}
use Rattle.basics.proofs.Bools.{and_join}
use Rattle.basics.proofs.Below.{all_below_of}
use Rattle.rules.specs.Board.{Board, empty, legal_or_empty}
use Rattle.rules.specs.Roster.{Roster, after}
use Rattle.rules.specs.FinalTest.{at_edits, capacity_passes, edges_pass, passes}
use Rattle.rules.specs.Sound.{Clear, Sound, Proper}
use Rattle.rules.proofs.Rosters.{spot}
use Rattle.rules.proofs.Passing.{at_edits_iff, judged, passes_iff}
use Rattle.rules.proofs.Soundness.{every_key, every_place, clear_iff}
use Rattle.soundness.proofs.Lasting.{Lasting, key_lasts, place_lasts}

-- where every holding passed a lasting test, and a list was judged by it, each row's own holding passes after the list
own-passes : {t : Roster → ℕ → ℕ → Bool} → Lasting t → (h : Roster) (L : List Edit) → ((r v : ℕ) → t h r v ≡ true)
    → at_edits (t (after h L)) h L ≡ true → (r : ℕ) → t (after h L) r (after h L r) ≡ true
own-passes {t} lasts h L f a r =
    ⊎_elim (λ same. rw same (lasts h L a r (h r) (f r (h r)))) (λ (old, new). new) (judged (t (after h L)) h L a r)

-- where every holding passes a test, every list does
edits_pass : {t : ℕ → ℕ → Bool} (h : Roster) (L : List Edit) → ((r v : ℕ) → t r v ≡ true) → at_edits t h L ≡ true
edits_pass {t} h L f = (at_edits_iff t h L).1 (λ e _. (f e.row (h e.row), f e.row e.value))

-- a list that passes leaves a clear roster clear, whatever that roster holds
pub clear_after : (B : Board) (h : Roster) (L : List Edit) → Clear B h → passes B h L ≡ true → Clear B (after h L)
unfolding capacity_passes edges_pass
clear_after B h L clear t =
    let (_, c, d) = (passes_iff B h L).0 t in
    let own_key = own-passes (key_lasts B) h L (every_key B h clear) c in
    let own-place = own-passes (place_lasts B) h L (every_place B h clear) d in
    (clear_iff B (after h L)).0 (all_below_of _ B.rows (λ r _. and_join (own_key r) (own-place r)))

-- what a row holds after a proper list is what it held, or the legal value of an edit
legal_after : (B : Board) (h : Roster) (L : List Edit) → Sound B h → Proper B h L → (r : ℕ) → r < B.rows
    → (after h L r ≡ empty → ⊥) → B.legal r (after h L r) ≡ true
unfolding legal_or_empty
legal_after B h L sound p r l n =
    ⊎_elim
    (λ same. rw same (sound.holdings r l (λ z. n (same ∙ z))))
    (λ (e, m, at, new). rw (new, ← at) (rw (ne_eqb e.value empty (λ z. n (new ∙ z))) at (p.each e m).legal))
    (spot h L r)

pub exact : (B : Board) (h : Roster) (L : List Edit) → Sound B h → passes B h L ≡ true ↔ (Proper B h L × Sound B (after h L))
unfolding capacity_passes edges_pass
exact B h L sound = (
  λ t.
      let proper = ((passes_iff B h L).0 t).0 in
      (proper, record { clear = clear_after B h L sound.clear t; holdings = legal_after B h L sound proper }),
  λ (proper, s). (passes_iff B h L).1
      (proper, edits_pass h L (every_key B (after h L) s.clear), edits_pass h L (every_place B (after h L) s.clear)),
)
