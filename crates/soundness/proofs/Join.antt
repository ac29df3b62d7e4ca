-- A list that passes and one that passes after it join into one that passes and leaves the same roster. Assumes nothing.
use Prim.Native.Nat.{ℕ}
use mathlib.Core.Path.{◌≡◌, refl, sym, ◌∙◌, fun_ext}
use mathlib.Core.Logic.{◌⊎◌, inl, inr, ⊎_elim}
use mathlib.Core.Bool.{Bool, true, false}
use mathlib.Core.List.Memᴰ.{cases_cons}
use mathlib.Core.List.Memᴰ.{head as here}
use mathlib.Core.List.Memᴰ.{tail as there}
use mathlib.Core.List.{List, [], ◌∷◌}
use lib.Dec.{eqb}
use Rattle.basics.specs.Tests.{among, distinct}
use Rattle.basics.specs.Edits.{Edit, rows_of}
use Rattle.basics.proofs.Bools.{either, clash, or_none, or_neither}
use Rattle.basics.proofs.Lists.{◌∈◌, distinct_cons}
use Rattle.rules.specs.Board.{Board}
use Rattle.rules.specs.Roster.{Roster, put, after}
use Rattle.rules.specs.FinalTest.{at_edits, capacity_passes, edges_pass, passes}
use Rattle.rules.specs.Sound.{Proper}
use Rattle.rules.proofs.Rosters.{put_other, overwritten}
use Rattle.rules.proofs.Reading.{fits_anywhere}
use Rattle.rules.proofs.Passing.{at_edits_iff, judged, passes_iff}
use Rattle.soundness.specs.Demand3.{join}
use Rattle.soundness.proofs.Lasting.{Lasting, key_lasts, place_lasts}

module _ (M : List Edit) where
  -- an edit that M makes again leaves no trace
  pub after-join : (h : Roster) (L : List Edit) → after h (join L M) ≡ after (after h L) M
  unfolding join after
  after-join h [] = refl
  after-join h (e ∷ L) =
      let S = put h e.row e.value in
      either (among e.row (rows_of M))
      (λ t. rw t (after-join h L ∙ fun_ext (λ i. overwritten (after h L) (after S L) M
      (λ n. overwritten h S L (λ _. sym (put_other h e.row e.value (λ q. clash t (rw q at n))))))))
      (λ f. rw f (after-join S L))

  from-join : (L : List Edit) {e : Edit} → e ∈ join L M → (e ∈ L) ⊎ (e ∈ M)
  unfolding join
  from-join [] m = inr m
  from-join (f ∷ L) {e} m =
      let later : e ∈ join L M → (e ∈ f ∷ L) ⊎ (e ∈ M) = λ k. ⊎_elim (λ x. inl (there x)) inr (from-join L k) in
      either (among f.row (rows_of M))
      (λ t. later (rw t at m))
      (λ n. ⊎_elim (λ q. inl (here q)) later (cases_cons (rw n at m)))

  none_join : (r : ℕ) (L : List Edit) → among r (rows_of L) ≡ false → among r (rows_of M) ≡ false → among r (rows_of (join L M)) ≡ false
  unfolding join among rows_of
  none_join r [] a b = b
  none_join r (e ∷ L) a b =
      let (other, rest) = or_none (eqb r e.row) _ a in
      either (among e.row (rows_of M)) (λ t. rw t (none_join r L rest b)) (λ f. rw f (or_neither other (none_join r L rest b)))

  distinct-join : (L : List Edit) → distinct (rows_of L) ≡ true → distinct (rows_of M) ≡ true → distinct (rows_of (join L M)) ≡ true
  unfolding join rows_of
  distinct-join [] a b = b
  distinct-join (e ∷ L) a b =
      let (new, rest) = (distinct_cons e.row (rows_of L)).0 a in
      either (among e.row (rows_of M))
      (λ t. rw t (distinct-join L rest b))
      (λ f. rw f ((distinct_cons e.row (rows_of (join L M))).1 (none_join e.row L new f, distinct-join L rest b)))

  join-judged : {t : Roster → ℕ → ℕ → Bool} → Lasting t → (h : Roster) (L : List Edit) → at_edits (t (after h L)) h L ≡ true
      → at_edits (t (after (after h L) M)) (after h L) M ≡ true → at_edits (t (after h (join L M))) h (join L M) ≡ true
  join-judged {t} lasts h L a b =
      let S = after h L in
      rw (after-join h L) ((at_edits_iff (t (after S M)) h (join L M)).1 (λ e m. ⊎_elim
      (λ in-L. let (old, new) = (at_edits_iff (t S) h L).0 a e in-L in (lasts S M b _ _ old, lasts S M b _ _ new))
      (λ in-M. let (old, new) = (at_edits_iff (t (after S M)) S M).0 b e in-M in
      (⊎_elim (λ same. rw same at old) (λ (first, _). lasts S M b _ _ first) (judged (t S) h L a e.row), new))
      (from-join L m)))

pub joined : (B : Board) (h : Roster) (L M : List Edit) → passes B h L ≡ true → passes B (after h L) M ≡ true → passes B h (join L M) ≡ true
unfolding capacity_passes edges_pass
joined B h L M t u =
    let (p, c, d) = (passes_iff B h L).0 t in
    let (q, c', d') = (passes_iff B (after h L) M).0 u in
    let proper : Proper B h (join L M) = record {
      apart = distinct-join M L p.apart q.apart;
      each = λ e m. ⊎_elim (p.each e) (λ k. fits_anywhere B h (q.each e k)) (from-join M L m);
    } in
    (passes_iff B h (join L M)).1 (proper, join-judged M (key_lasts B) h L c c', join-judged M (place_lasts B) h L d d')
