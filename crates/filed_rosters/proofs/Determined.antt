-- No second result meets the contract of `open_roster`: neither another answer nor, where a file is opened, another cell of a slice. Where it is refused, the slices are scratch. Assumes nothing.
use Prim.Native.Nat.{ℕ}
use mathlib.Core.Path.{◌≡◌, refl, sym, ap, ◌∙◌}
use mathlib.Core.List.{List}
use Rattle.std.specs.Prelude.{Option, None, Some, Ok, Err}
use Rattle.refusals.proofs.AnswerLaws.{ok-err}
use Rattle.refusals.specs.Refusals.{Answered}
use Rattle.refusals.specs.declared.Refusal.{Refusal}
use Rattle.basics.specs.Promises.{Fixes, ◌&◌}
use Rattle.basics.proofs.Promises.{both}
use Rattle.basics.proofs.Bools.{either}
use Rattle.assignment_tables.specs.declared.Shape.{Shape}
use Rattle.listing_shape.specs.declared.RosterFile.{RosterFile}
use Rattle.listing_shape.proofs.Determined.{one_opened, filled}
use Rattle.filed_rosters.specs.Filing.{roomy, FiledIs}
use Rattle.filed_rosters.proofs.opening

-- what is seen of the slices, where a file is opened
unfoldable pub where_filed : {A : Type 0} → Answered Shape → A → Option A
where_filed (Err r) x = None
where_filed (Ok S) x = Some x

module _ (input C m k R M : List ℕ) where
  abbrev Slices : Type 0
  Slices = List ℕ × (List ℕ × (List ℕ × (List ℕ × List ℕ)))

  abbrev At : Slices → Answered Shape → Type 0
  At x r = FiledIs input C m k R M x.0 x.1.0 x.1.1.0 x.1.1.1.0 x.1.1.1.1 r

  abbrev file : Shape → ℕ → RosterFile
  file S n = record { shape = S; count = n }

  not_both : (x y : Slices) (r : Refusal) (S : Shape) → At x (Err r) → At y (Ok S) → ⊥
  not_both x y r S a b =
      let e : Err r ≡ Ok (file S b.count) = (one_opened input C x.0 y.0 (Err r) (Ok (file S b.count)) (a.unopened b.scratch) b.opened).0 in
      ok-err (file S b.count) r (sym e)

  one_refusal : (x y : Slices) (r s : Refusal) → At x (Err r) → At y (Err s) → r ≡ s
  one_refusal x y r s a b =
      either (roomy C m k)
      (λ t. let e : Err r ≡ Err s = (one_opened input C x.0 y.0 (Err r) (Err s) (a.unopened t) (b.unopened t)).0 in let same : r ≡ s = cc in same)
      (λ f. a.no_scratch f ∙ sym (b.no_scratch f))

  one_index : (x y : Slices) (S T : Shape) → At x (Ok S) → At y (Ok T) → (S ≡ T) × (x ≡ y)
  unfolding filled
  one_index x y S T a b =
      let (files, cells) = one_opened input C x.0 y.0 (Ok (file S a.count)) (Ok (file T b.count)) a.opened b.opened in
      let one : file S a.count ≡ file T b.count = cc in
      let shapes : S ≡ T = ap (λ (f : RosterFile). f.shape) one in
      let number : a.count ≡ b.count = ap (λ (f : RosterFile). f.count) one in
      let same : x.0 ≡ y.0 = cc in (
        shapes,
        both same
            (both (a.fronts.marks ∙ rw (shapes, number, same) (sym b.fronts.marks))
            (both (a.fronts.keys ∙ rw (shapes, number, same) (sym b.fronts.keys))
            (both (a.fronts.records ∙ rw (shapes, number, same) (sym b.fronts.records)) (a.fronts.members ∙ rw (shapes, number, same) (sym b.fronts.members))))),
      )

  one_filed : (x y : Slices) (r s : Answered Shape) → At x r → At y s → (r & where_filed r x) ≡ (s & where_filed s y)
  unfolding where_filed
  one_filed x y (Err r) (Err s) a b = both (ap Err (one_refusal x y r s a b)) refl
  one_filed x y (Err r) (Ok T) a b = absurd (not_both x y r T a b)
  one_filed x y (Ok S) (Err s) a b = absurd (not_both y x s S b a)
  one_filed x y (Ok S) (Ok T) a b = let (shapes, slices) = one_index x y S T a b in both (ap Ok shapes) (ap Some slices)

pub open_roster : Fixes opening.open_roster.Reads.Post λ κs r e. r & where_filed r (e.1.0.now & e.1.1.0.now & e.1.1.1.0.now & e.1.1.1.1.0.now & e.1.1.1.1.1.0.now)
open_roster κs a r s e f p q =
    one_filed _ _ _ _ _ _ (e.1.0.now & e.1.1.0.now & e.1.1.1.0.now & e.1.1.1.1.0.now & e.1.1.1.1.1.0.now)
    (f.1.0.now & f.1.1.0.now & f.1.1.1.0.now & f.1.1.1.1.0.now & f.1.1.1.1.1.0.now) r s p q
