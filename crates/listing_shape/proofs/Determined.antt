-- No second result meets a contract of this crate: neither another answer nor, where a file is opened, other cells. Of the cells nothing is said where it is refused: they are scratch. Assumes nothing.
use Prim.Native.Nat.{ℕ, ◌≤◌}
use mathlib.Core.Path.{◌≡◌, refl, sym, ap, ap₂, ◌∙◌}
use mathlib.Core.Logic.{◌⊎◌, inl, inr}
use mathlib.Core.List.{List}
use Rattle.std.specs.Prelude.{Option, None, Some, Ok, Err, true}
use native.Mathlib.Omega.{arith}
use lib.ListN.{length}
use Rattle.refusals.proofs.AnswerLaws.{ok-err}
use Rattle.refusals.specs.Answers.{refused_unless}
use Rattle.refusals.specs.Refusals.{Answered}
use Rattle.refusals.specs.declared.Refusal.{Refusal}
use Rattle.listing_shape.specs.FileBoard.{board_of}
use Rattle.basics.specs.Promises.{Fixes, FixesAnswer, ◌&◌}
use Rattle.basics.proofs.Promises.{alike, both}
use Rattle.basics.proofs.Bools.{by, either, clash}
use Rattle.refusals.specs.declared.Refusal.TheVariants as refusal
use Rattle.listing_format.specs.Format.{Record, agree, Accepted}
use Rattle.listing_format.specs.Parsing.{records_of}
use Rattle.listing_format.proofs.ReadBack.{read_form, read_render}
use Rattle.listing_reading.proofs.Determined.{same_list, same-cells}
use Rattle.listing_shape.specs.declared.RosterFile.{RosterFile}
use Rattle.listing_shape.specs.Counts.{file_shape}
use Rattle.listing_shape.specs.Opening.{Unopened, Open, OpenedIs, in_limits}
use Rattle.listing_shape.proofs.OpenLaws.{in_limits_lem}
use Rattle.listing_shape.proofs.counts
use Rattle.listing_shape.proofs.opening

-- an input is the file of some records, or of none
pub decided : (input : List ℕ) → ((rs : List Record) × Accepted input rs) ⊎ ((rs : List Record) → Accepted input rs → ⊥)
decided input =
    by 65536 (length input)
    (λ l. inr (λ rs a. omega (arith, a.short)))
    (λ l. go l (records_of input) refl)
  where
    go : length input ≤ 65536 → (x : Option (List Record)) → records_of input ≡ x → ((rs : List Record) × Accepted input rs) ⊎ ((rs : List Record) → Accepted input rs → ⊥)
    go l None e = inr (λ rs a. let q : Some rs ≡ None = sym (read_render input rs a.text a.numbers) ∙ e in let z : ◌≡◌ {A = ℕ} 0 1 = cc in omega arith)
    go l (Some rs) e =
        let (text, numbers) = read_form input rs e in
        either (agree rs)
        (λ t. inl (rs, record { short = l; text = text; numbers = numbers; agreed = t }))
        (λ f. inr (λ other a.
        let q : Some other ≡ Some rs = sym (read_render input other a.text a.numbers) ∙ e in
        let same : other ≡ rs = cc in
        clash (ap agree (sym same) ∙ a.agreed) f))

-- the cells, where a file is opened
unfoldable pub filled : Answered RosterFile → List ℕ → Option (List ℕ)
filled (Err r) cells = None
filled (Ok f) cells = Some cells

module _ (input before : List ℕ) where
  not_both : (x : List ℕ) (f : RosterFile) (r : Refusal) → Open input before x f.shape f.count → Unopened input r → ⊥
  not_both x f r a b =
      let within : in_limits (board_of a.records.list) ≡ true = in_limits_lem input before x f.count a.records f.shape a.told in
      let refused : Err r ≡ refused_unless refusal.Sizes true = b.file a.records.list a.records.accepted ∙ ap (refused_unless refusal.Sizes) within in
      ok-err tt r (sym refused)

  one_refusal : (r s : Refusal) → Unopened input r → Unopened input s → r ≡ s
  one_refusal r s a b = go (decided input)
    where
      go : ((rs : List Record) × Accepted input rs) ⊎ ((rs : List Record) → Accepted input rs → ⊥) → r ≡ s
      go (inl (rs, w)) = let same : Err r ≡ Err s = a.file rs w ∙ sym (b.file rs w) in cc
      go (inr w) = a.malformed w ∙ sym (b.malformed w)

  one_file : (x y : List ℕ) (f g : RosterFile) → Open input before x f.shape f.count → Open input before y g.shape g.count → (f ≡ g) × (x ≡ y)
  one_file x y f g a b =
      let cells : x ≡ y = same-cells input before x y f.count g.count a.records b.records in
      let number : f.count ≡ g.count = a.records.number ∙ ap length (same_list input before x y f.count g.count a.records b.records) ∙ sym b.records.number in
      let shapes : Some f.shape ≡ Some g.shape = a.told ∙ ap₂ file_shape cells number ∙ sym b.told in
      let same : f.shape ≡ g.shape = cc in
      (λ i. record { shape = same i; count = number i }, cells)

  pub one_opened : (x y : List ℕ) (r s : Answered RosterFile) → OpenedIs input before x r → OpenedIs input before y s → (r ≡ s) × (filled r x ≡ filled s y)
  unfolding filled
  one_opened x y (Err r) (Err s) a b = (ap Err (one_refusal r s a b), refl)
  one_opened x y (Err r) (Ok g) a b = absurd (not_both y g r b a)
  one_opened x y (Ok f) (Err s) a b = absurd (not_both x f s a b)
  one_opened x y (Ok f) (Ok g) a b = let (files, cells) = one_file x y f g a b in (ap Ok files, ap Some cells)

pub open_file : Fixes opening.open_file.Reads.Post λ κs r e. r & filled r e.1.0.now
open_file κs a r s e f p q = let same = one_opened _ _ _ _ r s p q in both same.0 same.1

pub file_shape_lem : FixesAnswer counts.file_shape.Reads.Post
file_shape_lem κs a r s e f = alike
