-- A text that is read, and whose records agree, is a roster file, and no other is. Assumes nothing.
use Prim.Native.Nat.{ℕ, ◌≤◌, ◌<◌}
use mathlib.Core.Path.{◌≡◌, sym, ap, ◌∙◌}
use mathlib.Core.Bool.{Bool, true, false}
use mathlib.Core.List.{List}
use Rattle.std.specs.Prelude.{Option, None, Some}
use Rattle.std.proofs.lemmas.Option.{MatchOption-at_none}
use native.Mathlib.Omega.{arith}
use lib.ListN.{length}
use Rattle.basics.specs.Tests.{all_below}
use Rattle.basics.proofs.Bools.{clash}
use Rattle.listing_format.specs.Format.{Record, stands, agree, Accepted}
use Rattle.listing_format.specs.Parsing.{records_of}
use Rattle.listing_format.proofs.ReadBack.{read_form, read_render}
use Rattle.listing_reading.specs.Cells.{record_in, Held, RecordsAre, Roster}
use Rattle.listing_reading.proofs.AgreementLaws.{agree-cells}

pub too_long : (bytes : List ℕ) → 65536 < length bytes → (rs : List Record) → Accepted bytes rs → ⊥
too_long bytes h rs a = omega (arith, a.short)

pub unread : (bytes before after : List ℕ) (r : Option ℕ) → RecordsAre (records_of bytes) before after r → r ≡ None → (rs : List Record) → Accepted bytes rs → ⊥
unread bytes before after r h e rs a =
    let n : records_of bytes ≡ None = MatchOption-at_none _ _ e h in
    let q : Some rs ≡ None = sym (read_render bytes rs a.text a.numbers) ∙ n in
    let z : ◌≡◌ {A = ℕ} 0 1 = cc in
    omega arith

module _ (bytes before after : List ℕ) (count : ℕ) (h : Held (records_of bytes) before after count) (b : Bool) (e : b ≡ all_below count (stands (record_in after))) where
  says : b ≡ agree h.list
  says = e ∙ agree-cells h.list before after count h.cells h.number

  pub disagree : b ≡ false → (rs : List Record) → Accepted bytes rs → ⊥
  disagree f rs a =
      let q : Some rs ≡ Some h.list = sym (read_render bytes rs a.text a.numbers) ∙ h.is in
      let same : rs ≡ h.list = cc in
      clash (ap agree (sym same) ∙ a.agreed) (sym says ∙ f)

  pub accepted : length bytes ≤ 65536 → b ≡ true → Roster bytes before after count
  accepted s t =
      let (text, numbers) = read_form bytes h.list h.is in
      record {
        list = h.list;
        number = h.number;
        accepted = record { short = s; text = text; numbers = numbers; agreed = sym says ∙ t };
        cells = h.cells;
      }
