-- No second result meets the contract of `read_roster`: neither another answer nor, where records are told, other cells. Of the cells nothing is said where the input is no roster file: they are scratch. Assumes nothing.
use Prim.Native.Nat.{ℕ}
use mathlib.Core.Path.{◌≡◌, refl, sym, ap, ◌∙◌}
use mathlib.Core.List.{List}
use Rattle.std.specs.Prelude.{Option, None, Some}
use Rattle.basics.specs.Promises.{Fixes, ◌&◌}
use Rattle.basics.proofs.Promises.{both}
use Rattle.outputs.specs.Outputs.{fronted}
use Rattle.listing_format.specs.Format.{Record}
use Rattle.listing_format.proofs.ReadBack.{one_reading}
use Rattle.listing_reading.specs.Cells.{written, Roster, RosterIs}
use Rattle.listing_reading.proofs.roster

-- the cells, where records are told
unfoldable pub told : Option ℕ → List ℕ → Option (List ℕ)
told (Some n) cells = Some cells
told None cells = None

module _ (bytes before : List ℕ) where
  pub same_list : (x y : List ℕ) (n m : ℕ) (a : Roster bytes before x n) (b : Roster bytes before y m) → a.list ≡ b.list
  same_list x y n m a b = one_reading bytes a.list b.list a.accepted b.accepted

  pub same-cells : (x y : List ℕ) (n m : ℕ) → Roster bytes before x n → Roster bytes before y m → x ≡ y
  same-cells x y n m a b = a.cells ∙ ap (λ (l : List Record). fronted (written l) before) (same_list x y n m a b) ∙ sym b.cells

  one_roster : (x y : List ℕ) (r s : Option ℕ) → RosterIs bytes before x r → RosterIs bytes before y s → (r ≡ s) × (told r x ≡ told s y)
  unfolding told
  one_roster x y (Some n) (Some m) a b = (rw (a.number, b.number, same_list x y n m a b), ap Some (same-cells x y n m a b))
  one_roster x y (Some n) None a b = absurd (b a.list a.accepted)
  one_roster x y None (Some m) a b = absurd (a b.list b.accepted)
  one_roster x y None None a b = (refl, refl)

pub read_roster : Fixes roster.read_roster.Reads.Post λ κs r e. r & told r e.1.0.now
read_roster κs a r s e f p q = let same = one_roster _ _ _ _ r s p q in both same.0 same.1
