-- What the final test is for: from a sound roster it lets through exactly the proper lists that leave a sound one. docs/RULES.md, 4.3.
use Rattle.std.specs.Prelude.{◌≡◌, ◌↔◌, true, cond}
use mathlib.Core.List.{List, [], ◌∷◌, Memᴰ}
use Rattle.basics.specs.Tests.{among}
use Rattle.basics.specs.Edits.{Edit, rows_of}
use Rattle.basics.specs.Sorting.{Reordered}
use Rattle.rules.specs.Board.{Board, empty}
use Rattle.rules.specs.Roster.{Roster, after}
use Rattle.rules.specs.FinalTest.{passes}
use Rattle.rules.specs.Sound.{Sound, Proper}

-- 4.3: L and M as one list: what M sets again is dropped from L, and then comes M
unfoldable pub join : List Edit → List Edit → List Edit
join [] M = M
join (e ∷ L) M = cond (among e.row (rows_of M)) (join L M) (e ∷ join L M)

-- 4.3: the list that puts the old values back: each row that L names, with the value that it holds in h
unfoldable pub undo : Roster → List Edit → List Edit
undo h [] = []
undo h (e ∷ L) = record { row = e.row; value = h e.row } ∷ undo h L

-- 4.3: the old values may be put back: a row that was empty may be, and no required row was; what a sound roster holds is legal anyway
pub record Returnable (B : Board) (h : Roster) (L : List Edit) : Type 0 where
  pub legal : (e : Edit) → Memᴰ e L → h e.row ≡ empty → B.may_empty e.row ≡ true
  pub required : (e : Edit) → Memᴰ e L → B.required e.row ≡ true → h e.row ≡ empty → ⊥

-- 4.3, of a board and a roster
pub record Demand3 (B : Board) (h : Roster) : Type 0 where
  -- 4.3: from a sound roster a list passes exactly when it is proper and the roster after it is sound
  pub exact : (L : List Edit) → Sound B h → passes B h L ≡ true ↔ (Proper B h L × Sound B (after h L))
  -- 4.3: the order of its edits is indifferent, whatever the roster
  pub order : (L M : List Edit) → Reordered L M → (passes B h L ≡ passes B h M) × (passes B h L ≡ true → after h L ≡ after h M)
  -- 4.3: a list that passes and one that passes after it join into one that passes, whatever the roster; and joined, any two leave the roster
  -- that they leave one after the other
  pub joins : (L M : List Edit) → (passes B h L ≡ true → passes B (after h L) M ≡ true → passes B h (join L M) ≡ true)
      × (after h (join L M) ≡ after (after h L) M)
  -- 4.3: where a list passed from a sound roster, putting back the old values passes, if they may be put back; and it restores every roster,
  -- with its index, which board and roster determine (2.5)
  pub undoes : (L : List Edit) → (Sound B h → passes B h L ≡ true → Returnable B h L → passes B (after h L) (undo h L) ≡ true)
      × (after (after h L) (undo h L) ≡ h)
