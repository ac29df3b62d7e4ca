-- Records written into cells line by line. Assumes nothing.
use Prim.Native.Nat.{ℕ, ◌+◌, ◌*◌, ◌-◌, ◌≤◌, ◌<◌}
use mathlib.Core.Path.{◌≡◌, refl, sym, ap, subst, ◌∙◌}
use mathlib.Core.List.{List, [], ◌∷◌, ◌++◌, append_assoc, append-nil}
use Rattle.std.specs.Prelude.{Option, None, Some}
use native.Mathlib.Omega.{arith}
use borrow.Rule.Slice.PartMut.{put_mid}
use lib.ListN.{length, take, drop, length-append, length-drop, drop_of_length-le}
use lib.Seq.{sets, sets-eq, length-sets, drop-drop}
use Rattle.basics.proofs.Maps.{sets_append}
use Rattle.outputs.proofs.Writing.{sets_front}
use Rattle.listing_format.specs.Format.{Record}
use Rattle.listing_format.specs.Parsing.{line_of, prepend, lines_of, after_header, lines_after, records_of}
use Rattle.listing_format.proofs.LineReading.{line_used}
use Rattle.listing_format.proofs.LinesReading.{lines_none, lines_more, lines_fail}
use Rattle.listing_reading.specs.Cells.{cells_of, written, Ready, Held, RecordsAre}

-- ---- the cells of records

pub written-append : (rs ss : List Record) → written (rs ++ ss) ≡ written rs ++ written ss
unfolding written
written-append [] ss = refl
written-append (r ∷ rs) ss = ap (λ (l : List ℕ). cells_of r ++ l) (written-append rs ss)

pub written_one : (r : Record) → written (r ∷ []) ≡ cells_of r
unfolding written
written_one r = refl

pub written-length : (rs : List Record) → length (written rs) ≡ length rs * 7
unfolding written
written-length [] = refl
written-length (r ∷ rs) = let e = written-length rs in omega arith

-- a list copied into its part of a slice
pub pasted : (s : List ℕ) (a n : ℕ) (xs ys : List ℕ) → length xs ≡ n → a + n ≤ length s → ys ≡ xs → put_mid a (a + n - a) s ys ≡ sets s a xs
pasted s a n xs ys l h e =
    let long : a + n - a ≡ length xs = omega arith in
    rw (e, long, drop-drop (length xs) a s) (sym (append_assoc (take a s) xs (drop (a + length xs) s)) ∙ sym (sets-eq xs s a (omega arith)))

-- ---- records before what is left

prepend_none : (x : Option (List Record)) → x ≡ prepend [] x
unfolding prepend
prepend_none None = refl
prepend_none (Some rs) = refl

prepend-twice : (rs ss : List Record) (x : Option (List Record)) → prepend rs (prepend ss x) ≡ prepend (rs ++ ss) x
unfolding prepend
prepend-twice rs ss None = refl
prepend-twice rs ss (Some ts) = ap Some (sym (append_assoc rs ss ts))

prepend_fails : (rs : List Record) → prepend rs None ≡ None
unfolding prepend
prepend_fails rs = refl

prepend-ends : (rs : List Record) → prepend rs (Some []) ≡ Some rs
unfolding prepend
prepend-ends rs = ap Some (append-nil rs)

-- ---- the lines, one a turn

pub record Progress (bytes : List ℕ) (from : ℕ) (before cells : List ℕ) (count at : ℕ) : Type 0 where
  pub within : at ≤ length bytes
  pub list : List Record
  pub number : count ≡ length list
  pub few : count ≤ 7300
  pub left : lines_of (drop from bytes) ≡ prepend list (lines_of (drop at bytes))
  pub stored : cells ≡ sets before 0 (written list)
  pub used : at < length bytes → from + count * 9 ≤ at

pub begun : (bytes : List ℕ) (from : ℕ) (cells : List ℕ) → from ≤ length bytes → Progress bytes from cells cells 0 from
unfolding written
begun bytes from cells h = record {
  within = h;
  list = [];
  number = refl;
  few = omega arith;
  left = prepend_none (lines_of (drop from bytes));
  stored = refl;
  used = λ l. omega arith;
}

-- a line that is read has bytes
pub moved_on : (bytes : List ℕ) (at : ℕ) (l : Record) (next : ℕ) → (next ≤ length bytes) × (line_of (drop at bytes) ≡ Some (l, drop next bytes)) → (at < length bytes → at < next) × (next ≤ length bytes)
moved_on bytes at l next r =
    let u = (line_used (drop at bytes) l (drop next bytes) r.1).0 in
    (λ h. omega (arith, length-drop at bytes, length-drop next bytes, r.0), r.0)

not_empty : (l : List ℕ) → 0 < length l → l ≡ [] → ⊥
not_empty l h e = omega (arith, ap length e)

module _ (bytes : List ℕ) (from : ℕ) (before cells : List ℕ) (count at : ℕ) (p : Progress bytes from before cells count at) where
  pub same-length_so_far : length cells ≡ length before
  same-length_so_far = ap length p.stored ∙ length-sets before 0 (written p.list)

  module _ (ready : Ready bytes before) where
    pub room : at < length bytes → count * 7 + 7 ≤ length cells
    room h = omega (arith, p.used h, ready.short, ready.room, same-length_so_far)

    pub turned : at < length bytes → (l : Record) (next : ℕ) → (next ≤ length bytes) × (line_of (drop at bytes) ≡ Some (l, drop next bytes))
        → (after : List ℕ) → after ≡ sets cells (count * 7) (cells_of l) → Progress bytes from before after (count + 1) next
    turned h l next r after w =
        let u = line_used (drop at bytes) l (drop next bytes) r.1 in
        let behind = length-drop at bytes in
        let ahead = length-drop next bytes in
        let size = written-length p.list in
        let start : count * 7 ≡ 0 + length (written p.list) = omega (arith, p.number) in
        let one : written (l ∷ []) ≡ cells_of l = written_one l in
        record {
          within = r.0;
          list = p.list ++ (l ∷ []);
          number = omega (arith, p.number, length-append p.list (l ∷ []));
          few = omega (arith, p.used h, ready.short);
          left =
              p.left
              ∙ ap (prepend p.list) (lines_more (drop at bytes) l (drop next bytes) r.1)
              ∙ prepend-twice p.list (l ∷ []) (lines_of (drop next bytes));
          stored =
              w
              ∙ rw (p.stored, start) (sym (sets_append before 0 (written p.list) (cells_of l)))
              ∙ ap (λ (x : List ℕ). sets before 0 (written p.list ++ x)) (sym one)
              ∙ ap (sets before 0) (sym (written-append p.list (l ∷ [])));
          used = λ k. omega (arith, p.used h, r.0, u.1 (not_empty (drop next bytes) (omega arith)));
        }

    pub ended : length bytes ≤ at → Held (lines_of (drop from bytes)) before cells count
    ended h =
        let done : lines_of (drop at bytes) ≡ Some [] = ap lines_of (drop_of_length-le bytes h) ∙ lines_none in
        record {
          list = p.list;
          number = p.number;
          few = p.few;
          is = p.left ∙ ap (prepend p.list) done ∙ prepend-ends p.list;
          cells = p.stored ∙ sets_front (written p.list) before (omega (arith, written-length p.list, p.number, p.few, ready.room));
        }

  pub failed : at < length bytes → line_of (drop at bytes) ≡ None → lines_of (drop from bytes) ≡ None
  failed h e =
      p.left
      ∙ ap (prepend p.list) (lines_fail (drop at bytes) (λ z. omega (arith, length-drop at bytes)) e)
      ∙ prepend_fails p.list

-- ---- the text

module _ (bytes : List ℕ) where
  pub no_header : after_header bytes ≡ None → records_of bytes ≡ None
  unfolding records_of lines_after
  no_header n = rw n

  pub behind-header : (from : ℕ) → after_header bytes ≡ Some (drop from bytes) → records_of bytes ≡ lines_of (drop from bytes)
  unfolding records_of lines_after
  behind-header from n = rw n

pub records_so : (x y : Option (List Record)) (before after : List ℕ) (r : Option ℕ) → x ≡ y → RecordsAre y before after r → RecordsAre x before after r
records_so x y before after r e h = subst (λ (z : Option (List Record)). RecordsAre z before after r) (sym e) h
