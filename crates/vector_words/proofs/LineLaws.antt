-- A line read word by word. Assumes nothing.
use Prim.Native.Nat.{ℕ, ◌+◌, ◌-◌, ◌≤◌, ◌<◌}
use mathlib.Core.Path.{◌≡◌, sym, ap, ◌∙◌}
use mathlib.Core.List.{List}
use native.Mathlib.Nat.{sub-zero}
use native.Mathlib.Omega.{arith}
use lib.ListN.{length, get_or, take, drop, set}
use borrow.Author.Tests.{lt-ltb, le-ltb, eq-eqb, ne_eqb}
use Rattle.basics.proofs.Loops.{left}
use Rattle.std.specs.Prelude.{Option, None, Some}
use Rattle.decimals.specs.Decimals.{Reads}
use Rattle.decimals.specs.Fields.{front}
use Rattle.decimals.specs.Reading.{decimal}
use Rattle.decimals.proofs.FieldLaws.{front-taken}
use Rattle.decimals.proofs.ReadingLaws.{decimal-reads}
use Rattle.vector_words.specs.declared.lines.Field.{Field}
use Rattle.vector_words.specs.declared.lines.Line.{Line}
use Rattle.vector_words.specs.Words.{ahead}
use Rattle.vector_words.specs.Lines.{field_at, taken, read_words, read_line}

-- ---- a field

pub field_past : (text : List ℕ) (from : ℕ) → length text < from → ◌≡◌ {A = Field} (record { number = None; end = from }) (field_at text from)
unfolding field_at
field_past text from h = rw (lt-ltb (length text) from h)

pub field_there : (text : List ℕ) (from end : ℕ) (number : Option ℕ) → from ≤ length text → end ≡ from + length (front (drop from text))
    → Reads (take (end - from) (drop from text)) number → ◌≡◌ {A = Field} (record { number = number; end = end }) (field_at text from)
unfolding field_at
field_there text from end number h e r =
    let long : end - from ≡ length (front (drop from text)) = omega arith in
    let part : take (end - from) (drop from text) ≡ front (drop from text) = rw long (front-taken (drop from text)) in
    let is : number ≡ decimal (front (drop from text)) = decimal-reads (take (end - from) (drop from text)) number r ∙ ap decimal part in
    rw (le-ltb (length text) from h, is, e)

-- ---- the loop: what is sought is what reading from here on comes to

pub line_begins : (text : List ℕ) (from : ℕ) (words : List ℕ) → read_line text from words ≡ read_words text (32768 - 0) from 0 words
unfolding read_line
line_begins text from words = ap (λ (k : ℕ). read_words text k from 0 words) (sym (sub-zero 32768))

module _ (text : List ℕ) (sought : Line × List ℕ) (at n : ℕ) (words : List ℕ) (e : sought ≡ read_words text (32768 - n) at n words) where
  pub no_end : 32768 ≤ n → (record { words = None; next = at }, words) ≡ sought
  unfolding read_words
  no_end h = let none : 32768 - n ≡ 0 = omega arith in sym (e ∙ rw none)

  module _ (h : n < 32768) (field : Field) (f : field ≡ field_at text at) where
    pub no_number : field.number ≡ None → (record { words = None; next = field.end }, words) ≡ sought
    unfolding read_words taken
    no_number m = let u : (field_at text at).number ≡ None = sym (ap (λ (x : Field). x.number) f) ∙ m in sym (e ∙ rw (left 32768 n h, u, f))

    module _ (word : ℕ) (t : field.number ≡ Some word) (byte : ℕ) (b : byte ≡ get_or text field.end 0) where
      number_there : (field_at text at).number ≡ Some word
      number_there = sym (ap (λ (x : Field). x.number) f) ∙ t

      byte_there : byte ≡ get_or text (field_at text at).end 0
      byte_there = b ∙ ap (λ (x : Field). get_or text x.end 0) f

      pub line_ends : byte ≡ 13 → (next : ℕ) → next ≡ ahead field.end 2 → (record { words = Some (n + 1); next = next }, set words n word) ≡ sought
      unfolding read_words taken
      line_ends q next p =
          let u = number_there in
          let v = eq-eqb (get_or text (field_at text at).end 0) 13 (sym byte_there ∙ q) in
          sym (e ∙ rw (left 32768 n h, u, v, p, f))

      pub line_goes_on : (byte ≡ 13 → ⊥) → (next : ℕ) → next ≡ ahead field.end 1 → sought ≡ read_words text (32768 - (n + 1)) next (n + 1) (set words n word)
      unfolding read_words taken
      line_goes_on q next p =
          let u = number_there in
          let v = ne_eqb (get_or text (field_at text at).end 0) 13 (λ (z : _). q (byte_there ∙ z)) in
          e ∙ rw (left 32768 n h, u, v, p, f)
