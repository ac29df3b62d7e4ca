-- Cells that are picked, segments one behind the other. Assumes nothing.
use Prim.Native.Nat.{ℕ, suc, ◌+◌, ◌-◌, ◌≤◌, ◌<◌, ◌/◌, ◌%◌}
use mathlib.Core.Path.{◌≡◌, refl, sym, ap, ◌∙◌}
use mathlib.Core.Bool.{true, false}
use mathlib.Core.List.{List}
use native.Mathlib.Nat.{le_antisymm}
use native.Mathlib.Numerals.{add-one}
use native.Mathlib.Omega.{arith}
use lib.Dec.{eqb}
use lib.IntN.{ℤ}
use lib.ListN.{get_or, set}
use borrow.Author.Tests.{eq-eqb, ne_eqb, lt-ltb, le-ltb}
use mir.Syntax.{w64}
use mir.Val.{SFits, to_z, of_z}
use mir.Facts.{to_z-of_z, to_z-neg}
use Rattle.vector_boards.specs.declared.tables.Filled.{Filled}
use Rattle.vector_words.specs.Words.{ahead}
use Rattle.vector_cells.specs.Cells.{set_below, copied_at}
use Rattle.vector_boards.specs.Tables.{next_seed, seed_after, colour, picked_at, behind_segment, segment_in, behind_segments, segments_in, begun, behind_table, table_in, mark_at, signed, rank_at}

pub no_colour : (seed colours : ℕ) → colours ≡ 0 → 0 ≡ colour seed colours
unfolding colour
no_colour seed colours e = rw (eq-eqb colours 0 e)

pub first_seed : (seed : ℕ) → seed ≡ seed_after seed 0
unfolding seed_after
first_seed seed = refl

pub another_seed : (first seed next i : ℕ) → seed ≡ seed_after first i → next ≡ next_seed seed → next ≡ seed_after first (i + 1)
unfolding seed_after
another_seed first seed next i e n = rw add-one (n ∙ ap next_seed e)

-- the code's first seed, the number of colours, the seed of this turn, the colour, its place behind the colours' start, its place, and the word there
pub picked_word : (words : List ℕ) (at i first behind colours seed next picked on place word : ℕ)
    → first ≡ get_or words at 0 → behind ≡ ahead at 1 → colours ≡ get_or words behind 0 → seed ≡ seed_after first i → next ≡ next_seed seed
    → picked ≡ colour next colours → on ≡ ahead 2 picked → place ≡ ahead at on → word ≡ get_or words place 0 → word ≡ picked_at words at i
unfolding picked_at seed_after
picked_word words at i first behind colours seed next picked on place word f b c s n p o h w = rw (w, h, o, p, n, s, c, b, f)

-- ---- one segment

module _ (words : List ℕ) (filled : Filled) (count kind_at kind behind all : ℕ)
    (c : count ≡ get_or words filled.at 0) (b : behind ≡ ahead filled.at 2) (a : all ≡ ahead filled.cells count)
    (p : kind_at ≡ ahead filled.at 1) (k : kind ≡ get_or words kind_at 0) where
  copy_kind : kind ≡ 0 → eqb (get_or words (ahead filled.at 1) 0) 0 ≡ true
  copy_kind e = eq-eqb (get_or words (ahead filled.at 1) 0) 0 (sym (k ∙ ap (λ (j : ℕ). get_or words j 0) p) ∙ e)

  pick_kind : (kind ≡ 0 → ⊥) → eqb (get_or words (ahead filled.at 1) 0) 0 ≡ false
  pick_kind f = ne_eqb (get_or words (ahead filled.at 1) 0) 0 (λ e. f (k ∙ ap (λ (j : ℕ). get_or words j 0) p ∙ e))

  pub copied_segment : (next : ℕ) (before after : List ℕ) → kind ≡ 0 → next ≡ ahead behind count
      → after ≡ set_below (ahead filled.cells) (copied_at words behind) count before
      → (◌≡◌ {A = Filled} (record { at = next; cells = all }) (behind_segment words filled)) × (after ≡ segment_in words filled before)
  unfolding behind_segment segment_in
  copied_segment next before after e n s = (rw (copy_kind e, n, a, b, c), s ∙ rw (copy_kind e, b, c))

  pub picked_segment : (two colours one next : ℕ) (before after : List ℕ) → (kind ≡ 0 → ⊥) → one ≡ ahead behind 1 → colours ≡ get_or words one 0
      → two ≡ ahead behind 2 → next ≡ ahead two colours → after ≡ set_below (ahead filled.cells) (picked_at words behind) count before
      → (◌≡◌ {A = Filled} (record { at = next; cells = all }) (behind_segment words filled)) × (after ≡ segment_in words filled before)
  unfolding behind_segment segment_in
  picked_segment two colours one next before after f o g t n s = (rw (pick_kind f, n, t, g, o, a, b, c), s ∙ rw (pick_kind f, b, c))

-- ---- segment after segment

module _ (words : List ℕ) (first : Filled) where
  pub no_segment : first ≡ behind_segments words first 0
  unfolding behind_segments
  no_segment = refl

  pub no_segment_in : (cells : List ℕ) → cells ≡ segments_in words first 0 cells
  unfolding segments_in
  no_segment_in cells = refl

  module _ (i : ℕ) (filled after : Filled) (e : filled ≡ behind_segments words first i) where
    pub one_segment : after ≡ behind_segment words filled → after ≡ behind_segments words first (i + 1)
    unfolding behind_segments
    one_segment s = rw add-one (s ∙ ap (behind_segment words) e)

    pub one_segment_in : (before cells more : List ℕ) → cells ≡ segments_in words first i before → more ≡ segment_in words filled cells → more ≡ segments_in words first (i + 1) before
    unfolding segments_in
    one_segment_in before cells more d s = rw add-one (s ∙ rw (d, e))

pub whole_table : (words : List ℕ) (at behind segments i : ℕ) (filled : Filled) (before cells : List ℕ) → behind ≡ ahead at 1 → segments ≡ get_or words at 0 → i ≤ segments → segments ≤ i
    → filled ≡ behind_segments words (record { at = behind; cells = 0 }) i → cells ≡ segments_in words (record { at = behind; cells = 0 }) i before
    → (filled ≡ behind_table words at) × (cells ≡ table_in words at before)
unfolding behind_table table_in begun
whole_table words at behind segments i filled before cells b s l g f c =
    let n : i ≡ get_or words at 0 = le_antisymm l g ∙ s in (f ∙ rw (n, b), c ∙ rw (n, b))

-- ---- cells as marks

pub mark_of : (cells : List ℕ) (i cell : ℕ) → cell ≡ get_or cells i 0 → cell % 256 ≡ mark_at cells i
unfolding mark_at
mark_of cells i cell e = ap (λ (n : ℕ). n % 256) e

pub one_colour : (seed colours : ℕ) → (colours ≡ 0 → ⊥) → seed / 65536 % colours ≡ colour seed colours
unfolding colour
one_colour seed colours f = rw (ne_eqb colours 0 f)

-- ---- cells as ranks

pub signed_low : (number : ℕ) → number < 9223372036854775808 → to_z w64 number ≡ signed number
unfolding signed
signed_low number h = rw (lt-ltb number 9223372036854775808 h)

pub signed_high : (number : ℕ) → 9223372036854775808 ≤ number → to_z w64 (18446744073709551615 - (18446744073709551615 - number)) ≡ signed number
unfolding signed
signed_high number h =
    let e : 18446744073709551615 - (18446744073709551615 - number) ≡ 18446744073709551616 - suc (18446744073709551615 - number) = omega arith in
    rw (le-ltb number 9223372036854775808 h, e) (to_z-neg w64 (18446744073709551615 - number) (omega arith))

pub rank_set : (ranks : List ℤ) (at cell : ℕ) (rank : ℤ) → SFits w64 rank → rank ≡ signed cell → set ranks at (to_z w64 (of_z w64 rank)) ≡ set ranks at (signed cell)
rank_set ranks at cell rank f e = ap (set ranks at) (to_z-of_z f ∙ e)

pub rank_of : (cells : List ℕ) (i cell : ℕ) → cell ≡ get_or cells i 0 → signed cell ≡ rank_at cells i
unfolding rank_at
rank_of cells i cell e = ap signed e
