-- Five fields that are read make a line; one that is not leaves none. Assumes nothing.
use Prim.Native.Nat.{ℕ}
use mathlib.Core.Path.{◌≡◌, ◌∙◌}
use mathlib.Core.List.{List}
use Rattle.std.specs.Prelude.{Option, None, Some}
use Rattle.listing_format.specs.Parsing.{field_of, last_of, needed, line_of}
use Rattle.listing_format.proofs.LineReading.{then_some, then_none}

-- with the fields so far, what the rest of the line comes to
module _ (l : List ℕ) where
  pub no_row : needed l ≡ None → line_of l ≡ None
  unfolding line_of
  no_row e = then_none _ _ e

  module _ (row : ℕ) (a : List ℕ) (ea : needed l ≡ Some (row, a)) where
    pub no_value : needed a ≡ None → line_of l ≡ None
    unfolding line_of
    no_value e = then_some _ _ _ _ ea ∙ then_none _ _ e

    module _ (value : ℕ) (b : List ℕ) (eb : needed a ≡ Some (value, b)) where
      pub no_now : needed b ≡ None → line_of l ≡ None
      unfolding line_of
      no_now e = then_some _ _ _ _ ea ∙ then_some _ _ _ _ eb ∙ then_none _ _ e

      module _ (now : ℕ) (c : List ℕ) (ec : needed b ≡ Some (now, c)) where
        pub no_capacity : field_of c ≡ None → line_of l ≡ None
        unfolding line_of
        no_capacity e = then_some _ _ _ _ ea ∙ then_some _ _ _ _ eb ∙ then_some _ _ _ _ ec ∙ then_none _ _ e

        module _ (capacity : Option ℕ) (d : List ℕ) (ed : field_of c ≡ Some (capacity, d)) where
          pub no_sequence : last_of d ≡ None → line_of l ≡ None
          unfolding line_of
          no_sequence e = then_some _ _ _ _ ea ∙ then_some _ _ _ _ eb ∙ then_some _ _ _ _ ec ∙ then_some _ _ _ _ ed ∙ then_none _ _ e

          pub whole : (sequence : Option ℕ) (e : List ℕ) → last_of d ≡ Some (sequence, e)
              → line_of l ≡ Some (record { row = row; value = value; now = now; capacity = capacity; sequence = sequence }, e)
          unfolding line_of
          whole sequence e ee = then_some _ _ _ _ ea ∙ then_some _ _ _ _ eb ∙ then_some _ _ _ _ ec ∙ then_some _ _ _ _ ed ∙ then_some _ _ _ _ ee
