-- Small texts, read by the definitions alone. Assumes nothing.
use mathlib.Core.Path.{◌≡◌, refl}
use mathlib.Core.List.{[], ◌∷◌}
use Rattle.std.specs.Prelude.{None, Some}
use Rattle.basics.specs.Tests.{same_numbers}
use Rattle.decimals.specs.Reading.{digit, read_on, zero_then, decimal}
use Rattle.decimals.specs.Fields.{ends, front}
use Rattle.listing_format.specs.Format.{header}
use Rattle.listing_format.specs.Parsing.{content, after_comma, after_line, both, field_of, last_of, and_then, given, needed, line_of, prepend, lines_by, lines_of, after_header, lines_after, records_of}

-- no byte at all
nothing : records_of [] ≡ None
unfolding records_of lines_after after_header same_numbers header
nothing = refl

-- the header without its line end
header_alone : records_of (114 ∷ 111 ∷ 119 ∷ 44 ∷ 118 ∷ 97 ∷ 108 ∷ 117 ∷ 101 ∷ 44 ∷ 110 ∷ 111 ∷ 119 ∷ 44 ∷ 99 ∷ 97 ∷ 112 ∷ 97 ∷ 99 ∷ 105 ∷ 116 ∷ 121 ∷ 44 ∷ 115 ∷ 101 ∷ 113 ∷ 117 ∷ 101 ∷ 110 ∷ 99 ∷ 101 ∷ []) ≡ Some []
unfolding records_of lines_after after_header same_numbers header after_line lines_of lines_by prepend line_of needed given and_then field_of last_of both content after_comma decimal zero_then read_on digit front ends
header_alone = refl

-- a record with a capacity key and no sequence key
one_record : records_of (114 ∷ 111 ∷ 119 ∷ 44 ∷ 118 ∷ 97 ∷ 108 ∷ 117 ∷ 101 ∷ 44 ∷ 110 ∷ 111 ∷ 119 ∷ 44 ∷ 99 ∷ 97 ∷ 112 ∷ 97 ∷ 99 ∷ 105 ∷ 116 ∷ 121 ∷ 44 ∷ 115 ∷ 101 ∷ 113 ∷ 117 ∷ 101 ∷ 110 ∷ 99 ∷ 101 ∷ 13 ∷ 10 ∷ 48 ∷ 44 ∷ 48 ∷ 44 ∷ 49 ∷ 44 ∷ 48 ∷ 44 ∷ 13 ∷ 10 ∷ []) ≡ Some (record { row = 0; value = 0; now = 1; capacity = Some 0; sequence = None } ∷ [])
unfolding records_of lines_after after_header same_numbers header after_line lines_of lines_by prepend line_of needed given and_then field_of last_of both content after_comma decimal zero_then read_on digit front ends
one_record = refl

-- the last line end is optional
no_last_end : records_of (114 ∷ 111 ∷ 119 ∷ 44 ∷ 118 ∷ 97 ∷ 108 ∷ 117 ∷ 101 ∷ 44 ∷ 110 ∷ 111 ∷ 119 ∷ 44 ∷ 99 ∷ 97 ∷ 112 ∷ 97 ∷ 99 ∷ 105 ∷ 116 ∷ 121 ∷ 44 ∷ 115 ∷ 101 ∷ 113 ∷ 117 ∷ 101 ∷ 110 ∷ 99 ∷ 101 ∷ 13 ∷ 10 ∷ 48 ∷ 44 ∷ 48 ∷ 44 ∷ 49 ∷ 44 ∷ 48 ∷ 44 ∷ []) ≡ Some (record { row = 0; value = 0; now = 1; capacity = Some 0; sequence = None } ∷ [])
unfolding records_of lines_after after_header same_numbers header after_line lines_of lines_by prepend line_of needed given and_then field_of last_of both content after_comma decimal zero_then read_on digit front ends
no_last_end = refl

-- a leading zero
leading_zero : records_of (114 ∷ 111 ∷ 119 ∷ 44 ∷ 118 ∷ 97 ∷ 108 ∷ 117 ∷ 101 ∷ 44 ∷ 110 ∷ 111 ∷ 119 ∷ 44 ∷ 99 ∷ 97 ∷ 112 ∷ 97 ∷ 99 ∷ 105 ∷ 116 ∷ 121 ∷ 44 ∷ 115 ∷ 101 ∷ 113 ∷ 117 ∷ 101 ∷ 110 ∷ 99 ∷ 101 ∷ 13 ∷ 10 ∷ 48 ∷ 48 ∷ 44 ∷ 48 ∷ 44 ∷ 49 ∷ 44 ∷ 48 ∷ 44 ∷ 13 ∷ 10 ∷ []) ≡ None
unfolding records_of lines_after after_header same_numbers header after_line lines_of lines_by prepend line_of needed given and_then field_of last_of both content after_comma decimal zero_then read_on digit front ends
leading_zero = refl

-- line feeds alone
line_feed_alone : records_of (114 ∷ 111 ∷ 119 ∷ 44 ∷ 118 ∷ 97 ∷ 108 ∷ 117 ∷ 101 ∷ 44 ∷ 110 ∷ 111 ∷ 119 ∷ 44 ∷ 99 ∷ 97 ∷ 112 ∷ 97 ∷ 99 ∷ 105 ∷ 116 ∷ 121 ∷ 44 ∷ 115 ∷ 101 ∷ 113 ∷ 117 ∷ 101 ∷ 110 ∷ 99 ∷ 101 ∷ 10 ∷ 48 ∷ 44 ∷ 48 ∷ 44 ∷ 49 ∷ 44 ∷ 48 ∷ 44 ∷ 10 ∷ []) ≡ None
unfolding records_of lines_after after_header same_numbers header after_line lines_of lines_by prepend line_of needed given and_then field_of last_of both content after_comma decimal zero_then read_on digit front ends
line_feed_alone = refl

-- a blank line
blank_line : records_of (114 ∷ 111 ∷ 119 ∷ 44 ∷ 118 ∷ 97 ∷ 108 ∷ 117 ∷ 101 ∷ 44 ∷ 110 ∷ 111 ∷ 119 ∷ 44 ∷ 99 ∷ 97 ∷ 112 ∷ 97 ∷ 99 ∷ 105 ∷ 116 ∷ 121 ∷ 44 ∷ 115 ∷ 101 ∷ 113 ∷ 117 ∷ 101 ∷ 110 ∷ 99 ∷ 101 ∷ 13 ∷ 10 ∷ 13 ∷ 10 ∷ []) ≡ None
unfolding records_of lines_after after_header same_numbers header after_line lines_of lines_by prepend line_of needed given and_then field_of last_of both content after_comma decimal zero_then read_on digit front ends
blank_line = refl

-- a quoted field
quoted : records_of (114 ∷ 111 ∷ 119 ∷ 44 ∷ 118 ∷ 97 ∷ 108 ∷ 117 ∷ 101 ∷ 44 ∷ 110 ∷ 111 ∷ 119 ∷ 44 ∷ 99 ∷ 97 ∷ 112 ∷ 97 ∷ 99 ∷ 105 ∷ 116 ∷ 121 ∷ 44 ∷ 115 ∷ 101 ∷ 113 ∷ 117 ∷ 101 ∷ 110 ∷ 99 ∷ 101 ∷ 13 ∷ 10 ∷ 34 ∷ 48 ∷ 34 ∷ 44 ∷ 48 ∷ 44 ∷ 49 ∷ 44 ∷ 48 ∷ 44 ∷ 13 ∷ 10 ∷ []) ≡ None
unfolding records_of lines_after after_header same_numbers header after_line lines_of lines_by prepend line_of needed given and_then field_of last_of both content after_comma decimal zero_then read_on digit front ends
quoted = refl

-- a number that is too large
too_large : records_of (114 ∷ 111 ∷ 119 ∷ 44 ∷ 118 ∷ 97 ∷ 108 ∷ 117 ∷ 101 ∷ 44 ∷ 110 ∷ 111 ∷ 119 ∷ 44 ∷ 99 ∷ 97 ∷ 112 ∷ 97 ∷ 99 ∷ 105 ∷ 116 ∷ 121 ∷ 44 ∷ 115 ∷ 101 ∷ 113 ∷ 117 ∷ 101 ∷ 110 ∷ 99 ∷ 101 ∷ 13 ∷ 10 ∷ 49 ∷ 56 ∷ 52 ∷ 52 ∷ 54 ∷ 55 ∷ 52 ∷ 52 ∷ 48 ∷ 55 ∷ 51 ∷ 55 ∷ 48 ∷ 57 ∷ 53 ∷ 53 ∷ 49 ∷ 54 ∷ 49 ∷ 54 ∷ 44 ∷ 48 ∷ 44 ∷ 49 ∷ 44 ∷ 48 ∷ 44 ∷ 13 ∷ 10 ∷ []) ≡ None
unfolding records_of lines_after after_header same_numbers header after_line lines_of lines_by prepend line_of needed given and_then field_of last_of both content after_comma decimal zero_then read_on digit front ends
too_large = refl
