-- What is read of a text are the records that it renders, and a text that renders records is read: both directions, and no second list of records. Assumes nothing.
use Prim.Native.Nat.{ℕ, ◌+◌, ◌*◌, ◌≤◌}
use mathlib.Core.Path.{◌≡◌, refl, sym, ap, ◌∙◌}
use mathlib.Core.Logic.{◌⊎◌, inl, inr, ◌↔◌}
use mathlib.Core.Bool.{true}
use mathlib.Core.List.{List, [], ◌∷◌, ◌++◌, append_assoc, append-nil, append_cancel_right}
use Rattle.std.specs.Prelude.{Option, None, Some}
use native.Mathlib.Omega.{arith}
use lib.ListN.{length, take, drop, length-append, take-append-drop}
use lib.Seq.{take_at, drop_at}
use Rattle.basics.specs.Tests.{all, same_numbers}
use Rattle.basics.specs.Promises.{OneAnswer}
use Rattle.basics.proofs.Bools.{either}
use Rattle.basics.proofs.Lists.{same_numbers_iff}
use Rattle.listing_format.specs.Format.{Record, line_end, header, fields, lines, render, Renders, small_record, Accepted}
use Rattle.listing_format.specs.Parsing.{after_line, after_header, lines_of, lines_after, records_of}
use Rattle.listing_format.proofs.FieldReading.{after_line_form}
use Rattle.listing_format.proofs.LineReading.{fields_long}
use Rattle.listing_format.proofs.LinesReading.{Lines, lines_none, lines_nil, lines_cons, lines_form, lines-whole, cut, lines_cut, cut-whole}

-- ---- the header

pub header_long : length header ≡ 31
unfolding header
header_long = refl

-- a list that begins with the header
headed : (l : List ℕ) → take 31 l ≡ header → l ≡ header ++ drop 31 l
headed l e = sym (take-append-drop 31 l) ∙ ap (λ (h : List ℕ). h ++ drop 31 l) e

pub header_read : (l : List ℕ) → take 31 l ≡ header → after_header l ≡ after_line (drop 31 l)
unfolding after_header
header_read l e = rw ((same_numbers_iff (take 31 l) header).1 e)

pub header_unread : (l : List ℕ) → (take 31 l ≡ header → ⊥) → after_header l ≡ None
unfolding after_header
header_unread l f = either (same_numbers (take 31 l) header) (λ t. absurd (f ((same_numbers_iff (take 31 l) header).0 t))) (λ n. rw n)

header_form : (l rest : List ℕ) → after_header l ≡ Some rest → (l ≡ header ++ (13 ∷ 10 ∷ rest)) ⊎ ((l ≡ header) × (rest ≡ []))
unfolding after_header
header_form l rest h =
    either (same_numbers (take 31 l) header)
    (λ t. let e = headed l ((same_numbers_iff (take 31 l) header).0 t) in split e (after_line_form (drop 31 l) rest (rw t at h)))
    (λ f. let q : None ≡ Some rest = rw f at h in let z : ◌≡◌ {A = ℕ} 0 1 = cc in absurd (omega arith))
  where
    split : l ≡ header ++ drop 31 l → (drop 31 l ≡ 13 ∷ 10 ∷ rest) ⊎ ((drop 31 l ≡ []) × (rest ≡ [])) → (l ≡ header ++ (13 ∷ 10 ∷ rest)) ⊎ ((l ≡ header) × (rest ≡ []))
    split e (inl p) = inl (e ∙ ap (λ (t : List ℕ). header ++ t) p)
    split e (inr p) = inr (e ∙ ap (λ (t : List ℕ). header ++ t) p.0 ∙ append-nil header, p.1)

header-whole : (t rest : List ℕ) → after_line t ≡ Some rest → after_header (header ++ t) ≡ Some rest
header-whole t rest e = header_read (header ++ t) (take_at header t 31 header_long) ∙ ap after_line (drop_at header t 31 header_long) ∙ e

line_ended : (rest : List ℕ) → after_line (13 ∷ 10 ∷ rest) ≡ Some rest
unfolding after_line
line_ended rest = refl

line_missing : after_line [] ≡ Some []
unfolding after_line
line_missing = refl

-- ---- the whole text

render-lines : (rs : List Record) → render rs ≡ header ++ (13 ∷ 10 ∷ lines rs)
unfolding render
render-lines rs = append_assoc header line_end (lines rs)

after_form : (x : Option (List ℕ)) (rs : List Record) → lines_after x ≡ Some rs → (l : List ℕ) × (x ≡ Some l) × (lines_of l ≡ Some rs)
unfolding lines_after
after_form None rs h = let z : ◌≡◌ {A = ℕ} 0 1 = cc in absurd (omega arith)
after_form (Some l) rs h = (l, refl, h)

after_some : (x : Option (List ℕ)) (l : List ℕ) → x ≡ Some l → lines_after x ≡ lines_of l
unfolding lines_after
after_some x l e = rw e

with_header : (input l : List ℕ) (rs : List Record) → lines_of l ≡ Some rs
    → (input ≡ header ++ (13 ∷ 10 ∷ l)) ⊎ ((input ≡ header) × (l ≡ [])) → Lines l rs → Renders input rs
with_header input l rs h (inl p) (inl q) = inl (p ∙ ap (λ (t : List ℕ). header ++ (13 ∷ 10 ∷ t)) q ∙ sym (render-lines rs))
with_header input l rs h (inl p) (inr q) =
    inr (ap (λ (t : List ℕ). t ++ line_end) p ∙ append_assoc header (13 ∷ 10 ∷ l) line_end ∙ ap (λ (t : List ℕ). header ++ (13 ∷ 10 ∷ t)) q ∙ sym (render-lines rs))
with_header input l rs h (inr p) q =
    let n : Some rs ≡ Some [] = sym h ∙ ap lines_of p.1 ∙ lines_none in
    let e : rs ≡ [] = cc in
    inr (ap (λ (t : List ℕ). t ++ line_end) p.0 ∙ ap (λ (t : List ℕ). header ++ (13 ∷ 10 ∷ t)) (sym lines_nil) ∙ sym (render-lines []) ∙ ap render (sym e))

-- what is read, the text renders
pub read_form : (input : List ℕ) (rs : List Record) → records_of input ≡ Some rs → Renders input rs × (all small_record rs ≡ true)
unfolding records_of
read_form input rs h =
    let (l, e, g) = after_form (after_header input) rs h in
    let (f, s) = lines_form (length l) l rs (omega arith) g in
    (with_header input l rs g (header_form input l e) f, s)

read_whole : (rs : List Record) (input : List ℕ) → input ≡ render rs → all small_record rs ≡ true → records_of input ≡ Some rs
unfolding records_of
read_whole rs input e s =
    after_some (after_header input) (lines rs) (ap after_header (e ∙ render-lines rs) ∙ header-whole (13 ∷ 10 ∷ lines rs) (lines rs) (line_ended (lines rs))) ∙ lines-whole rs s

read_cut : (rs : List Record) (input : List ℕ) → input ++ line_end ≡ render rs → all small_record rs ≡ true → records_of input ≡ Some rs
unfolding records_of
read_cut [] input e s =
    let same : input ≡ header = append_cancel_right input header line_end (e ∙ render-lines [] ∙ ap (λ (t : List ℕ). header ++ (13 ∷ 10 ∷ t)) lines_nil) in
    after_some (after_header input) [] (ap after_header (same ∙ sym (append-nil header)) ∙ header-whole [] [] line_missing) ∙ lines_none
read_cut (r ∷ rs) input e s =
    let whole : input ++ line_end ≡ header ++ (13 ∷ 10 ∷ cut r rs) ++ line_end = e ∙ render-lines (r ∷ rs) ∙ ap (λ (t : List ℕ). header ++ (13 ∷ 10 ∷ t)) (lines_cut r rs) ∙ sym (append_assoc header (13 ∷ 10 ∷ cut r rs) line_end) in
    let same : input ≡ header ++ (13 ∷ 10 ∷ cut r rs) = append_cancel_right input (header ++ (13 ∷ 10 ∷ cut r rs)) line_end whole in
    after_some (after_header input) (cut r rs) (ap after_header same ∙ header-whole (13 ∷ 10 ∷ cut r rs) (cut r rs) (line_ended (cut r rs))) ∙ cut-whole r rs s

-- what the text renders is read
pub read_render : (input : List ℕ) (rs : List Record) → Renders input rs → all small_record rs ≡ true → records_of input ≡ Some rs
read_render input rs (inl e) s = read_whole rs input e s
read_render input rs (inr e) s = read_cut rs input e s

pub read_back : (input : List ℕ) (rs : List Record) → records_of input ≡ Some rs ↔ (Renders input rs × (all small_record rs ≡ true))
read_back input rs = (read_form input rs, λ (t, s). read_render input rs t s)

-- no text is the file of two lists of records
pub one_reading : (input : List ℕ) → OneAnswer (Accepted input)
one_reading input rs more a b =
    let q : Some rs ≡ Some more = sym (read_render input rs a.text a.numbers) ∙ read_render input more b.text b.numbers in
    cc

-- ---- how many records a text has

lines_long : (rs : List Record) → 9 * length rs ≤ length (lines rs)
lines_long [] = omega arith
lines_long (r ∷ rs) = omega (arith, ap length (lines_cons r rs), length-append (fields r) (13 ∷ 10 ∷ lines rs), fields_long r, lines_long rs)

render_long : (rs : List Record) → 33 + 9 * length rs ≤ length (render rs)
render_long rs = omega (arith, ap length (render-lines rs), length-append header (13 ∷ 10 ∷ lines rs), header_long, lines_long rs)

pub records_few : (input : List ℕ) (rs : List Record) → Accepted input rs → length rs ≤ 7278
records_few input rs a = few a.text
  where
    few : Renders input rs → length rs ≤ 7278
    few (inl e) = omega (arith, a.short, ap length e, render_long rs)
    few (inr e) = omega (arith, a.short, ap length e, length-append input line_end, render_long rs)
