-- No two refusals share a number, and none has 0. Assumes nothing.
use Rattle.std.specs.Prelude.{◌≡◌, ℕ, cond, eqb, Option, None, Some, refl}
use Rattle.std.proofs.Common.{ap, sym, ◌∙◌, arith}
use Rattle.std.proofs.lemmas.Option.{same_Some}
use Rattle.refusals.specs.declared.Refusal.{Refusal}
use Rattle.refusals.specs.declared.Refusal.TheVariants as refusal
use Rattle.refusals.specs.Refusals.{number}

-- the refusal of a number, if one has it
refusal_of : ℕ → Option Refusal
refusal_of n =
    cond (eqb n 1) (Some refusal.Sizes) (
    cond (eqb n 2) (Some refusal.Candidates) (
    cond (eqb n 3) (Some refusal.HeldValue) (
    cond (eqb n 4) (Some refusal.RowOutOfRange) (
    cond (eqb n 5) (Some refusal.RowNamedTwice) (
    cond (eqb n 6) (Some refusal.FalseIndex) (
    cond (eqb n 7) (Some refusal.Room) (
    cond (eqb n 8) (Some refusal.Depth) (
    cond (eqb n 9) (Some refusal.Malformed) (
    cond (eqb n 10) (Some refusal.Cursor) (
    cond (eqb n 11) (Some refusal.DayTooLate) (
    cond (eqb n 13) (Some refusal.NoCalendar) (
    cond (eqb n 16) (Some refusal.NoDays) (
    cond (eqb n 17) (Some refusal.Stamp) (
    None))))))))))))))

read_back : (r : Refusal) → refusal_of (number r) ≡ Some r
unfolding refusal_of
read_back refusal.Sizes = refl
read_back refusal.Candidates = refl
read_back refusal.HeldValue = refl
read_back refusal.RowOutOfRange = refl
read_back refusal.RowNamedTwice = refl
read_back refusal.FalseIndex = refl
read_back refusal.Room = refl
read_back refusal.Depth = refl
read_back refusal.Malformed = refl
read_back refusal.Cursor = refl
read_back refusal.DayTooLate = refl
read_back refusal.NoCalendar = refl
read_back refusal.NoDays = refl
read_back refusal.Stamp = refl

pub told_apart : (r s : Refusal) → number r ≡ number s → r ≡ s
told_apart r s e = same_Some r s (sym (read_back r) ∙ ap refusal_of e ∙ read_back s)

pub never_0 : (r : Refusal) → number r ≡ 0 → ⊥
never_0 refusal.Sizes e = absurd (omega arith)
never_0 refusal.Candidates e = absurd (omega arith)
never_0 refusal.HeldValue e = absurd (omega arith)
never_0 refusal.RowOutOfRange e = absurd (omega arith)
never_0 refusal.RowNamedTwice e = absurd (omega arith)
never_0 refusal.FalseIndex e = absurd (omega arith)
never_0 refusal.Room e = absurd (omega arith)
never_0 refusal.Depth e = absurd (omega arith)
never_0 refusal.Malformed e = absurd (omega arith)
never_0 refusal.Cursor e = absurd (omega arith)
never_0 refusal.DayTooLate e = absurd (omega arith)
never_0 refusal.NoCalendar e = absurd (omega arith)
never_0 refusal.NoDays e = absurd (omega arith)
never_0 refusal.Stamp e = absurd (omega arith)
