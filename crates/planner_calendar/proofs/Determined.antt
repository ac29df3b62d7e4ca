-- No second result meets the contract of `file_calendar`: neither another answer nor another octet of the output. Of cells, marks and keys it says nothing: they are scratch. Assumes nothing.
use Prim.Native.Nat.{ℕ}
use mathlib.Core.Path.{◌≡◌, sym, ap, ◌∙◌}
use mathlib.Core.Logic.{◌⊎◌, inl, inr}
use mathlib.Core.Bool.{Bool, true}
use mathlib.Core.List.{List}
use Rattle.basics.specs.Promises.{Fixes, ◌&◌}
use Rattle.basics.proofs.Bools.{either}
use Rattle.listing_format.specs.Format.{Record, Accepted}
use Rattle.listing_shape.proofs.Determined.{decided}
use Rattle.driver_calendar.specs.Calendars.{Left, leaves}
use Rattle.planner_calendar.specs.FileCalendar.{CalendarIs}
use Rattle.planner_calendar.proofs

one_calendar : (input : List ℕ) (driver : ℕ) (stamp O : List ℕ) (scratch : Bool) (x y : Left) → CalendarIs input driver stamp O scratch x.out x.answer
    → CalendarIs input driver stamp O scratch y.out y.answer → x ≡ y
one_calendar input driver stamp O scratch x y a b =
    either scratch
    (λ t. go t (decided input))
    (λ f. a.no_scratch f ∙ sym (b.no_scratch f))
  where
    go : scratch ≡ true → ((rs : List Record) × Accepted input rs) ⊎ ((rs : List Record) → Accepted input rs → ⊥) → x ≡ y
    go t (inl (rs, w)) = a.file t rs w ∙ sym (b.file t rs w)
    go t (inr n) = a.malformed t n ∙ sym (b.malformed t n)

pub file_calendar : Fixes proofs.file_calendar.Reads.Post λ κs r e. r & e.1.1.1.0.now
file_calendar κs a r s e f p q =
    ap (λ (x : Left). x.answer & x.out) (one_calendar _ _ _ _ _ (leaves r e.1.1.1.0.now) (leaves s f.1.1.1.0.now) p q)
