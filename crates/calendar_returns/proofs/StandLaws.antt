-- A driver's duties rise by row, stay below the number of rows, and, where their days can be written, make a calendar. Assumes nothing.
use Prim.Native.Nat.{ℕ, zero, suc, ◌≤◌, ◌<◌}
use mathlib.Core.Path.{◌≡◌, refl, sym, ap, ◌∙◌}
use mathlib.Core.Bool.{true, ◌&&◌}
use mathlib.Core.List.{List, [], ◌∷◌, ◌++◌, append-nil}
use Rattle.std.specs.Prelude.{Option, None, Some}
use native.Mathlib.Omega.{arith}
use lib.Dec.{eqb, leb}
use borrow.Author.Tests.{leb-true}
use Rattle.basics.specs.Tests.{all}
use Rattle.basics.proofs.Bools.{either, and_left, and_right}
use Rattle.basics.proofs.Lists.{all_append}
use Rattle.rules.specs.Roster.{Roster}
use Rattle.civil_dates.specs.Dates.{last_day}
use Rattle.calendar_format.specs.Format.{Duty, standing}
use Rattle.calendar_format.specs.Slices.{duty, duty_days, datable}
use Rattle.calendar_format.proofs.StandingLaws.{stands, stand, stand_none}
use Rattle.driver_calendar.specs.Calendars.{duty_on, duty_at, duties_below}

-- those of a smaller number of rows
wider : (low top r : ℕ) (D : List Duty) → low ≤ top → standing low r D ≡ true → standing top r D ≡ true
wider low top r [] l h = stand_none top r
wider low top r (x ∷ D) l h =
    let c = stands low r x D h in
    stand top r x D (record { from = c.from; below = omega (arith, c.below); day = c.day; more = wider low top (suc x.row) D l c.more })

-- one more behind rows that are all below its own
one_behind : (top r q d : ℕ) (D : List Duty) → r ≤ q → q < top → d ≤ last_day → standing q r D ≡ true → standing top r (D ++ (duty q d ∷ [])) ≡ true
one_behind top r q d [] a b c h = stand top r (duty q d) [] (record { from = a; below = b; day = c; more = stand_none top (suc q) })
one_behind top r q d (x ∷ D) a b c h =
    let s = stands q r x D h in
    stand top r x (D ++ (duty q d ∷ [])) (record {
      from = s.from;
      below = omega (arith, s.below);
      day = s.day;
      more = one_behind top (suc x.row) q d D (omega (arith, s.below)) b c s.more;
    })

days_append : (D E : List Duty) → duty_days (D ++ E) ≡ duty_days D ++ duty_days E
unfolding duty_days
days_append [] E = refl
days_append (x ∷ D) E = ap (λ (l : List ℕ). x.day ∷ l) (days_append D E)

datable-both : (D E : List Duty) → datable (duty_days (D ++ E)) ≡ true → (datable (duty_days D) ≡ true) × (datable (duty_days E) ≡ true)
unfolding datable
datable-both D E h =
    let t : all (λ (d : ℕ). leb d last_day) (duty_days D) && all (λ (d : ℕ). leb d last_day) (duty_days E) ≡ true =
    sym (all_append (λ (d : ℕ). leb d last_day) (duty_days D) (duty_days E)) ∙ ap (all (λ (d : ℕ). leb d last_day)) (sym (days_append D E)) ∙ h in
    (and_left (all (λ (d : ℕ). leb d last_day) (duty_days D)) _ t, and_right (all (λ (d : ℕ). leb d last_day) (duty_days D)) _ t)

datable_one : (r d : ℕ) → datable (duty_days (duty r d ∷ [])) ≡ true → d ≤ last_day
unfolding datable duty_days all
datable_one r d h = leb-true d last_day (and_left (leb d last_day) _ h)

module _ (sequence : ℕ → ℕ → Option ℕ) (h : Roster) (v : ℕ) where
  with_row : (n r : ℕ) (D : List Duty) (o : Option ℕ) → r < n → standing r 0 D ≡ true → datable (duty_days (duty_on r o)) ≡ true → standing n 0 (D ++ duty_on r o) ≡ true
  unfolding duty_on
  with_row n r D None l s t = rw (append-nil D) (wider r n 0 D (omega arith) s)
  with_row n r D (Some d) l s t = one_behind n 0 r d D (omega arith) l (datable_one r d t) s

  pub duties_stand : (n : ℕ) → datable (duty_days (duties_below sequence h v n)) ≡ true → standing n 0 (duties_below sequence h v n) ≡ true
  unfolding duties_below duty_at
  duties_stand zero t = stand_none 0 0
  duties_stand (suc n) t =
      let (a, b) = datable-both (duties_below sequence h v n) (duty_at sequence h v n) t in
      let s = duties_stand n a in
      either (eqb (h n) v)
      (λ y. let c : datable (duty_days (duty_on n (sequence n v))) ≡ true = rw y at b in
      rw y (with_row (suc n) n (duties_below sequence h v n) (sequence n v) (omega arith) s c))
      (λ f. rw (f, append-nil (duties_below sequence h v n)) (wider n (suc n) 0 (duties_below sequence h v n) (omega arith) s))

  pub duties-wide : (n top : ℕ) → n ≤ top → datable (duty_days (duties_below sequence h v n)) ≡ true → standing top 0 (duties_below sequence h v n) ≡ true
  duties-wide n top l t = wider n top 0 (duties_below sequence h v n) l (duties_stand n t)
