-- The second half of a stamp. docs/RULES.md, 13.4.
use Rattle.std.specs.Prelude.{ℕ, cond, ◌&&◌, List, eqb, get_or, take, drop, Option, None, Some}
use Rattle.calendar_format.specs.Texts.{then, value_from}
use Rattle.calendar_stamps.specs.declared.Time.{Time}

-- of eight octets THHMMSSZ
unfoldable pub time_at : List ℕ → Option Time
time_at t =
    cond (eqb (get_or t 0 0) 84 && eqb (get_or t 7 0) 90)
    (then (value_from 0 (take 2 (drop 1 t)))
    (λ h. then (value_from 0 (take 2 (drop 3 t)))
    (λ m. then (value_from 0 (take 2 (drop 5 t)))
    (λ s. Some (record { hour = h; minute = m; second = s })))))
    None
