-- A refusal or an answer. docs/RULES.md, 11.9 and 11.11.
use Rattle.std.specs.Prelude.{Bool, cond, Ok, Err}
use Rattle.std.specs.Result.{result_and}
use Rattle.refusals.specs.declared.Refusal.{Refusal}
use Rattle.refusals.specs.declared.Refusal.TheVariants as refusal
use Rattle.refusals.specs.Refusals.{Checked}

-- nothing is refused where a test says yes
abbrev pub refused_unless : Refusal → Bool → Checked
refused_unless r test = cond test (Ok tt) (Err r)

-- 11.11: a refusal that came before, and else this one where a test says no
unfoldable pub then_unless : Refusal → Checked → Bool → Checked
then_unless r before test = result_and before (refused_unless r test)

-- 11.9: too little room
abbrev pub then_room : Checked → Bool → Checked
then_room before room = then_unless refusal.Room before room

-- the answer where nothing is refused, else what is said of the refusal
unfoldable pub unless_refused : {A : Type 0} → (Refusal → A) → A → Checked → A
unless_refused refuse answer (Ok x) = answer
unless_refused refuse answer (Err r) = refuse r
